-- `run` meets its contract: both areas are written where the checks passed, and are as they were where they did not.
use Rattle.simulator.proofs.Checks.{judged_few, judged_named, judged_buffered, run_verified, run_areas, area_writes, area_keeps}
use Rattle.simulator.specs.Run.{run_area, run_outputs}
use Rattle.simulator.proofs.run.Goals as goal

pub returns-in_err-check_run-clause-area : goal.returns-in_err-check_run-clause-area
unfolding run_area
returns-in_err-check_run-clause-area c = search (area_keeps, c.in_err-check_run.ensures)

pub returns-in_err-check_run-clause-outputs : goal.returns-in_err-check_run-clause-outputs
unfolding run_outputs
returns-in_err-check_run-clause-outputs c = search (area_keeps, c.in_err-check_run.ensures)

pub new-stepper-requires : goal.new-stepper-requires
new-stepper-requires c = record {
  named = search (judged_named, run_verified, c.in_ok-check_run.ensures);
  buffered = search (judged_buffered, run_verified, c.in_ok-check_run.ensures);
}

pub play-requires : goal.play-requires
play-requires c = record {
  source_bound = search (judged_few, run_verified, c.in_ok-check_run.ensures);
  run = rw c.new-stepper.ensures (search (run_areas, c.in_ok-check_run.ensures));
}

pub returns-clause-area : goal.returns-clause-area
unfolding run_area
returns-clause-area c = area_writes _ _ _ _ c.in_ok-check_run.ensures (rw c.new-stepper.ensures at c.play.ensures.state_after)

pub returns-clause-outputs : goal.returns-clause-outputs
unfolding run_outputs
returns-clause-outputs c = area_writes _ _ _ _ c.in_ok-check_run.ensures (rw c.new-stepper.ensures at c.play.ensures.outs_after)
