-- `step` meets its contract: the area is one step on where the checks passed, and is as it was where they did not.
use Rattle.std.proofs.Common.{rules}
use Rattle.simulator.proofs.Checks.{step_named, step_buffered, step_room, area_writes, area_keeps}
use Rattle.simulator.specs.Step.{step_area}
use Rattle.simulator.proofs.step.Goals as goal

pub returns-in_err-check_step-clause-area : goal.returns-in_err-check_step-clause-area
unfolding step_area
returns-in_err-check_step-clause-area c = search (area_keeps, c.in_err-check_step.ensures)

pub new-requires : goal.new-requires
new-requires c = record {
  named = search (step_named, c.in_ok-check_step.ensures);
  buffered = search (step_buffered, c.in_ok-check_step.ensures);
}

pub advance-requires : goal.advance-requires
advance-requires c = search (rules, step_room, c.in_ok-check_step.ensures)

pub returns-clause-area : goal.returns-clause-area
unfolding step_area
returns-clause-area c = area_writes _ _ _ _ c.in_ok-check_step.ensures (rw c.new.ensures at c.advance.ensures)
