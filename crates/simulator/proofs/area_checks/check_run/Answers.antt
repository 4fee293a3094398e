-- `check_run` meets its contract: the verifier first, the areas where it accepted.
use Rattle.std.proofs.Common.{rules, ◌≡◌, Err}
use Rattle.facts.proofs.Reflect.{then_stop, then_go}
use Rattle.simulator.proofs.Checks.{judged_few}
use Rattle.simulator.specs.Run.{run_answer}
use Rattle.simulator.proofs.area_checks.check_run.Goals as goal

pub returns-in_err-check_mapping : goal.returns-in_err-check_mapping
unfolding run_answer
returns-in_err-check_mapping c =
    let e : c.from_residual.result ≡ Err c.in_err-check_mapping.field-0.0 = search rules in
    rw e (search (then_stop, c.in_err-check_mapping.ensures))

pub invariant_of-check_rows : goal.invariant_of-check_rows
invariant_of-check_rows c = search (judged_few, c.in_ok-check_mapping.ensures)

pub returns : goal.returns
unfolding run_answer
returns c = search (then_go, c.in_ok-check_mapping.ensures)
