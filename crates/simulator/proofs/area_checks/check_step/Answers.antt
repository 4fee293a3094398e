-- `check_step` meets its contract: the verifier first, the areas where it accepted.
use Rattle.std.proofs.Common.{rules, ◌≡◌, Err}
use Rattle.facts.proofs.Reflect.{then_stop, then_go}
use Rattle.simulator.proofs.Checks.{judged_few}
use Rattle.simulator.specs.Step.{step_answer}
use Rattle.simulator.proofs.area_checks.check_step.Goals as goal

pub returns-in_err-check_mapping : goal.returns-in_err-check_mapping
unfolding step_answer
returns-in_err-check_mapping c =
    let e : c.from_residual.result ≡ Err c.in_err-check_mapping.field-0.0 = search rules in
    rw e (search (then_stop, c.in_err-check_mapping.ensures))

pub invariant_of-check_row : goal.invariant_of-check_row
invariant_of-check_row c = search (judged_few, c.in_ok-check_mapping.ensures)

pub returns : goal.returns
unfolding step_answer
returns c = search (then_go, c.in_ok-check_mapping.ensures)
