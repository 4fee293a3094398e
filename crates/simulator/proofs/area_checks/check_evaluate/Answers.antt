-- `check_evaluate` meets its contract: the source is checked first, the areas where it passed.
use Rattle.std.proofs.Common.{rules, ◌≡◌, Err}
use Rattle.facts.proofs.Reflect.{then_stop, then_go}
use Rattle.simulator.specs.Evaluate.{evaluate_answer}
use Rattle.simulator.proofs.area_checks.check_evaluate.Goals as goal

pub returns-in_err-check_source : goal.returns-in_err-check_source
unfolding evaluate_answer
returns-in_err-check_source c =
    let e : c.from_residual.result ≡ Err c.in_err-check_source.field-0.0 = search rules in
    rw e (search (then_stop, c.in_err-check_source.ensures))

pub returns : goal.returns
unfolding evaluate_answer
returns c = search (then_go, c.in_ok-check_source.ensures)
