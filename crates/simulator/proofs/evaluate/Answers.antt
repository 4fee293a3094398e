-- `evaluate` meets its contract: the area is written where the checks passed, and is as it was where they did not.
use Rattle.std.proofs.Common.{rules}
use Rattle.simulator.proofs.Checks.{evaluate_source_is, evaluate_room, evaluated, area_writes, area_keeps}
use Rattle.simulator.specs.Evaluate.{evaluate_area}
use Rattle.simulator.proofs.evaluate.Goals as goal

pub returns-in_err-check_evaluate-clause-area : goal.returns-in_err-check_evaluate-clause-area
unfolding evaluate_area
returns-in_err-check_evaluate-clause-area c = search (area_keeps, c.in_err-check_evaluate.ensures)

pub fill-requires-clause-source : goal.fill-requires-clause-source
fill-requires-clause-source c = search (evaluate_source_is, c.in_ok-check_evaluate.ensures)

pub fill-requires-clause-sizes : goal.fill-requires-clause-sizes
fill-requires-clause-sizes c = search (rules, evaluate_room, c.in_ok-check_evaluate.ensures)

pub returns-clause-area : goal.returns-clause-area
unfolding evaluate_area
returns-clause-area c = search (area_writes, evaluated, c.in_ok-check_evaluate.ensures)
