-- `Netlists::check_row` meets its contract: 18 by its test, then 19.
use Rattle.facts.proofs.Reflect.{check_stop, check_go}
use Rattle.simulator.proofs.Checks.{rows_fit}
use Rattle.simulator.specs.Step.{step_checks}
use Rattle.simulator.proofs.area_checks.Netlists.check_row.Goals as goal

pub returns-then-bad_rows : goal.returns-then-bad_rows
unfolding step_checks
returns-then-bad_rows c = search check_stop

pub check_bits-requires : goal.check_bits-requires
check_bits-requires c = search rows_fit

pub returns : goal.returns
unfolding step_checks
returns c = search check_go
