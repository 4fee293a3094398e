-- `Netlists::check_rows` meets its contract: 18 by its tests, then 19.
use Rattle.facts.proofs.Reflect.{check_stop, check_go}
use Rattle.simulator.proofs.Checks.{few_rows, rows_fit}
use Rattle.simulator.specs.Run.{run_checks}
use borrow.Author.Rules.{rules}
use Rattle.simulator.proofs.area_checks.Netlists.check_rows.Goals as goal

pub returns-then-bad_rows : goal.returns-then-bad_rows
unfolding run_checks
returns-then-bad_rows c = search check_stop

pub bad_outputs-requires : goal.bad_outputs-requires
bad_outputs-requires c = search (rules, few_rows)

pub returns-then-bad_outputs : goal.returns-then-bad_outputs
unfolding run_checks
returns-then-bad_outputs c = search (check_go, check_stop)

pub check_bits-requires : goal.check_bits-requires
check_bits-requires c = search rows_fit

pub returns : goal.returns
unfolding run_checks
returns c = search check_go
