-- `check_areas` meets its contract: 18 by its test, then 19.
use Rattle.facts.proofs.Reflect.{check_stop, check_go}
use Rattle.simulator.proofs.Checks.{row_short}
use Rattle.simulator.specs.Evaluate.{evaluate_checks}
use Rattle.simulator.proofs.area_checks.check_areas.Goals as goal

pub returns-then-bad_areas : goal.returns-then-bad_areas
unfolding evaluate_checks
returns-then-bad_areas c = search check_stop

pub check_bits-requires : goal.check_bits-requires
check_bits-requires c = search row_short

pub returns : goal.returns
unfolding evaluate_checks
returns c = search check_go
