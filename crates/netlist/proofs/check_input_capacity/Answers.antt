-- `check_input_capacity` meets its contract: the answer follows from the test.
use Rattle.facts.proofs.Reflect.{check_bad, check_good}
use Rattle.netlist.proofs.check_input_capacity.Goals as goal

pub returns-then-is_outside : goal.returns-then-is_outside
returns-then-is_outside c = search check_bad

pub returns : goal.returns
returns c = search check_good
