-- `check_level` meets its contract: each return follows from the test that led there.
use Rattle.facts.proofs.Reflect.{check_bad, check_good}
use Rattle.netlist.proofs.source_reader.check_level.Goals as goal

pub returns-then-bad_level : goal.returns-then-bad_level
returns-then-bad_level c = search check_bad

pub returns : goal.returns
returns c = search check_good
