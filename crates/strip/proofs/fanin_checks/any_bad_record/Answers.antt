-- `any_bad_record` meets its contract: no record below k is bad, until one is or all are passed.
use Rattle.facts.proofs.Loops.{any_start}
use Rattle.strip.proofs.Fanins.{record_bad, record_good}
use Rattle.strip.proofs.fanin_checks.any_bad_record.Goals as goal

pub loop-k-init : goal.loop-k-init
loop-k-init c = search any_start

pub returns-then-bad_fanins : goal.returns-then-bad_fanins
returns-then-bad_fanins c = search record_bad

pub loop-k-preserved : goal.loop-k-preserved
loop-k-preserved c = search record_good
