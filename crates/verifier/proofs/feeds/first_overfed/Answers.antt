-- `first_overfed` meets its contract: the answer from k on is the answer.
use Rattle.facts.proofs.Loops.{scan_start, scan_end}
use Rattle.verifier.proofs.Feeding.{count_more, count_stop}
use Rattle.verifier.proofs.feeds.first_overfed.Goals as goal

pub loop-k-init : goal.loop-k-init
loop-k-init c = search scan_start

pub returns-then-not-may_feed : goal.returns-then-not-may_feed
returns-then-not-may_feed c = search count_stop

pub loop-k-preserved : goal.loop-k-preserved
loop-k-preserved c = search count_more

pub returns : goal.returns
returns c = search scan_end
