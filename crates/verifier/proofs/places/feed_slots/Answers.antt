-- `feed_slots` meets its contract: the slots below j are good and counted, until one is bad or all are passed.
use borrow.Author.Rules.{rules}
use Rattle.verifier.proofs.Feeding.{slots_start, slots_bad, slots_more}
use Rattle.verifier.proofs.places.feed_slots.Goals as goal

pub loop-j-init : goal.loop-j-init
loop-j-init c = search slots_start

pub returns-then-bad_fanin : goal.returns-then-bad_fanin
returns-then-bad_fanin c = search slots_bad

pub loop-j-preserved : goal.loop-j-preserved
loop-j-preserved c = slots_more _ _ _ _ _ _ c.loop-j.invariant _ _ _ (search rules) (search rules) c.feed.ensures c.bad_fanin.ensures (search rules)
