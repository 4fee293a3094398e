-- `write_counts` meets its contract: the numbers of the indices before k are stored.
use Rattle.facts.proofs.Stored.{stored_start}
use Rattle.nets.proofs.ListedCounts.{looked_more}
use borrow.Author.Rules.{rules}
use Rattle.nets.proofs.counts.write_counts.Goals as goal

pub loop-k-init : goal.loop-k-init
loop-k-init c = search (rules, stored_start)

pub loop-k-preserved : goal.loop-k-preserved
loop-k-preserved c =
    let l = c.before in
    let a = l.args in
    looked_more a.records.now a.totals.now l.loop-k.counts a.counts.now l.loop-k.k _ _ _ l.loop-k.invariant (search rules) c.index_at-d.ensures.0 (search rules) c.write_four.ensures
