-- The cycle of calls {walk, walk_back} meets its contracts: the level falls at each walk, and what is found is kept.
use Rattle.verifier.proofs.Walking.{walk_stays, walk_level, walk_keeps}
use Rattle.verifier.proofs.traces.+walk_walk_back.Goals as goal

pub walk-returns-then-from-n : goal.walk-returns-then-from-n
walk-returns-then-from-n t c = walk_stays _ _ _ _ _ c.requires (rw c.from.ensures at c.if-from-n.true)

pub walk_back-overflow_sub-level : goal.walk_back-overflow_sub-level
walk_back-overflow_sub-level t c = search walk_level

pub walk_back-returns : goal.walk_back-returns
walk_back-returns t c =
    rw c.from-2.ensures
    (walk_keeps _ _ _ _ _ c.requires.traceable c.requires.n_le_x _ (rw c.from.ensures at c.slot_at.ensures) _ _ c.walk-d.ensures)
