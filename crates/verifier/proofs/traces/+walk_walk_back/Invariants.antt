-- The measure of the cycle of calls {walk, walk_back} is twice the level, and one more before a walk goes on; the level falls at each walk.
use Prim.Native.Nat.{◌+◌}
use Rattle.verifier.proofs.traces.+walk_walk_back.Given as goal

abbrev pub decreases-walk : goal.decreases-walk
decreases-walk l = l.level + l.level + 1

abbrev pub decreases-walk_back : goal.decreases-walk_back
decreases-walk_back l = l.level + l.level
