-- `walk` meets its contract: from distance k on the row holds the buffers, or nothing.
use Rattle.fanout.proofs.Walking.{Walking}
use Rattle.fanout.proofs.walk.Given as goal

abbrev pub invariant-loop-k : goal.invariant-loop-k
invariant-loop-k l = Walking l.s l.initial.row l.keep l.row l.k l.nodes l.buffers

abbrev pub decreases-loop-k : goal.decreases-loop-k
decreases-loop-k l = l.k
