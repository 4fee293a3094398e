-- `keep` meets its contract: the first i bytes are kept in the second half, all else is as it was.
use Rattle.simulator.proofs.Writes.{Keeping}
use Rattle.simulator.proofs.one_step.keep.Given as goal

abbrev pub invariant-loop-i : goal.invariant-loop-i
invariant-loop-i l = Keeping l.m l.state l.initial.state l.i
