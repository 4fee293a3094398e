-- `raise` meets its contract: levels are worked out below k.
use Rattle.levels.proofs.FaninLevels.{Levelling}
use Rattle.levels.proofs.raising.raise.Given as goal

abbrev pub invariant-loop-k : goal.invariant-loop-k
invariant-loop-k l = Levelling l.source l.capacity l.reach l.levels l.top l.k
