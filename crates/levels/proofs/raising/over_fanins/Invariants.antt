-- `over_fanins` meets its contract: the largest entry of the first j slots.
use Rattle.facts.proofs.Loops.{LargestSoFar}
use Rattle.netlist.specs.Kinds.{slots}
use Rattle.levels.specs.PrivateLevels.{fanin_entry}
use Rattle.levels.proofs.raising.over_fanins.Given as goal

abbrev pub invariant-loop-slot : goal.invariant-loop-slot
invariant-loop-slot l = LargestSoFar (fanin_entry l.reach l.n l.fn.r) slots l.level l.slot-index
