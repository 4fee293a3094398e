-- `over_fanins` meets its contract: the largest entry of the first j slots.
use borrow.Author.Rules.{rules}
use Rattle.facts.proofs.Loops.{largest_start, largest_more}
use Rattle.levels.proofs.FaninLevels.{entry_is}
use Rattle.levels.proofs.raising.over_fanins.Goals as goal

pub loop-slot-init : goal.loop-slot-init
loop-slot-init c = search largest_start

pub loop-slot-preserved : goal.loop-slot-preserved
loop-slot-preserved c = search (rules, largest_more, entry_is)
