-- `level_of` meets its contract: an output's other slots have a 0.
use borrow.Author.Rules.{rules}
use Rattle.levels.proofs.FaninLevels.{output_level_lem}
use Rattle.levels.proofs.raising.level_of.Goals as goal

pub returns-then-r-eq-OUTPUT : goal.returns-then-r-eq-OUTPUT
returns-then-r-eq-OUTPUT c = search (rules, output_level_lem)
