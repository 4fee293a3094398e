-- `line_count` meets its contract: one more than the highest level of the records below k.
use Rattle.level_sheet.proofs.Table.{LinesSoFar}
use Rattle.level_sheet.proofs.counting.line_count.Given as goal

abbrev pub invariant-loop-k : goal.invariant-loop-k
invariant-loop-k l = LinesSoFar l.mapped l.lines l.k
