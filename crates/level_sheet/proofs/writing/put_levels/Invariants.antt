-- `put_levels` meets its contract: the lines of the levels below `level` are put.
use Rattle.level_sheet.proofs.Lines.{PuttingLevels}
use Rattle.level_sheet.proofs.writing.put_levels.Given as goal

abbrev pub invariant-loop-level : goal.invariant-loop-level
invariant-loop-level l = PuttingLevels l.table l.lines l.initial.text l.text l.end l.level
