-- `put_numbers` meets its contract: the numbers so far are put.
use Rattle.level_sheet.proofs.Lines.{Putting}
use Rattle.level_sheet.proofs.writing.put_numbers.Given as goal

abbrev pub invariant-loop-number : goal.invariant-loop-number
invariant-loop-number l = Putting l.numbers l.initial.text l.text l.end l.number-index
