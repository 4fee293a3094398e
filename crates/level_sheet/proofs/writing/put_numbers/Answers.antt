-- `put_numbers` meets its contract: the numbers so far are put.
use borrow.Author.Rules.{rules}
use Rattle.level_sheet.proofs.Lines.{putting_start, number_room, putting_more, end_inside, line_ends, line_put}
use Rattle.level_sheet.proofs.writing.put_numbers.Goals as goal

pub loop-number-init : goal.loop-number-init
loop-number-init c = search (rules, putting_start)

pub put_next-end-requires : goal.put_next-end-requires
put_next-end-requires c = search (rules, number_room)

pub loop-number-preserved : goal.loop-number-preserved
loop-number-preserved c = search putting_more

pub bounds-text-end : goal.bounds-text-end
bounds-text-end c = search (rules, end_inside)

pub returns : goal.returns
returns c = search (line_ends, line_put)
