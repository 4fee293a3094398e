-- `count_records` meets its contract: the records below k are counted.
use borrow.Author.Rules.{rules}
use Rattle.level_sheet.proofs.Table.{counting_start, more_fits, counting_more, counting_end}
use Rattle.level_sheet.proofs.counting.count_records.Goals as goal

pub loop-k-init : goal.loop-k-init
loop-k-init c = search (rules, counting_start)

pub overflow_add-table : goal.overflow_add-table
overflow_add-table c = search (rules, more_fits)

pub loop-k-preserved : goal.loop-k-preserved
loop-k-preserved c = search counting_more

pub returns : goal.returns
returns c = search counting_end
