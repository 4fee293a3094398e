-- `line_count` meets its contract: one more than the highest level of the records below k.
use Rattle.level_sheet.proofs.Table.{lines_start, lines_more, lines_end}
use Rattle.level_sheet.proofs.counting.line_count.Goals as goal

pub loop-k-init : goal.loop-k-init
loop-k-init c = lines_start c.args.mapped.now

pub loop-k-preserved : goal.loop-k-preserved
loop-k-preserved c = search lines_more

pub returns : goal.returns
returns c = search lines_end
