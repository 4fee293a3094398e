-- `put_sheet` meets its contract: the lines of all levels, then the totals behind them.
use borrow.Author.Rules.{rules}
use Rattle.level_sheet.proofs.Sheets.{lines_fit, sum_room, sheet_end, sheet_put}
use Rattle.level_sheet.proofs.put_sheet.Goals as goal

pub put_levels-end-requires : goal.put_levels-end-requires
put_levels-end-requires c = search (rules, lines_fit)

pub put_sum-requires : goal.put_sum-requires
put_sum-requires c = search (rules, sum_room)

pub returns : goal.returns
returns c = search (sheet_end, sheet_put)
