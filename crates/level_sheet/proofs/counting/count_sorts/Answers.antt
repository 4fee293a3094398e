-- `count_sorts` meets its contract: each sort is counted by itself.
use borrow.Author.Rules.{rules}
use Rattle.level_sheet.proofs.Table.{total_fits, gates_fit, totals_are}
use Rattle.level_sheet.proofs.counting.count_sorts.Goals as goal

pub overflow_cast-result : goal.overflow_cast-result
overflow_cast-result c = search (rules, total_fits)

pub overflow_cast-result-2 : goal.overflow_cast-result-2
overflow_cast-result-2 c = search (rules, gates_fit)

pub overflow_cast-result-3 : goal.overflow_cast-result-3
overflow_cast-result-3 c = search (rules, total_fits)

pub overflow_cast-result-4 : goal.overflow_cast-result-4
overflow_cast-result-4 c = search (rules, total_fits)

pub returns : goal.returns
returns c = search totals_are
