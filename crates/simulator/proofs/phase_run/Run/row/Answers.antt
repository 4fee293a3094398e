-- `Run::row` meets its contract: a whole row, and nothing once the rows are spent.
use Rattle.simulator.proofs.Playing.{at_fits, row_parts}
use borrow.Author.Rules.{rules}
use Rattle.simulator.proofs.phase_run.Run.row.Goals as goal

pub overflow_mul-at : goal.overflow_mul-at
overflow_mul-at c = record { fits = search (rules, at_fits) }

pub returns : goal.returns
returns c = search row_parts
