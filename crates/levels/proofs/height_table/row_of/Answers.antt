-- `row_of` meets its contract: a test of the whole table, all rows and columns, is computed, and `row_is` turns it into each row.
use Rattle.facts.specs.Sums.{any}
use Rattle.levels.proofs.HeightRows.{row_is}
use Rattle.levels.proofs.height_table.row_of.Goals as goal

pub returns : goal.returns
unfolding any
returns c = search row_is
