-- `rise` meets its contract: few sinks are compared with the first entries.
use Rattle.std.proofs.Common.{rules}
use Rattle.levels.proofs.HeightRows.{height_few, rise_of_few}
use Rattle.levels.proofs.height_table.rise.Goals as goal

pub overflow_cast-result : goal.overflow_cast-result
overflow_cast-result c = record { fits = search (rules, height_few) }

pub overflow_add-result : goal.overflow_add-result
overflow_add-result c = record { fits = search (rules, height_few) }

pub returns : goal.returns
returns c = search rise_of_few
