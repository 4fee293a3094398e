-- `level_source` meets its contract: 2 to 6 first, then the least levels.
use Rattle.levels.proofs.Answering.{zeros_start, unraised}
use Rattle.levels.proofs.level_source.Goals as goal

pub check_structured-requires : goal.check_structured-requires
check_structured-requires c = search zeros_start

pub level_counted-requires : goal.level_counted-requires
level_counted-requires c = search (unraised, zeros_start, c.in_ok-check_structured.ensures)
