-- `write_levels` meets its contract: the source is copied, then the levels of the records below k are written.
use Rattle.levels.proofs.LevelBytes.{written_start, written_more}
use Rattle.levels.proofs.writing.write_levels.Goals as goal

pub loop-k-init : goal.loop-k-init
loop-k-init c = search written_start

pub loop-k-preserved : goal.loop-k-preserved
loop-k-preserved c = search written_more
