-- `first_high` meets its contract: the answer from k on is the answer.
use Rattle.facts.proofs.Loops.{scan_start, scan_end}
use Rattle.levels.proofs.LevelBytes.{high_here, low_here}
use Rattle.levels.proofs.writing.first_high.Goals as goal

pub loop-k-init : goal.loop-k-init
loop-k-init c = search scan_start

pub returns-then-levels-k-gt-TOP_LEVEL : goal.returns-then-levels-k-gt-TOP_LEVEL
returns-then-levels-k-gt-TOP_LEVEL c = search high_here

pub loop-k-preserved : goal.loop-k-preserved
loop-k-preserved c = search low_here

pub returns : goal.returns
returns c = search scan_end
