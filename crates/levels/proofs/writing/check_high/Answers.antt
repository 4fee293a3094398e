-- `check_high` meets its contract: where the largest level is not too high, none is.
use Rattle.levels.proofs.LevelBytes.{all_low}
use Rattle.levels.proofs.writing.check_high.Goals as goal

pub returns-then-highest-le-TOP_LEVEL : goal.returns-then-highest-le-TOP_LEVEL
returns-then-highest-le-TOP_LEVEL c = search all_low
