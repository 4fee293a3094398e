-- `level_counted` meets its contract: what the array holds are the least levels.
use Rattle.levels.proofs.FaninLevels.{levels_are}
use Rattle.levels.proofs.LevelBytes.{copy_answered, copy_written}
use Rattle.levels.proofs.level_counted.Goals as goal

pub returns : goal.returns
returns c = record {
  value = search (copy_answered, levels_are);
  area_after = search (copy_written, levels_are);
}
