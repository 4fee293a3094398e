-- `write_copy` meets its contract: the lengths differ, or the copy is written.
use Rattle.levels.proofs.LevelBytes.{length_other, length_kept, length_same, length_written}
use Rattle.levels.proofs.writing.write_copy.Goals as goal

pub returns-then-area-source : goal.returns-then-area-source
returns-then-area-source c = record {
  value = search length_other;
  area_after = search length_kept;
}

pub returns : goal.returns
returns c = record {
  value = search length_same;
  area_after = search length_written;
}
