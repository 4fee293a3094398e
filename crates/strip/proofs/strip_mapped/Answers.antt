-- `strip_mapped` meets its contract: a size outside the limits is one of no legal mapped netlist.
use Rattle.strip.proofs.Answering.{none_answered, none_kept, ragged, too_large_lem, too_many_lem}
use Rattle.strip.proofs.strip_mapped.Goals as goal

pub returns-then-mapped-ne0 : goal.returns-then-mapped-ne0
returns-then-mapped-ne0 c = record {
  value = search (none_answered, ragged);
  area_after = search (none_kept, ragged);
}

pub returns-then-m-gt-MAPPED_LIMIT : goal.returns-then-m-gt-MAPPED_LIMIT
returns-then-m-gt-MAPPED_LIMIT c = record {
  value = search (none_answered, too_large_lem);
  area_after = search (none_kept, too_large_lem);
}

pub returns-then-n-gt-SOURCE_LIMIT : goal.returns-then-n-gt-SOURCE_LIMIT
returns-then-n-gt-SOURCE_LIMIT c = record {
  value = search (none_answered, too_many_lem);
  area_after = search (none_kept, too_many_lem);
}
