-- `strip_counted` meets its contract: what is left is handed to the verifier, or the mapped netlist is no legal one.
use Rattle.strip.proofs.Answering.{none_answered, none_kept, unfit, left_part}
use Rattle.strip.proofs.strip_counted.Goals as goal

pub strip_traced-requires : goal.strip_traced-requires
strip_traced-requires c = search left_part

pub returns : goal.returns
returns c = record {
  value = search (none_answered, unfit);
  area_after = search (none_kept, unfit);
}
