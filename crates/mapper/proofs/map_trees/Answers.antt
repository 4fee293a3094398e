-- `map_trees` meets its contract: 9 by the size, 10 by the area, else the mapped netlist and its price.
use Rattle.mapper.proofs.Answering.{total_fits, counted_ready, refused_large, kept_large, refused_short, kept_short, part_fits, whole_fits, mapped_room, mapped_answer, mapped_area}
use borrow.Author.Rules.{rules}
use Rattle.mapper.proofs.map_trees.Goals as goal

pub overflow_add-size : goal.overflow_add-size
overflow_add-size c = search total_fits

pub returns-then-size-gt-MAPPED_LIMIT : goal.returns-then-size-gt-MAPPED_LIMIT
returns-then-size-gt-MAPPED_LIMIT c = record {
  value = search refused_large;
  area_after = search kept_large;
}

pub returns-then-area-size : goal.returns-then-area-size
returns-then-area-size c = record {
  value = search refused_short;
  area_after = search kept_short;
}

pub write_mapped-buffers_price-requires : goal.write_mapped-buffers_price-requires
write_mapped-buffers_price-requires c = record {
  ready = search counted_ready;
  chained = search rules;
  n_value = search rules;
  row_value = search rules;
  capacities_in_bounds = search mapped_room;
}

pub overflow_add-gates_price : goal.overflow_add-gates_price
overflow_add-gates_price c = search whole_fits

pub accept-requires : goal.accept-requires
accept-requires c = record {
  n_value = search rules;
  n_le_source_limit = search rules;
  buffers_le_mapped_limit = search rules;
  part_bound = search part_fits;
}

pub returns : goal.returns
returns c =
    let pre = c.requires in
    let written = c.write_mapped-buffers_price.ensures in
    let gates = c.price_gates-gates_price.ensures in record {
      value = mapped_answer _ _ _ _ _ _ _ pre.counted _ _ c.args.job.prices.now.applied (search rules) (search rules) _ _ _ written.value gates c.accept.ensures;
      area_after = mapped_area _ _ _ _ _ _ _ pre.counted _ _ c.args.job.prices.now.applied (search rules) (search rules) _ written.area_after;
    }
