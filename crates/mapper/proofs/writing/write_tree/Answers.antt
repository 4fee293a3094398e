-- `write_tree` meets its contract: what each step leaves is what the next one asks.
use Rattle.mapper.proofs.WriteNets.{net_behind, net_size, wrote}
use Rattle.mapper.proofs.writing.write_tree.Goals as goal

pub overflow_sub-after : goal.overflow_sub-after
overflow_sub-after c = net_behind _ _ _ _ _ _ _ _ _ _ c.requires.writable _ c.write_buffers-after.ensures.value

pub price_row-requires-clause-size_value : goal.price_row-requires-clause-size_value
price_row-requires-clause-size_value c =
    net_size _ _ _ _ _ _ _ _ _ _ c.requires.writable _ c.write_buffers-after.ensures.value

pub returns-clause-wrote : goal.returns-clause-wrote
returns-clause-wrote c =
    let written = c.write_buffers-after.ensures in
    wrote _ _ _ _ _ _ _ _ _ _ c.requires.writable _ _ _ _ _ written.value c.price_row.ensures.row_after written.first_parents.size c.set_parents.ensures.parents_written written.area_after
