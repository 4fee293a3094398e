-- `write_buffers` meets its contract: the buffers at distances below k are written.
use Rattle.mapper.proofs.WriteTree.{tree_start, tree_room, tree_parents, tree_fits, tree_next, tree_more, tree_end, tree_bytes}
use borrow.Author.Rules.{rules}
use Rattle.mapper.proofs.writing.write_buffers.Goals as goal

pub loop-k-init : goal.loop-k-init
loop-k-init c = (search rules, search tree_start)

pub write_level-requires-clause-n_in_bounds : goal.write_level-requires-clause-n_in_bounds
write_level-requires-clause-n_in_bounds c = search tree_room

pub write_level-requires-clause-n_bound : goal.write_level-requires-clause-n_bound
write_level-requires-clause-n_bound c = search tree_parents

pub overflow_cast-from-in-loop-k : goal.overflow_cast-from-in-loop-k
overflow_cast-from-in-loop-k c = search tree_fits

pub overflow_add-at : goal.overflow_add-at
overflow_add-at c = search tree_next

pub loop-k-preserved : goal.loop-k-preserved
loop-k-preserved c = (search rules, search tree_more)

pub returns-clause-value : goal.returns-clause-value
returns-clause-value c = search tree_end

pub returns-clause-area_after : goal.returns-clause-area_after
returns-clause-area_after c = search tree_bytes
