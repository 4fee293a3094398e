-- `counted_ends` meets its contract: 9 by the size.
use Rattle.mapper.proofs.Answering.{total_fits}
use Rattle.mapper.proofs.View.{ends_large, ends_maps}
use Rattle.mapper.proofs.block.counted_ends.Goals as goal

pub overflow_add-n : goal.overflow_add-n
overflow_add-n c = search total_fits

pub returns-then-n-total-gt-MAPPED_LIMIT : goal.returns-then-n-total-gt-MAPPED_LIMIT
returns-then-n-total-gt-MAPPED_LIMIT c = search ends_large

pub ends_of-requires : goal.ends_of-requires
ends_of-requires c = search ends_maps
