-- `start_of` meets its contract: the numbers before m sum up to their trees' buffers.
use Rattle.mapper.proofs.View.{start_few, start_fits, start_is}
use borrow.Author.Rules.{rules}
use Rattle.mapper.proofs.block.start_of.Goals as goal

pub sum_below-requires : goal.sum_below-requires
sum_below-requires c = search (rules, start_few)

pub overflow_add-result : goal.overflow_add-result
overflow_add-result c = search start_fits

pub returns : goal.returns
returns c = search start_is
