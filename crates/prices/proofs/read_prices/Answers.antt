-- `read_prices` meets its contract: the prices below position k are read.
use Rattle.prices.proofs.Lists.{read_inside, read_offset, read_more, read_end, read_prices}
use borrow.Author.Rules.{rules}
use Rattle.prices.proofs.read_prices.Goals as goal

pub offset_bounds-prices-k : goal.offset_bounds-prices-k
offset_bounds-prices-k c = search read_offset

pub bounds-prices-k : goal.bounds-prices-k
bounds-prices-k c = search read_inside

pub loop-k-preserved : goal.loop-k-preserved
loop-k-preserved c = search (rules, read_more)

pub invariant_of-result : goal.invariant_of-result
invariant_of-result c = record { applied = search read_prices }

pub returns : goal.returns
returns c = search read_end
