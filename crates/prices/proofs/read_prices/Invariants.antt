-- `read_prices` meets its contract: the prices below position k are read.
use Rattle.prices.proofs.Lists.{Reading}
use Rattle.prices.proofs.read_prices.Given as goal

abbrev pub invariant-loop-k : goal.invariant-loop-k
invariant-loop-k l = Reading l.list l.prices l.k
