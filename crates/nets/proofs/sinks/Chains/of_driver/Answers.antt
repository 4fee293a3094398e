-- `Chains::of_driver` meets its contract: no sink, one, two, or more.
use Rattle.nets.proofs.OneChain.{chain_start, chain_next, chain_above, chain_on, distance_is}
use Rattle.nets.proofs.ShortChains.{chain_empty, chain_one, chain_two}
use Rattle.nets.specs.PrivateChains.{ChainIs}
use borrow.Author.Rules.{rules}
use Rattle.nets.proofs.sinks.Chains.of_driver.Goals as goal

pub returns-then-self-p : goal.returns-then-self-p
returns-then-self-p c = search chain_empty

pub distance-a-requires : goal.distance-a-requires
distance-a-requires c = search (chain_above, chain_start)

pub returns-then-self-q : goal.returns-then-self-q
returns-then-self-q c = search (chain_one, distance_is)

pub distance-b-requires : goal.distance-b-requires
distance-b-requires c = search (chain_above, chain_on, chain_next, chain_start)

pub returns-then-self-from : goal.returns-then-self-from
returns-then-self-from c = search (chain_two, distance_is)

pub returns : goal.returns
unfolding ChainIs
returns c = search rules
