-- `lowest` meets its contract: a mask of n bits.
use Rattle.fanout.proofs.EmptyStretches.{lowest_is}
use Rattle.fanout.proofs.stretches.lowest.Goals as goal

pub returns : goal.returns
returns c = search lowest_is
