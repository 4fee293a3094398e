-- `count_buffers` meets its contract: the row is filled and walked.
use Rattle.fanout.proofs.Walking.{walkable}
use Rattle.mapper.proofs.WriteNets.{net_counted}
use Rattle.mapper.proofs.writing.count_buffers.Goals as goal

pub walk-requires : goal.walk-requires
walk-requires c = search walkable

pub returns : goal.returns
returns c = search net_counted
