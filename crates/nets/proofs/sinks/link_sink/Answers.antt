-- `link_sink` meets its contract: the slot comes first on its driver's chain.
use Rattle.nets.proofs.Chains.{sink_linked}
use Rattle.nets.proofs.sinks.link_sink.Goals as goal

pub returns : goal.returns
returns c = search sink_linked
