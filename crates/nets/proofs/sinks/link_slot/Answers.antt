-- `link_slot` meets its contract: a used slot comes first on its driver's chain, an unused one changes nothing.
use Rattle.nets.proofs.Chains.{slot_linked}
use Rattle.nets.proofs.sinks.link_slot.Goals as goal

pub returns : goal.returns
returns c = search slot_linked
