-- `link_slots` meets its contract: the later slots, then slot 0.
use Rattle.nets.proofs.Chains.{first_unused}
use Rattle.nets.proofs.sinks.link_slots.Goals as goal

pub returns-then-r-eq-INPUT : goal.returns-then-r-eq-INPUT
returns-then-r-eq-INPUT c = search first_unused
