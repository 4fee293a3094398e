-- `link_later_slots` meets its contract: slot 2, then slot 1, or neither.
use Rattle.nets.proofs.Chains.{later_unused}
use Rattle.nets.proofs.sinks.link_later_slots.Goals as goal

pub returns-then-not-is_gate : goal.returns-then-not-is_gate
returns-then-not-is_gate c = search later_unused
