-- `next_by_stretch` meets its contract: inside a stretch the distance below, at its end the top of the next one with sinks.
use Rattle.fanout.proofs.EmptyStretches.{next_none, next_found}
use Rattle.fanout.proofs.stretches.next_by_stretch.Goals as goal

pub returns-in-Some : goal.returns-in-Some
returns-in-Some c = let h = c.in-Some.ensures in search (next_found, h.power_le, h.next_power_gt)

pub returns-in-None : goal.returns-in-None
returns-in-None c = let h = c.in-None.ensures in search (next_none, h.none)
