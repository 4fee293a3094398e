-- `bad_slot` meets its contract: each return follows from the tests that led there.
use Rattle.netlist.proofs.Checks.{slot_later, slot_kind, slot_unused}
use Rattle.netlist.proofs.source_reader.bad_slot.Goals as goal

pub returns-then-k-target : goal.returns-then-k-target
returns-then-k-target c = search slot_later

pub returns-then-j-used : goal.returns-then-j-used
returns-then-j-used c = search slot_kind

pub returns : goal.returns
returns c = search slot_unused
