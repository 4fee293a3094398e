-- `slot_at` meets its contract: it is the slot of the record.
use Rattle.netlist.proofs.slot_at.Goals as goal

pub returns : goal.returns
returns c = cc
