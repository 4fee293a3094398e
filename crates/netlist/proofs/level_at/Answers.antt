-- `level_at` meets its contract: it is the field of the record.
use Rattle.netlist.proofs.level_at.Goals as goal

pub returns : goal.returns
returns c = cc
