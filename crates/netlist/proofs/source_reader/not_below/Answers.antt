-- `not_below` meets its contract: a used slot names an earlier record, whose level is compared.
use Rattle.netlist.proofs.Checks.{fanin_inside, fanin_level, fanin_unused}
use Rattle.netlist.proofs.source_reader.not_below.Goals as goal

pub read_at-requires : goal.read_at-requires
read_at-requires c = search fanin_inside

pub returns-then-j-used : goal.returns-then-j-used
returns-then-j-used c = search fanin_level

pub returns-else-j-used : goal.returns-else-j-used
returns-else-j-used c = search fanin_unused
