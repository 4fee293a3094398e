-- `block_ends` meets its contract: capacities and source first.
use Rattle.std.proofs.Common.{sym}
use Rattle.mapper.proofs.View.{ends_input}
use Rattle.mapper.proofs.block.block_ends.Goals as goal

pub source_ends-requires : goal.source_ends-requires
source_ends-requires c = sym c.in-Ok.ensures

pub returns-in-Err : goal.returns-in-Err
returns-in-Err c = search (ends_input, c.in-Err.ensures)
