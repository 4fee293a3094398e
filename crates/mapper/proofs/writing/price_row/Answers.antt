-- `price_row` meets its contract: priced, then cleared.
use Rattle.mapper.proofs.WriteNets.{net_stale}
use Rattle.mapper.proofs.writing.price_row.Goals as goal

pub clear_row-requires : goal.clear_row-requires
clear_row-requires c = search net_stale
