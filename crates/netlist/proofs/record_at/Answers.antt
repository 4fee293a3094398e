-- `record_at` meets its contract: below the count the record within the end, from it on a blank one.
use Rattle.netlist.proofs.Records.{read_past}
use Rattle.netlist.proofs.record_at.Goals as goal

pub returns-else-k-record_count : goal.returns-else-k-record_count
returns-else-k-record_count c = search read_past
