-- `record_view` meets its contract: each return follows from the tests that led there.
use Rattle.netlist.proofs.Checks.{view_past, view_source, view_mapped}
use Rattle.netlist.proofs.record_view.Goals as goal

pub returns-then-record_count-k : goal.returns-then-record_count-k
returns-then-record_count-k c = search view_past

pub returns-then-k-record_count : goal.returns-then-k-record_count
returns-then-k-record_count c = search view_source

pub returns-else-k-record_count : goal.returns-else-k-record_count
returns-else-k-record_count c = search view_mapped
