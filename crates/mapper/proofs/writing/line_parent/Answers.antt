-- `line_parent` meets its contract: at distance 1 the driver itself, else the buffer before.
use Rattle.mapper.proofs.WriteRecords.{line_near, line_far}
use Rattle.mapper.proofs.writing.line_parent.Goals as goal

pub returns-then-k-lt2 : goal.returns-then-k-lt2
returns-then-k-lt2 c = search line_near

pub returns-else-k-lt2 : goal.returns-else-k-lt2
returns-else-k-lt2 c = search line_far
