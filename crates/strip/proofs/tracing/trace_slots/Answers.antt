-- `trace_slots` meets its contract: the first j slots are traced.
use Rattle.strip.proofs.TracedRecords.{slots_end}
use Rattle.strip.proofs.tracing.trace_slots.Goals as goal

pub returns : goal.returns
returns c = search slots_end
