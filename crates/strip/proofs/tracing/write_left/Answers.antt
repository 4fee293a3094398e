-- `write_left` meets its contract: the first k records are written.
use borrow.Author.Rules.{rules}
use Rattle.strip.proofs.TracedRecords.{left_start, left_end, left_inside, left_slots, left_more}
use Rattle.strip.proofs.tracing.write_left.Goals as goal

pub loop-k-init : goal.loop-k-init
loop-k-init c = search (rules, left_start)

pub read_at-r-requires : goal.read_at-r-requires
read_at-r-requires c = search (rules, left_inside)

pub trace_used-traced-requires : goal.trace_used-traced-requires
trace_used-traced-requires c = search (rules, left_slots)

pub loop-k-preserved : goal.loop-k-preserved
loop-k-preserved c = (search left_more, (search rules, search rules))

pub returns : goal.returns
returns c = search left_end
