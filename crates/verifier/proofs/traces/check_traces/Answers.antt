-- `check_traces` meets its contract: the answer from k on is the answer, and the drivers that are known are right.
use borrow.Author.Rules.{rules}
use Rattle.verifier.proofs.Walking.{passed_walkable, tracing_start, tracing_end, tracing_slots, tracing_more, tracing_stop}
use Rattle.verifier.proofs.traces.check_traces.Goals as goal

pub walk_buffers-requires : goal.walk_buffers-requires
walk_buffers-requires c = search (rules, passed_walkable)

pub loop-k-init : goal.loop-k-init
loop-k-init c = search (rules, tracing_start)

pub used_strays-requires : goal.used_strays-requires
used_strays-requires c = search (rules, tracing_slots)

pub returns-then-used_strays : goal.returns-then-used_strays
returns-then-used_strays c = search tracing_stop

pub loop-k-preserved : goal.loop-k-preserved
loop-k-preserved c = (search (tracing_more, c.requires.sized), search rules)

pub returns : goal.returns
returns c = search tracing_end
