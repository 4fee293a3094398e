-- `add_sinks` meets its contract: the first j slots are counted.
use borrow.Author.Rules.{rules}
use Rattle.levels.proofs.SinkCounts.{adding_start, sink_fits, adding_more}
use Rattle.levels.proofs.counting.add_sinks.Goals as goal

pub loop-j-init : goal.loop-j-init
loop-j-init c = search adding_start

pub overflow_add-sinks : goal.overflow_add-sinks
overflow_add-sinks c = search (rules, sink_fits)

pub loop-j-preserved : goal.loop-j-preserved
loop-j-preserved c = search adding_more
