-- `check_records` meets its contract: the records below k are checked and counted.
use Rattle.levels.proofs.SinkCounts.{CountedBelow}
use Rattle.levels.proofs.counting.check_records.Given as goal

abbrev pub invariant-loop-k : goal.invariant-loop-k
invariant-loop-k l = CountedBelow l.source l.n l.k l.initial.sinks l.sinks
