-- `add_sinks` meets its contract: the first j slots are counted.
use Rattle.levels.specs.PrivateSinks.{SinksAdded}
use Rattle.levels.proofs.counting.add_sinks.Given as goal

abbrev pub invariant-loop-j : goal.invariant-loop-j
invariant-loop-j l = SinksAdded l.r l.j l.initial.sinks l.sinks
