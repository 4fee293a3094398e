-- `next_sinks` meets its contract: no sinks stand between x and k.
use Rattle.fanout.specs.PrivateStretches.{NextSinks}
use Rattle.fanout.proofs.stretches.next_sinks.Given as goal

abbrev pub invariant-loop-x : goal.invariant-loop-x
invariant-loop-x l = NextSinks l.row l.k l.x

abbrev pub decreases-loop-x : goal.decreases-loop-x
decreases-loop-x l = l.x
