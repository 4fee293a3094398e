-- `collect` meets its contract: the output bytes of the first i records are written, in index order.
use Rattle.simulator.proofs.Playing.{Collecting}
use Rattle.simulator.proofs.phase_run.collect.Given as goal

abbrev pub invariant-loop-i : goal.invariant-loop-i
invariant-loop-i l = Collecting l.source l.state l.i-end l.k l.i l.row l.initial.row
