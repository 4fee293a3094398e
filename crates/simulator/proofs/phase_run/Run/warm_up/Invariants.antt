-- `Run::warm_up` meets its contract: after turn k the state area is k steps on.
use Rattle.simulator.proofs.Playing.{Warming}
use Rattle.simulator.proofs.phase_run.Run.warm_up.Given as goal

abbrev pub invariant-loop-k : goal.invariant-loop-k
invariant-loop-k l = Warming l.self.stepper.mapped.now l.self.rows.now l.self.stepper.records l.self.inputs l.k l.state l.initial.state
