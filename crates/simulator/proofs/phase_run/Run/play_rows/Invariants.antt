-- `Run::play_rows` meets its contract: after turn t the state area is D + t steps on and t output rows are written.
use Rattle.simulator.proofs.Playing.{Playing}
use Rattle.simulator.proofs.phase_run.Run.play_rows.Given as goal

abbrev pub invariant-loop-t : goal.invariant-loop-t
invariant-loop-t l = Playing l.self.source.now l.self.stepper.mapped.now l.self.rows.now l.self.stepper.records l.self.inputs l.self.outputs l.self.depth l.count l.t l.state l.initial.state l.outs l.initial.outs
