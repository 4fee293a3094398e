-- `Stepper::copy_buffers` meets its contract: the buffers below k have copied, all else is as it was.
use Rattle.simulator.proofs.Writes.{Copying}
use Rattle.simulator.proofs.one_step.Stepper.copy_buffers.Given as goal

abbrev pub invariant-loop-k : goal.invariant-loop-k
invariant-loop-k l = Copying l.self.mapped.now l.self.sources l.self.records l.k l.state l.initial.state
