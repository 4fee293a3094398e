-- `Stepper::copy_buffers` meets its contract: the buffers below k have copied, all else is as it was.
use borrow.Author.Rules.{rules}
use Rattle.simulator.proofs.Writes.{copying_start, copying_more, copying_end}
use Rattle.simulator.proofs.one_step.Stepper.copy_buffers.Goals as goal

pub loop-k-init : goal.loop-k-init
loop-k-init c = search (rules, copying_start)

pub loop-k-preserved : goal.loop-k-preserved
loop-k-preserved c = search copying_more

pub returns : goal.returns
returns c = search (rules, copying_end)
