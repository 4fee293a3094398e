-- `Stepper::advance` meets its contract: the older values are kept, then the new ones worked out from them, or copied where buffers stand.
use Rattle.simulator.proofs.Writes.{stepped_in_place}
use borrow.Author.Rules.{rules}
use Rattle.simulator.proofs.one_step.Stepper.advance.Goals as goal

pub returns : goal.returns
returns c = search (rules, stepped_in_place)
