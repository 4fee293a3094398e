-- `Stepper::renew` meets its contract: the first i bytes are the new values, and the second half, which they are worked out from, is as it was.
use borrow.Author.Rules.{rules}
use Rattle.simulator.proofs.Writes.{renewing_wired, renewing_start, renewing_more, renewing_end}
use Rattle.simulator.proofs.one_step.Stepper.renew.Goals as goal

pub loop-i-init : goal.loop-i-init
loop-i-init c = search (rules, renewing_start)

pub invariant_of-next_byte : goal.invariant_of-next_byte
invariant_of-next_byte c = search renewing_wired

pub loop-i-preserved : goal.loop-i-preserved
loop-i-preserved c = (search rules, search renewing_more)

pub returns : goal.returns
returns c = search renewing_end
