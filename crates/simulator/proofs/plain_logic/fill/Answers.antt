-- `fill` meets its contract: the first i bytes are plain logic's, each worked out from those before it.
use borrow.Author.Rules.{rules}
use Rattle.simulator.proofs.Writes.{filling_wired, filling_start, filling_more, filling_end}
use Rattle.simulator.proofs.plain_logic.fill.Goals as goal

pub loop-i-init : goal.loop-i-init
loop-i-init c = search (rules, filling_start)

pub invariant_of-next_byte : goal.invariant_of-next_byte
invariant_of-next_byte c = search filling_wired

pub loop-i-preserved : goal.loop-i-preserved
loop-i-preserved c = (search rules, search filling_more)

pub returns : goal.returns
returns c = search filling_end
