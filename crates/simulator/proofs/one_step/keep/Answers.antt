-- `keep` meets its contract: the first i bytes are kept in the second half, all else is as it was.
use borrow.Author.Rules.{rules}
use Rattle.simulator.proofs.Writes.{keeping_start, keeping_more, keeping_end}
use Rattle.simulator.proofs.one_step.keep.Goals as goal

pub loop-i-init : goal.loop-i-init
loop-i-init c = search (rules, keeping_start)

pub loop-i-preserved : goal.loop-i-preserved
loop-i-preserved c = search keeping_more

pub returns : goal.returns
returns c = search keeping_end
