-- `Chains::fill_row` meets its contract: every sink of d below slot p is counted.
use Rattle.nets.proofs.OneChain.{distance_is, chain_next, chain_less}
use Rattle.nets.proofs.ChainRow.{fill_start, fill_fits, fill_more, fill_end}
use borrow.Author.Rules.{rules}
use Rattle.nets.proofs.sinks.Chains.fill_row.Goals as goal

pub loop-p-init : goal.loop-p-init
loop-p-init c = search (rules, fill_start)

pub overflow_add-row : goal.overflow_add-row
overflow_add-row c = search (rules, fill_fits, distance_is)

pub loop-p-smaller : goal.loop-p-smaller
loop-p-smaller c = search (chain_less, chain_next)

pub loop-p-preserved : goal.loop-p-preserved
loop-p-preserved c = search (rules, fill_more, distance_is)

pub returns-clause-filled : goal.returns-clause-filled
returns-clause-filled c = search fill_end
