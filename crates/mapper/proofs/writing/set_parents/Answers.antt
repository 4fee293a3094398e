-- `set_parents` meets its contract: the sinks of d below slot p hang on their parents.
use Rattle.nets.proofs.OneChain.{distance_is}
use Rattle.mapper.proofs.ChainParents.{parents_less}
use Rattle.mapper.proofs.SinkParents.{sinks_start, sinks_parent, sinks_fit, sinks_next, sinks_end}
use borrow.Author.Rules.{rules}
use Rattle.mapper.proofs.writing.set_parents.Goals as goal

pub loop-p-init : goal.loop-p-init
loop-p-init c = (search rules, search sinks_start)

pub overflow_add-row : goal.overflow_add-row
overflow_add-row c = search (sinks_fit, distance_is)

pub parent_of-requires-clause-q_bound : goal.parent_of-requires-clause-q_bound
parent_of-requires-clause-q_bound c = search (sinks_parent, distance_is)

pub loop-p-smaller : goal.loop-p-smaller
loop-p-smaller c = search parents_less

pub loop-p-preserved : goal.loop-p-preserved
loop-p-preserved c = (search rules, search (sinks_next, distance_is))

pub returns-clause-node_counts : goal.returns-clause-node_counts
returns-clause-node_counts c = search sinks_end
