-- `set_line_parents` meets its contract: the sinks of d below slot p hang on the line.
use Rattle.nets.proofs.OneChain.{distance_is}
use Rattle.mapper.proofs.ChainParents.{parents_start, parents_less, parents_more, line_parent_is}
use borrow.Author.Rules.{rules}
use Rattle.mapper.proofs.writing.set_line_parents.Goals as goal

pub loop-p-init : goal.loop-p-init
loop-p-init c = (search rules, search parents_start)

pub loop-p-smaller : goal.loop-p-smaller
loop-p-smaller c = search parents_less

pub loop-p-preserved : goal.loop-p-preserved
loop-p-preserved c = (search rules, search (parents_more, line_parent_is, distance_is))
