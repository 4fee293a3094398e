-- `count_kinds` meets its contract: the records of these kinds below k are counted.
use borrow.Author.Rules.{rules}
use Rattle.netlist.proofs.Counts.{counting_start, counting_more, counting_end, counting_fits}
use Rattle.netlist.proofs.count_kinds.Goals as goal

pub loop-k-init : goal.loop-k-init
loop-k-init c = search (rules, counting_start)

pub overflow_add-total : goal.overflow_add-total
overflow_add-total c = record { fits = search (rules, counting_fits) }

pub loop-k-preserved : goal.loop-k-preserved
loop-k-preserved c = search (rules, counting_more)

pub returns : goal.returns
returns c = search counting_end
