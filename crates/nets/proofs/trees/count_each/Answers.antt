-- `count_each` meets its contract: the nets of the records before d are counted.
use Rattle.nets.proofs.Chains.{chained_from}
use Rattle.nets.proofs.TreeCounts.{count_start, count_inside, count_fits, count_more, count_stop, count_end, count_total, count_numbers_lem}
use borrow.Author.Rules.{rules}
use Rattle.nets.proofs.trees.count_each.Goals as goal

pub loop-d-init : goal.loop-d-init
loop-d-init c = search (rules, count_start)

pub measure-tree-requires : goal.measure-tree-requires
measure-tree-requires c = record {
  chained = search (rules, chained_from);
  allowed = search rules;
  d_bound = search rules;
  row_value = search rules;
}

pub keep_number-stop-requires : goal.keep_number-stop-requires
keep_number-stop-requires c = search count_inside

pub overflow_add-total : goal.overflow_add-total
overflow_add-total c = search (rules, count_fits)

pub loop-d-preserved : goal.loop-d-preserved
loop-d-preserved c = (search (rules, count_more), search rules)

pub returns-then-stop-n : goal.returns-then-stop-n
returns-then-stop-n c = record {
  value = search count_stop;
  total = search rules;
  row_after = search rules;
  net_numbers = search count_numbers_lem;
}

pub returns : goal.returns
returns c = record {
  value = search count_end;
  total = search count_total;
  row_after = search rules;
  net_numbers = search count_numbers_lem;
}
