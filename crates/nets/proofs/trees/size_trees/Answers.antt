-- `size_trees` meets its contract: the chains, then each net.
use Rattle.nets.proofs.TreeCounts.{input_source, input_allowed, input_chained}
use borrow.Author.Rules.{rules}
use Rattle.nets.proofs.trees.size_trees.Goals as goal

pub link_all-requires : goal.link_all-requires
link_all-requires c = record {
  source = search input_source;
  n_value = search rules;
  linked = search rules;
}

pub count_each-requires : goal.count_each-requires
count_each-requires c = record {
  chained = search (rules, input_chained);
  allowed = search input_allowed;
  n_value = search rules;
  row_value = search rules;
}

pub returns : goal.returns
returns c = record {
  value = search rules;
  total = search rules;
  chained = search input_chained;
  row_after = search rules;
  net_numbers = search rules;
}
