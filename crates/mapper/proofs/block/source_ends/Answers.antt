-- `source_ends` meets its contract: the chains, the trees, then 8 or what follows it.
use Rattle.mapper.proofs.Answering.{sized_all}
use Rattle.nets.proofs.TreeCounts.{input_source}
use Rattle.nets.proofs.Chains.{all_unused, records_few, slots_few, end_fits, link_start}
use Rattle.mapper.proofs.View.{ends_tree}
use borrow.Author.Rules.{rules}
use Rattle.mapper.proofs.block.source_ends.Goals as goal

pub overflow_cast-end : goal.overflow_cast-end
overflow_cast-end c = search (rules, input_source, end_fits)

pub empty_chains-requires : goal.empty_chains-requires
empty_chains-requires c = search (rules, input_source, records_few)

pub size_trees-sized-requires : goal.size_trees-sized-requires
size_trees-sized-requires c = record {
  capacities_value = search rules;
  n_value = (search rules, search (rules, input_source, records_few));
  end_value = search rules;
  linked = search (rules, input_source, slots_few, all_unused, link_start);
  row_value = search rules;
}

pub counted_ends-requires : goal.counted_ends-requires
counted_ends-requires c =
    let sized = c.in-Ok.ensures in
    sized_all _ _ (search rules) _ (search rules) _ sized.value sized.total _ (search rules) (search (rules, input_source, records_few))

pub returns-in-Err : goal.returns-in-Err
returns-in-Err c = let refused = c.in-Err.ensures in search (rules, ends_tree, refused.value)
