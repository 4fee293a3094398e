-- `map_with` meets its contract: the chains, the trees, then 8 or what follows it.
use Rattle.mapper.proofs.Answering.{counted_all, refused_tree, kept_tree}
use Rattle.nets.proofs.TreeCounts.{input_source}
use Rattle.nets.proofs.Chains.{end_fits, link_start}
use Rattle.std.proofs.Common.{rules, ◌≡◌, Err}
use Rattle.mapper.proofs.map_with.Goals as goal

pub overflow_cast-end : goal.overflow_cast-end
overflow_cast-end c = search (rules, input_source, end_fits)

pub size_trees-requires : goal.size_trees-requires
size_trees-requires c = record {
  capacities_value = search rules;
  n_value = (search rules, search rules);
  end_value = search rules;
  linked = search (rules, link_start);
  row_value = search rules;
}

pub map_trees-requires : goal.map_trees-requires
map_trees-requires c =
    let sized = c.in_ok-total.ensures in
    record {
      counted = counted_all _ _ (search rules) _ (search rules) _ sized.value sized.total _ _ _ (search rules);
      row_value = search rules;
    }

pub returns-in_err-total : goal.returns-in_err-total
returns-in_err-total c =
    let e : c.from_residual.result ≡ Err c.in_err-total.field-0.0 = search rules in
    let pre = c.requires in
    let refused = c.in_err-total.ensures in
    record {
      value = rw e (search (refused_tree, pre.capacities_value, c.args.job.prices.now.applied, refused.value));
      area_after = search (kept_tree, pre.capacities_value, c.args.job.prices.now.applied, refused.value);
    }
