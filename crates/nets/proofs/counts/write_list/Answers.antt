-- `write_list` meets its contract: the chains, the number of each net, then those of the list.
use Rattle.nets.proofs.TreeCounts.{input_source, input_allowed}
use Rattle.nets.proofs.Chains.{all_unused, records_few, slots_few, end_fits, link_start}
use Rattle.nets.proofs.ListedCounts.{list_input, list_chained, list_long, list_inside, list_area}
use borrow.Author.Rules.{rules}
use Rattle.nets.proofs.counts.write_list.Goals as goal

pub overflow_cast-end : goal.overflow_cast-end
overflow_cast-end c = search (rules, list_input, input_source, end_fits)

pub empty_chains-requires : goal.empty_chains-requires
empty_chains-requires c = search (rules, list_input, input_source, records_few)

pub link_all-requires-clause-source : goal.link_all-requires-clause-source
link_all-requires-clause-source c = search (list_input, input_source)

pub link_all-requires-clause-linked : goal.link_all-requires-clause-linked
link_all-requires-clause-linked c = search (rules, list_input, input_source, slots_few, all_unused, link_start)

pub count_each-requires-clause-chained : goal.count_each-requires-clause-chained
count_each-requires-clause-chained c = search (rules, list_chained)

pub count_each-requires-clause-allowed : goal.count_each-requires-clause-allowed
count_each-requires-clause-allowed c = search (list_input, input_allowed)

pub write_counts-requires-clause-indices_in : goal.write_counts-requires-clause-indices_in
write_counts-requires-clause-indices_in c = search list_inside

pub write_counts-requires-clause-counts_len : goal.write_counts-requires-clause-counts_len
write_counts-requires-clause-counts_len c = search list_long

pub returns : goal.returns
returns c = search list_area
