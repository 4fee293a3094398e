-- `write_net` meets its contract: no sink, a line, or a tree.
use mathlib.Core.Path.{◌∙◌}
use Rattle.nets.proofs.ShortChains.{no_sink, few_sinks}
use Rattle.mapper.proofs.WriteNets.{net_none, line_start, line_room, line_fits, line_levels, line_next, net_line}
use Rattle.mapper.proofs.PriceWalk.{none_price, line_near, line_behind, line_price_lem}
use borrow.Author.Rules.{rules}
use Rattle.mapper.proofs.writing.write_net.Goals as goal

pub overflow_sub-n : goal.overflow_sub-n
overflow_sub-n c =
    (few_sinks _ _ _ _ _ c.of_driver-chain.ensures c.in-Short.is).above

pub set_line_parents-requires-clause-start_le_mapped_limit : goal.set_line_parents-requires-clause-start_le_mapped_limit
set_line_parents-requires-clause-start_le_mapped_limit c = search line_start

pub write_line-requires : goal.write_line-requires
write_line-requires c =
    let few = few_sinks _ _ _ _ _ c.of_driver-chain.ensures c.in-Short.is in
    record {
      n_in_bounds = search (line_room, few);
      d_bound = (search rules, search (line_fits, few), search (line_levels, few));
    }

pub overflow_add-result : goal.overflow_add-result
overflow_add-result c =
    let few = few_sinks _ _ _ _ _ c.of_driver-chain.ensures c.in-Short.is in
    search (line_next, few)

pub price_line-requires : goal.price_line-requires
price_line-requires c =
    let few = few_sinks _ _ _ _ _ c.of_driver-chain.ensures c.in-Short.is in
    (search (line_near, few), search (line_behind, few))

pub returns-in-Empty : goal.returns-in-Empty
returns-in-Empty c = record {
  wrote = search (net_none, no_sink);
  price_value = search (none_price, no_sink);
}

pub returns-in-Short : goal.returns-in-Short
returns-in-Short c =
    let few = few_sinks _ _ _ _ _ c.of_driver-chain.ensures c.in-Short.is in
    record {
      wrote = search (net_line, few);
      price_value = c.price_line.ensures ∙ line_price_lem _ _ _ _ _ _ c.requires.writable.ready.allowed.low few;
    }
