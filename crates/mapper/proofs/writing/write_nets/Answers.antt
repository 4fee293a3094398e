-- `write_nets` meets its contract: the nets of the drivers below d are written and priced.
use Rattle.mapper.proofs.WriteNets.{nets_start, nets_more}
use Rattle.mapper.proofs.PriceWalk.{nets_price_start, nets_price, nets_price_fits}
use borrow.Author.Rules.{rules}
use Rattle.mapper.proofs.writing.write_nets.Goals as goal

pub loop-d-init : goal.loop-d-init
loop-d-init c = (search (rules, nets_start), search rules, search nets_price_start)

pub overflow_add-total : goal.overflow_add-total
overflow_add-total c =
    let pre = c.requires in
    let inv = c.loop-d.invariant in
    nets_price_fits _ c.args.job.prices.now.applied _ _ pre.ready _ _ inv.2 (search rules) _ c.write_net-block.ensures.price_value

pub loop-d-preserved : goal.loop-d-preserved
loop-d-preserved c =
    let pre = c.requires in
    let inv = c.loop-d.invariant in
    (search nets_more, search rules, nets_price _ c.args.job.prices.now.applied _ _ pre.ready _ _ inv.2 (search rules) _ c.write_net-block.ensures.price_value)
