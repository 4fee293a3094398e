-- `sum_below` meets its contract: the chain sums the first m numbers.
use mathlib.Core.Path.{◌≡◌, ◌∙◌}
use lib.ListN.{take}
use Rattle.std.specs.List.{sum_by}
use Rattle.std.proofs.iter.runs.Made.{chains}
use Rattle.nets.proofs.TreeCounts.{sum_listed, sum_fits}
use borrow.Author.Rules.{rules}
use Rattle.nets.proofs.trees.sum_below.Goals as goal

pub sum-requires-clause-fits : goal.sum-requires-clause-fits
sum-requires-clause-fits c = let l = sum_fits c.args.totals.now c.args.m c.requires c.type_inv.totals in search (rules, chains)

pub returns : goal.returns
returns c =
    let e : c.sum.result ≡ sum_by (λ x. x) (take c.args.m c.args.totals.now) = search (rules, chains) in
    e ∙ sum_listed c.args.totals.now c.args.m c.requires.0
