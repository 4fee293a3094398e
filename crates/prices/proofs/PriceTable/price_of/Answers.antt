-- `PriceTable::price_of` meets its contract: within the prices of the kind, or none.
use Rattle.prices.proofs.Lists.{price_found}
use borrow.Author.Rules.{rules}
use Rattle.prices.proofs.PriceTable.price_of.Goals as goal

pub returns : goal.returns
returns c = price_found c.args.self.now.list c.args.self.now.applied c.args.kind c.args.fed _ _ _ c.price_range.ensures (search rules)
