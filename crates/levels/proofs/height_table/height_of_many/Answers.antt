-- `height_of_many` meets its contract: the library finds the first entry that is at least as large.
use Rattle.std.proofs.Common.{rules, tests, ◌≡◌, leb, position}
use Rattle.std.proofs.lemmas.Iterator.{YieldsList-from_slice}
use Rattle.std.proofs.lemmas.Iterator.Search.{position_from_yields_List}
use Rattle.levels.specs.HeightTable.{height_in, heights}
use Rattle.facts.proofs.Chains.{position_seek}
use Rattle.levels.proofs.height_table.height_of_many.Goals as goal

pub returns : goal.returns
unfolding height_in
returns c =
    let row = c.args.row.now in
    let found : c.position.result ≡ position (leb c.args.sinks) row =
    position_from_yields_List _ _ _ _ c.position.ensures.ran (YieldsList-from_slice row cc) (λ x b q k. search (rules, tests))
    in
    position_seek (leb c.args.sinks) row heights c.unwrap_or.result c.position.result c.told-row found c.unwrap_or.ensures
