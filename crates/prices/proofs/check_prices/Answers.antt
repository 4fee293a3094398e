-- `check_prices` meets its contract: the first price of 0 is found, or none is there.
use Rattle.std.proofs.Common.{rules, tests, ◌≡◌, ◌∙◌, sym, eqb, position}
use Rattle.std.proofs.lemmas.Iterator.{YieldsList-from_slice}
use Rattle.std.proofs.lemmas.Iterator.Search.{position_from_yields_List}
use Rattle.facts.proofs.Chains.{position_refused, position_passed}
use Rattle.prices.proofs.check_prices.Goals as goal

pub returns-in-Some : goal.returns-in-Some
returns-in-Some c =
    let list = c.args.list.now in
    let found : c.position.result ≡ position (λ x. eqb x 0) list =
    position_from_yields_List _ _ _ _ c.position.ensures.ran (YieldsList-from_slice list cc) (λ x b q k. search (rules, tests))
    in
    position_refused (λ x. eqb x 0) list 28 _ (sym found ∙ c.in-Some.is)

pub returns-in-None : goal.returns-in-None
returns-in-None c =
    let list = c.args.list.now in
    let found : c.position.result ≡ position (λ x. eqb x 0) list =
    position_from_yields_List _ _ _ _ c.position.ensures.ran (YieldsList-from_slice list cc) (λ x b q k. search (rules, tests))
    in
    position_passed (λ x. eqb x 0) list 28 (sym found ∙ c.in-None.is)
