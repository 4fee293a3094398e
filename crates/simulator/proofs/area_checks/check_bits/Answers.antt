-- `check_bits` meets its contract: the first byte above 1 is found, or none is there.
use Rattle.std.proofs.Common.{rules, tests, ◌≡◌, ◌∙◌, sym, ltb, position}
use Rattle.std.proofs.lemmas.Iterator.{YieldsList-from_slice}
use Rattle.std.proofs.lemmas.Iterator.Search.{position_from_yields_List}
use Rattle.facts.proofs.Chains.{position_refused, position_passed}
use Rattle.simulator.specs.Evaluate.{bit_checks}
use Rattle.simulator.proofs.area_checks.check_bits.Goals as goal

pub returns-in-Some : goal.returns-in-Some
unfolding bit_checks
returns-in-Some c =
    let row = c.args.row.now in
    let found : c.position.result ≡ position (ltb 1) row =
    position_from_yields_List _ _ _ _ c.position.ensures.ran (YieldsList-from_slice row cc) (λ x b q k. search (rules, tests))
    in
    position_refused (ltb 1) row 19 _ (sym found ∙ c.in-Some.is)

pub returns-in-None : goal.returns-in-None
unfolding bit_checks
returns-in-None c =
    let row = c.args.row.now in
    let found : c.position.result ≡ position (ltb 1) row =
    position_from_yields_List _ _ _ _ c.position.ensures.ran (YieldsList-from_slice row cc) (λ x b q k. search (rules, tests))
    in
    position_passed (ltb 1) row 19 (sym found ∙ c.in-None.is)
