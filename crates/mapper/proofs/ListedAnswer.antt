-- Mapped with the prices that apply, the answer and the area are those of the list.
use Prim.Native.Nat.{ℕ}
use mathlib.Core.Path.{◌≡◌, refl, sym, ◌∙◌, ap, ap₂}
use mathlib.Core.List.{List}
use Rattle.facts.specs.Answers.{Checked, Passed, Refused}
use Rattle.netlist.specs.declared.Capacities.{Capacities}
use Rattle.netlist.specs.Records.{netlist}
use Rattle.netlist.specs.Checks.{input_checks}
use Rattle.fanout.specs.Nets.{fewest_in_all}
use Rattle.prices.specs.Checks.{price_list_checks}
use Rattle.prices.specs.PrivatePrices.{applied}
use Rattle.prices.proofs.Lists.{applied_passes}
use Rattle.mapper.specs.Answer.{Mapping}
use Rattle.mapper.specs.Answer.{figures, map_checks, answer_of, area_of, map_answer, map_area}
use Rattle.mapper.proofs.Answering.{checked, map_passed}
use Rattle.mapper.proofs.NetPrices.{applied_whole, applied_part}
use Rattle.mapper.proofs.Promises.{maps_ready}

module _ (bytes : List ℕ) (caps : Capacities) (list prices area : List ℕ) (i : input_checks bytes caps ≡ Passed) (l : price_list_checks list ≡ Passed)
    (e : prices ≡ applied list) where
  same_checks : map_checks bytes caps (applied list) area ≡ map_checks bytes caps list area
  same_checks = checked bytes caps (applied list) area i (applied_passes list l) ∙ sym (checked bytes caps list area i l)

  pub listed_answer : (r : Mapping) → r ≡ map_answer bytes caps prices area → r ≡ map_answer bytes caps list area
  unfolding map_answer
  listed_answer r f = f ∙ rw (e, same_checks) (go (map_checks bytes caps list area) refl)
    where
      go : (a : Checked) → map_checks bytes caps list area ≡ a → answer_of a (netlist bytes) caps (applied list) ≡ answer_of a (netlist bytes) caps list
      go (Refused number place) g = refl
      go Passed g =
          let ready = maps_ready bytes caps ((map_passed bytes caps list area).0 g).1 in
          ap₂ (λ (part whole : ℕ). figures (netlist bytes) (fewest_in_all (netlist bytes) caps) part whole)
          (applied_part list (netlist bytes) caps ready) (applied_whole list (netlist bytes) caps ready)

  pub listed_area : (after : List ℕ) → after ≡ map_area bytes caps prices area → after ≡ map_area bytes caps list area
  unfolding map_area
  listed_area after f = f ∙ rw e (ap (λ (a : Checked). area_of a (netlist bytes) caps area) same_checks)
