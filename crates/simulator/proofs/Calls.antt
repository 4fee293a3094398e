-- The list of one-step calls: every output row after step t + D is plain logic's for the row of step t.
use Prim.Native.Nat.{ℕ, zero, suc, ◌+◌, ◌<◌}
use mathlib.Core.Path.{◌≡◌, refl, ◌∙◌}
use mathlib.Core.List.{List, [], ◌∷◌}
use native.Mathlib.Omega.{arith}
use lib.ListN.{length, get_or}
use Rattle.facts.specs.Answers.{Checked, Passed, Refused}
use Rattle.facts.specs.Checks.{unless_refused}
use Rattle.netlist.specs.declared.Capacities.{Capacities}
use Rattle.netlist.specs.Records.{netlist, record_count, depth}
use Rattle.netlist.specs.Source.{IsSource}
use Rattle.verifier.specs.Legal.{Legal}
use Rattle.simulator.specs.Logic.{values, output_row}
use Rattle.simulator.specs.Step.{stepped, step_answer, step_area}
use Rattle.simulator.specs.Waves.{counted, taken, history}
use Rattle.simulator.proofs.Outputs.{outputs_kept, wave_outputs}

module _ (source : List ℕ) (caps : Capacities) (mapped : List ℕ) where
  -- from area on, call k of those accepted leaves what one step makes of the area before it
  abbrev Steps : List (List ℕ) → List (List ℕ) → List ℕ → Type 0
  Steps rows areas area =
      (k : ℕ) → k < length rows → get_or areas k [] ≡ stepped (netlist mapped) (get_or rows k []) (get_or (area ∷ areas) k [])

  one_more : (answer : Checked) (row area next : List ℕ) (rows areas : List (List ℕ)) →
      next ≡ unless_refused answer (stepped (netlist mapped) row area) area → Steps rows areas next →
      Steps (counted answer row rows) (counted answer next areas) area
  one_more Passed row area next rows areas e h zero l = e
  one_more Passed row area next rows areas e h (suc k) l = h k (omega arith)
  one_more (Refused number place) row area next rows areas e h k l = rw (← e) (h k l)

  history_steps : (rows : List (List ℕ)) (area : List ℕ) →
      Steps (taken source caps mapped area rows) (history source caps mapped area rows) area
  unfolding taken history step_area
  history_steps [] area = λ k l. absurd (omega arith)
  history_steps (row ∷ rows) area =
      one_more (step_answer source caps mapped row area) row area (step_area source caps mapped row area) _ _ refl
      (history_steps rows (step_area source caps mapped row area))

  -- one claim about a list of calls, whatever the area holds and whatever the rows are
  pub calls_plain : IsSource (netlist source) → Legal (netlist source) caps (netlist mapped) →
      (area : List ℕ) (rows : List (List ℕ)) (t : ℕ) → t + depth (netlist source) < length (taken source caps mapped area rows) →
      output_row (netlist mapped) (get_or (history source caps mapped area rows) (t + depth (netlist source)) [])
      ≡ output_row (netlist source) (values (netlist source) (get_or (taken source caps mapped area rows) t []) (record_count source))
  calls_plain is_source legal area rows t l =
      outputs_kept (netlist source) caps (netlist mapped) is_source legal _
      ∙ wave_outputs (netlist source) caps (netlist mapped) is_source legal
      (λ k. get_or (taken source caps mapped area rows) k [])
      (λ k. get_or (area ∷ history source caps mapped area rows) k [])
      (length (taken source caps mapped area rows))
      (history_steps rows area) t l
