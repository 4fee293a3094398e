-- The numbers of each answer (specification 4): refused exactly where a check is the first that fails, accepted exactly if none does, and
-- what each number of an accepted answer is, as facts of what was handed in and written.
use Rattle.std.specs.Prelude.{ℕ, ◌+◌, ◌*◌, ◌<◌, ◌≡◌, ◌↔◌, List, [], ◌∷◌, take}
use Rattle.facts.specs.Checks.{checked_numbers}
use Rattle.facts.specs.Refusals.{Conditions, Clear, FirstAt}
use Rattle.facts.specs.Rounding.{Rounded}
use Rattle.netlist.specs.declared.Capacities.{Capacities}
use Rattle.netlist.specs.Kinds.{width}
use Rattle.netlist.specs.Records.{netlist, record_count}
use Rattle.netlist.specs.Source.{OutputsAt}
use Rattle.netlist.specs.Counts.{buffer_count}
use Rattle.levels.specs.Levels.{levels_answer}
use Rattle.levels.specs.Promises.{LevelsFail}
use Rattle.nets.specs.Counts.{counts_answer}
use Rattle.nets.specs.Promises.{CountsFail}
use Rattle.prices.specs.Prices.{junctions, buffer_junctions}
use Rattle.mapper.specs.Answer.{map_answer, map_area, mapping_numbers}
use Rattle.mapper.specs.Promises.{MapFails}
use Rattle.verifier.specs.Checks.{verify_answer, verified_numbers}
use Rattle.verifier.specs.Accepted.{Accepted}
use Rattle.verifier.specs.Refusals.{VerifyFails}
use Rattle.strip.specs.Answer.{strip_answer, stripped_numbers}
use Rattle.strip.specs.Promises.{StripFails, HasSource}
use Rattle.simulator.specs.Evaluate.{evaluate_answer}
use Rattle.simulator.specs.Step.{step_answer}
use Rattle.simulator.specs.Run.{run_answer}
use Rattle.simulator.specs.Refusals.{EvaluateFails, StepFails, RunFails}
use Rattle.fanout.specs.Nets.{fewest_in_all}

-- these numbers, whose first is a refusal's and all after the place are 0, are answered exactly where that check is the first
abbrev pub AnsweredExactly : Conditions → List ℕ → (ℕ → ℕ → List ℕ) → Type 0
AnsweredExactly F numbers refused = (number place : ℕ) → ((numbers ≡ refused number place) × (0 < number)) ↔ FirstAt F number place

-- the numbers of a call that answers number and place alone: 0 and 0 exactly if no condition holds
pub record TwoNumbers (F : Conditions) (numbers : List ℕ) : Type 0 where
  pub refused : AnsweredExactly F numbers (λ number place. number ∷ place ∷ [])
  pub accepted : (numbers ≡ 0 ∷ 0 ∷ []) ↔ Clear F

-- the last five of an accepted mapping's numbers, as facts of the source, of the price list and of the netlist written
pub record Figures (source : List ℕ) (caps : Capacities) (list written : List ℕ) (M buffers D JJs share : ℕ) : Type 0 where
  -- M is the records written: the source's and the buffers
  pub records : record_count written ≡ M
  pub added : M ≡ record_count source + buffers
  -- buffers are the records of kind 5 written, as many as the fewest of all nets
  pub kinds : buffers ≡ buffer_count (netlist written)
  pub fewest : buffers ≡ fewest_in_all (netlist source) caps
  -- D is the level of the outputs written, or 0
  pub outputs : OutputsAt (netlist written) D
  -- JJs are the prices of all records written, each of its kind at the number of slots that it feeds there; the share is the part of
  -- those of kind 5 in percent, rounded
  pub prices : JJs ≡ junctions list (netlist written)
  pub part : Rounded (100 * buffer_junctions list (netlist written)) JJs share

-- the mapper's seven numbers
pub record MapNumbers (source : List ℕ) (caps : Capacities) (list area : List ℕ) (numbers : List ℕ) : Type 0 where
  pub refused : AnsweredExactly (MapFails source caps list area) numbers (λ number place. number ∷ place ∷ 0 ∷ 0 ∷ 0 ∷ 0 ∷ 0 ∷ [])
  -- written are the first M records of the area
  pub accepted : (M buffers D JJs share : ℕ) →
      (numbers ≡ 0 ∷ 0 ∷ M ∷ buffers ∷ D ∷ JJs ∷ share ∷ [])
      ↔ (Clear (MapFails source caps list area) × Figures source caps list (take (width * M) (map_area source caps list area)) M buffers D JJs share)

-- the verifier's three numbers
pub record VerifyNumbers (source : List ℕ) (caps : Capacities) (mapped : List ℕ) (numbers : List ℕ) : Type 0 where
  pub refused : AnsweredExactly (VerifyFails source caps mapped) numbers (λ number place. number ∷ place ∷ 0 ∷ [])
  pub accepted : (buffers : ℕ) →
      (numbers ≡ 0 ∷ 0 ∷ buffers ∷ []) ↔ (Accepted source caps mapped × (buffers ≡ buffer_count (netlist mapped)))
  -- no condition holds exactly if the mapped netlist is legal
  pub clear : Clear (VerifyFails source caps mapped) ↔ Accepted source caps mapped

-- stripping's three numbers
pub record StripNumbers (caps : Capacities) (mapped area : List ℕ) (numbers : List ℕ) : Type 0 where
  pub refused : AnsweredExactly (StripFails caps mapped area) numbers (λ number place. number ∷ place ∷ 0 ∷ [])
  pub accepted : (N : ℕ) → (numbers ≡ 0 ∷ 0 ∷ N ∷ []) ↔ HasSource caps mapped area N

-- of each call; the count's numbers are in `NumbersExactly` of fanout
pub record NumbersExact : Type 0 where
  pub map : (source : List ℕ) (caps : Capacities) (list area : List ℕ) → MapNumbers source caps list area (mapping_numbers (map_answer source caps list area))
  pub verify : (source : List ℕ) (caps : Capacities) (mapped : List ℕ) →
      VerifyNumbers source caps mapped (verified_numbers (verify_answer source caps mapped))
  pub count_nets : (source : List ℕ) (caps : Capacities) (records counts : List ℕ) →
      TwoNumbers (CountsFail source caps records counts) (checked_numbers (counts_answer source caps records counts))
  pub evaluate : (source row area : List ℕ) →
      TwoNumbers (EvaluateFails source row area) (checked_numbers (evaluate_answer source row area))
  pub step : (source : List ℕ) (caps : Capacities) (mapped row area : List ℕ) →
      TwoNumbers (StepFails source caps mapped row area) (checked_numbers (step_answer source caps mapped row area))
  pub run : (source : List ℕ) (caps : Capacities) (mapped : List ℕ) (r : ℕ) (rows area outs : List ℕ) →
      TwoNumbers (RunFails source caps mapped r rows area outs) (checked_numbers (run_answer source caps mapped r rows area outs))
  pub levels : (source : List ℕ) (s : ℕ) (area : List ℕ) →
      TwoNumbers (LevelsFail source s area) (checked_numbers (levels_answer source s area))
  pub strip : (caps : Capacities) (mapped area : List ℕ) → StripNumbers caps mapped area (stripped_numbers (strip_answer caps mapped area))
