-- The numbers tell a refusal from an accepted answer, since no check has number 0; so they are as exact as the checks.
use Prim.Native.Nat.{ℕ, ◌*◌, ◌<◌}
use native.Mathlib.Omega.{arith}
use mathlib.Core.Path.{◌≡◌, refl, sym, ap, subst, ◌∙◌}
use mathlib.Core.Logic.{⊎_elim}
use mathlib.Core.List.{List, [], ◌∷◌}
use lib.ListN.{get_or, take}
use Rattle.facts.specs.Answers.{Checked, Passed, Refused}
use Rattle.facts.specs.Checks.{checked_numbers, outcome}
use Rattle.facts.specs.Refusals.{Conditions, FirstAt, Exact, row_of}
use Rattle.netlist.specs.declared.Capacities.{Capacities}
use Rattle.netlist.specs.Kinds.{width}
use Rattle.netlist.specs.Records.{netlist}
use Rattle.netlist.specs.Refusals.{SourceFails}
use Rattle.netlist.specs.Counts.{buffer_count}
use Rattle.netlist.proofs.Refusals.{source_rows, input_numbered}
use Rattle.verifier.specs.Refusals.{VerifyFails}
use Rattle.verifier.specs.Checks.{verify_checks, verify_answer, verified_numbers}
use Rattle.verifier.proofs.Accepted.{checks_passed}
use Rattle.verifier.proofs.Refusals.{verify_first}
use Rattle.facts.proofs.Refusals.{exact, Numbered, row_positive, zero_passed}
use Rattle.mapper.specs.Answer.{Mapping}
use Rattle.mapper.specs.Answer.{map_checks, answer_of, map_answer, map_area, mapping_numbers}
use Rattle.mapper.specs.Promises.{MapFails}
use Rattle.mapper.proofs.Promises.{map_exact}
use Rattle.simulator.specs.Refusals.{AreaFails, EvaluateFails, StepFails, RunFails}
use Rattle.simulator.proofs.Refusals.{evaluate_exact, step_exact, run_exact}
use Rattle.levels.specs.Promises.{LevelsFail}
use Rattle.levels.proofs.Promises.{levels_exact, levels_numbered}
use Rattle.strip.specs.Answer.{source_size, strip_checks, strip_answer, stripped_numbers}
use Rattle.strip.specs.Promises.{StripFails}
use Rattle.strip.proofs.Promises.{strip_exact, strip_numbered, strip_accepts}
use Rattle.nets.specs.Promises.{CountsFail}
use Rattle.nets.proofs.Promises.{counts_exact}
use Rattle.promises.specs.Written.{Maps}
use Rattle.promises.specs.Numbers.{AnsweredExactly, TwoNumbers, Figures, MapNumbers, VerifyNumbers, StripNumbers, NumbersExact}
use Rattle.promises.proofs.Written.{map_numbered, maps_passed}
use Rattle.promises.proofs.Figures.{figures_hold, figures_same}
use Rattle.verifier.specs.Checks as verified
use Rattle.strip.specs.Answer as stripped

area_numbered : (Bad : Type 0) (row : List ℕ) → Numbered (AreaFails Bad row)
area_numbered Bad row number place = ⊎_elim (λ f. omega (arith, f.0)) (λ z. omega (arith, z.2.0))

source_numbered : (source : List ℕ) → Numbered (SourceFails source)
source_numbered source number place f = row_positive number (row_of 28) (source_rows source number place f).0

verify_numbered : (source : List ℕ) (caps : Capacities) (mapped : List ℕ) → Numbered (VerifyFails source caps mapped)
verify_numbered source caps mapped number place =
    ⊎_elim
    (λ f. row_positive number (row_of 0) (input_numbered source caps number place f))
    (⊎_elim
    (λ f. omega (arith, f.0))
    (⊎_elim
    (λ z. ⊎_elim (⊎_elim (λ f. omega (arith, f.0)) (λ f. omega (arith, f.0))) (⊎_elim (λ f. omega (arith, f.0)) (λ f. omega (arith, f.0))) z.2)
    (⊎_elim (λ z. omega (arith, z.2.0)) (λ z. omega (arith, z.2.0)))))

-- an answer whose numbers are `numbers` of its checks: 0 first where they pass
tell : (F : Conditions) (a : Checked) (numbers : Checked → List ℕ) (refused : ℕ → ℕ → List ℕ) →
    Exact F a → Numbered F →
    ((number place : ℕ) → numbers Passed ≡ refused number place → number ≡ 0) →
    ((n p : ℕ) → numbers (Refused n p) ≡ refused n p) →
    ((n p m q : ℕ) → refused n p ≡ refused m q → (n ≡ m) × (p ≡ q)) →
    AnsweredExactly F (numbers a) refused
tell F a numbers refused e numbered none same apart number place = (go a refl, back)
  where
    go : (b : Checked) → a ≡ b → (numbers b ≡ refused number place) × (0 < number) → FirstAt F number place
    go Passed f h = absurd (omega (arith, none number place h.0, h.1))
    go (Refused n p) f h =
        let s = apart n p number place (sym (same n p) ∙ h.0) in
        (e.refused number place).0 (f ∙ cc (s.0, s.1))

    back : FirstAt F number place → (numbers a ≡ refused number place) × (0 < number)
    back h = (ap numbers ((e.refused number place).1 h) ∙ same number place, numbered number place h.0)

first : List ℕ → ℕ
first numbers = get_or numbers 0 0

two_numbers : (F : Conditions) (a : Checked) → Exact F a → Numbered F → TwoNumbers F (checked_numbers a)
unfolding checked_numbers first
two_numbers F a e numbered =
    record {
      refused = tell F a checked_numbers (λ number place. number ∷ place ∷ []) e numbered (λ n p f. cc) (λ n p. refl) (λ n p m q f. (cc, cc));
      accepted = (
        λ f. e.passed.0 (zero_passed (λ c. first (checked_numbers c)) e numbered (λ n p. refl) (ap first f)),
        λ clear. ap checked_numbers (e.passed.1 clear),
      );
    }

module _ (source : List ℕ) (caps : Capacities) (mapped : List ℕ) where
  abbrev verify_numbers : Checked → List ℕ
  verify_numbers a = verified_numbers (outcome a (verified.Buffers (buffer_count (netlist mapped))) verified.Refused)

  verify_exact : Exact (VerifyFails source caps mapped) (verify_checks source caps mapped)
  verify_exact = exact (verify_first source caps mapped)

  verify_numbers_lem : VerifyNumbers source caps mapped (verified_numbers (verify_answer source caps mapped))
  unfolding verified_numbers first
  verify_numbers_lem =
      record {
        refused =
            tell (VerifyFails source caps mapped) (verify_checks source caps mapped) verify_numbers
            (λ number place. number ∷ place ∷ 0 ∷ []) verify_exact (verify_numbered source caps mapped)
            (λ n p f. cc) (λ n p. refl) (λ n p m q f. (cc, cc));
        accepted = λ buffers. (
          λ f.
              let passed = zero_passed (λ c. first (verify_numbers c)) verify_exact (verify_numbered source caps mapped) (λ n p. refl) (ap first f) in
              ((checks_passed source caps mapped).0 passed, cc (sym f ∙ ap verify_numbers passed)),
          λ a. ap verify_numbers ((checks_passed source caps mapped).1 a.0) ∙ cc a.1,
        );
        clear = (
          λ c. (checks_passed source caps mapped).0 (verify_exact.passed.1 c),
          λ a. verify_exact.passed.0 ((checks_passed source caps mapped).1 a),
        );
      }

module _ (caps : Capacities) (mapped area : List ℕ) where
  abbrev strip_numbers : Checked → List ℕ
  strip_numbers a = stripped_numbers (outcome a (stripped.Records (source_size (netlist mapped))) stripped.Refused)

  strip_numbers_lem : StripNumbers caps mapped area (stripped_numbers (strip_answer caps mapped area))
  unfolding stripped_numbers first
  strip_numbers_lem =
      record {
        refused =
            tell (StripFails caps mapped area) (strip_checks caps mapped area) strip_numbers
            (λ number place. number ∷ place ∷ 0 ∷ []) (strip_exact caps mapped area) (strip_numbered caps mapped area)
            (λ n p f. cc) (λ n p. refl) (λ n p m q f. (cc, cc));
        accepted = λ N. (
          λ f.
              let passed = zero_passed (λ c. first (strip_numbers c)) (strip_exact caps mapped area) (strip_numbered caps mapped area) (λ n p. refl) (ap first f) in
              let same : source_size (netlist mapped) ≡ N = cc (sym (ap strip_numbers passed) ∙ f) in
              (strip_accepts caps mapped area N).0 (rw passed (ap stripped.Records same)),
          λ h. ap stripped_numbers ((strip_accepts caps mapped area N).1 h),
        );
      }

module _ (source : List ℕ) (caps : Capacities) (list area : List ℕ) where
  abbrev answered : Checked → List ℕ
  answered a = mapping_numbers (answer_of a (netlist source) caps list)

  -- an accepted answer's first two numbers are 0
  numbers_of : map_checks source caps list area ≡ Passed →
      let a : Mapping = map_answer source caps list area in
      mapping_numbers a ≡ 0 ∷ 0 ∷ a.size ∷ a.buffers ∷ a.depth ∷ a.junctions ∷ a.share ∷ []
  unfolding map_answer mapping_numbers
  numbers_of passed = rw passed

  map_numbers : MapNumbers source caps list area (mapping_numbers (map_answer source caps list area))
  unfolding map_answer mapping_numbers first
  map_numbers =
      record {
        refused =
            tell (MapFails source caps list area) (map_checks source caps list area) answered
            (λ number place. number ∷ place ∷ 0 ∷ 0 ∷ 0 ∷ 0 ∷ 0 ∷ []) (map_exact source caps list area) (map_numbered source caps list area)
            (λ n p f. cc) (λ n p. refl) (λ n p m q f. (cc, cc));
        accepted = λ M B D J P. (
          λ f.
              let maps : Maps source caps list area = ap first f in (
                (map_exact source caps list area).passed.0 (maps_passed source caps list area maps),
                subst
                    (λ (l : List ℕ). Figures source caps list (take (width * get_or l 2 0) (map_area source caps list area)) (get_or l 2 0) (get_or l 3 0) (get_or l 4 0) (get_or l 5 0) (get_or l 6 0))
                    f (figures_hold source caps list area maps),
              ),
          λ c.
              let passed = (map_exact source caps list area).passed.1 c.0 in
              let maps : Maps source caps list area = ap (λ (a : Checked). (answer_of a (netlist source) caps list).number) passed in
              numbers_of passed ∙ figures_same source caps list (map_area source caps list area) _ _ _ _ _ M B D J P (figures_hold source caps list area maps) c.1,
        );
      }

pub numbers_exact : NumbersExact
numbers_exact =
    record {
      map = map_numbers;
      verify = verify_numbers_lem;
      count_nets = λ source caps records counts.
          two_numbers (CountsFail source caps records counts) _ (counts_exact source caps records counts)
          (λ number place.
          ⊎_elim (λ x. row_positive number (row_of 0) (input_numbered source caps number place x))
          (⊎_elim (λ f. omega (arith, f.0)) (λ z. omega (arith, z.2.0))));
      evaluate = λ source row area.
          two_numbers (EvaluateFails source row area) _ (evaluate_exact source row area)
          (λ number place. ⊎_elim (source_numbered source number place) (area_numbered _ row number place));
      step = λ source caps mapped row area.
          two_numbers (StepFails source caps mapped row area) _ (step_exact source caps mapped row area)
          (λ number place. ⊎_elim (verify_numbered source caps mapped number place) (area_numbered _ row number place));
      run = λ source caps mapped r rows area outs.
          two_numbers (RunFails source caps mapped r rows area outs) _ (run_exact source caps mapped r rows area outs)
          (λ number place. ⊎_elim (verify_numbered source caps mapped number place) (area_numbered _ rows number place));
      levels = λ source s area. two_numbers (LevelsFail source s area) _ (levels_exact source s area) (levels_numbered source s area);
      strip = strip_numbers_lem;
    }
