-- Evaluator, step and run refuse exactly by the first check whose condition holds.
use Prim.Native.Nat.{ℕ, ◌*◌}
use native.Mathlib.Omega.{arith}
use mathlib.Core.Path.{◌≡◌, refl, subst}
use mathlib.Core.Logic.{◌⊎◌, ⊎_elim, ◌↔◌}
use mathlib.Core.Bool.{Bool, true, false, ◌||◌}
use mathlib.Core.List.{List}
use lib.ListN.{length, get_or}
use Rattle.facts.specs.Answers.{Checked}
use Rattle.facts.specs.Checks.{check, ◌and_then◌}
use Rattle.facts.specs.Refusals.{row_of, Each, First}
use Rattle.facts.proofs.Reflect.{less, unlike, either_is}
use Rattle.facts.proofs.Refusals.{exact, After, rows_before, one_row, within_one, first_check, first_then, first_scan}
use Rattle.netlist.specs.Records.{Netlist, netlist}
use Rattle.netlist.specs.Counts.{inputs, outputs}
use Rattle.netlist.proofs.Refusals.{source_rows, source_first}
use Rattle.verifier.proofs.Refusals.{verify_first, verify_rows}
use Rattle.simulator.specs.Evaluate.{bit_check, bit_checks, bad_areas, evaluate_checks, evaluate_answer}
use Rattle.simulator.specs.Step.{row_limit, bad_rows, step_checks, step_answer}
use Rattle.simulator.specs.Run.{bad_outputs, run_checks, run_answer}
use Rattle.simulator.specs.Refusals.{BadAreas, BadRows, BadOutputs, BitFails, AreaFails, EvaluateExact, StepExact, RunExact}

bits_row : (row : List ℕ) (n p : ℕ) → Each (length row) (BitFails row) n p → row_of n ≡ row_of 19
bits_row row n p z = one_row 19 z.0 _ n p z.2

-- 18 and 19 stand in rows after that of 17
area_rows : (Bad : Type 0) (row : List ℕ) → After (row_of 17) (AreaFails Bad row)
area_rows Bad row n p =
    ⊎_elim (λ f. omega (arith, one_row 18 0 Bad n p f)) (λ f. omega (arith, bits_row row n p f))

area_first : (c : Bool) (Bad : Type 0) (row : List ℕ) → (c ≡ true) ↔ Bad → First (AreaFails Bad row) (check 18 0 c and_then bit_checks row)
unfolding bit_checks
area_first c Bad row e =
    first_then (rows_before (row_of 18) (λ n p f. omega (arith, one_row 18 0 Bad n p f)) (λ n p f. omega (arith, bits_row row n p f)))
    (first_check 18 0 e)
    (first_scan (bit_check row) (BitFails row) (row_of 19) 19 19 (λ k. within_one 19 k _) (length row)
    (λ k l. first_check 19 k (less 1 (get_or row k 0))))

areas_are : (n : Netlist) (row area : List ℕ) → (bad_areas n row area ≡ true) ↔ BadAreas n row area
areas_are n row area = either_is (unlike (length row) (inputs n)) (unlike (length area) n.size)

rows_are : (n m : Netlist) (r : ℕ) (rows area : List ℕ) → (bad_rows n m r rows area ≡ true) ↔ BadRows n m r rows area
rows_are n m r rows area =
    either_is (either_is (less row_limit r) (unlike (length rows) (r * inputs n))) (unlike (length area) (2 * m.size))

-- 18 twice is 18 once
twice : (a b : Bool) (c : Checked) → (check 18 0 (a || b) and_then c) ≡ (check 18 0 a and_then (check 18 0 b and_then c))
twice true b c = refl
twice false b c = refl

pub evaluate_exact : EvaluateExact
unfolding evaluate_answer evaluate_checks
evaluate_exact source row area =
    exact
    (first_then
    (rows_before (row_of 17) (λ n p f. omega (arith, source_rows source n p f)) (area_rows (BadAreas (netlist source) row area) row))
    (source_first source)
    (area_first _ _ row (areas_are (netlist source) row area)))

pub step_exact : StepExact
unfolding step_answer step_checks
step_exact source caps mapped row area =
    exact
    (first_then
    (rows_before (row_of 17) (verify_rows source caps mapped) (area_rows (BadRows (netlist source) (netlist mapped) 1 row area) row))
    (verify_first source caps mapped)
    (area_first _ _ row (rows_are (netlist source) (netlist mapped) 1 row area)))

pub run_exact : RunExact
unfolding run_answer run_checks
run_exact source caps mapped r rows area outs =
    exact
    (first_then
    (rows_before (row_of 17) (verify_rows source caps mapped)
    (area_rows (BadRows (netlist source) (netlist mapped) r rows area ⊎ BadOutputs (netlist source) r outs) rows))
    (verify_first source caps mapped)
    (subst (First _) (twice (bad_rows (netlist source) (netlist mapped) r rows area) (bad_outputs (netlist source) r outs) (bit_checks rows))
    (area_first _ _ rows
    (either_is (rows_are (netlist source) (netlist mapped) r rows area) (unlike (length outs) (r * outputs (netlist source)))))))
