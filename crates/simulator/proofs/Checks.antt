-- Laws of checks 18 and 19, with premises as the code has them: what each test gives of a call's answer.
use Prim.Native.Nat.{ℕ, ◌*◌, ◌^◌, ◌<◌, ◌≤◌}
use mathlib.Core.Path.{◌≡◌, sym, ◌∙◌, ap}
use mathlib.Core.Bool.{Bool, false, not}
use mathlib.Core.List.{List}
use native.Mathlib.Nat.{mul-le-mul, le_trans}
use native.Mathlib.Omega.{arith}
use lib.ListN.{length}
use lib.Dec.{eqb}
use Rattle.facts.specs.Answers.{Checked, Passed, Refused}
use Rattle.facts.specs.Checks.{unless_refused}
use Rattle.facts.proofs.Reflect.{reflect, or_none, unlike_none}
use Rattle.facts.proofs.Sums.{count_le}
use Rattle.netlist.specs.declared.Capacities.{Capacities}
use Rattle.netlist.specs.Kinds.{source_limit}
use Rattle.netlist.specs.Records.{netlist, record_count, is_output}
use Rattle.netlist.specs.Checks.{source_checks}
use Rattle.netlist.proofs.Source.{source_passed}
use Rattle.verifier.specs.Checks.{verify_checks}
use Rattle.verifier.proofs.Accepted.{checks_passed}
use Rattle.simulator.specs.Logic.{values}
use Rattle.simulator.specs.Evaluate.{bad_areas, evaluate_answer}
use Rattle.netlist.specs.Source.{IsSource}
use Rattle.netlist.specs.Balance.{Named}
use Rattle.netlist.specs.Counts.{is_input, inputs, outputs}
use Rattle.simulator.specs.Step.{row_limit, bad_rows, step_answer}
use Rattle.simulator.specs.PrivateStep.{Buffered}
use Rattle.simulator.specs.Run.{run_answer}
use Rattle.simulator.specs.PrivateRun.{IsRun}
use Rattle.simulator.proofs.Accepted.{evaluate_passed, step_passed, run_passed}

-- an area is written where the answer passes, and else is as it was
module _ (x : Checked) (new old : List ℕ) where
  pub area_writes : (area : List ℕ) → Passed ≡ x → area ≡ new → area ≡ unless_refused x new old
  area_writes area e q = rw (← e) q

  pub area_keeps : (number place : ℕ) → Refused number place ≡ x → old ≡ unless_refused x new old
  area_keeps number place e = rw (← e)

module _ (source row area : List ℕ) (b : Bool) (e : b ≡ bad_areas (netlist source) row area) where
  -- a row of a source's inputs is short
  pub row_short : source_checks source ≡ Passed → b ≡ false → length row < 2 ^ 32
  row_short p h =
      let g = ((or_none (not (eqb (length row) (inputs (netlist source)))) _).0 (sym e ∙ h)).0 in
      omega (
        arith,
        (unlike_none (length row) (inputs (netlist source))).0 g,
        count_le (is_input (netlist source)) (record_count source),
        ((source_passed source).0 p).is_source.few,
      )

module _ (source row area : List ℕ) (e : Passed ≡ evaluate_answer source row area) where
  pub evaluate_source_is : IsSource (netlist source)
  evaluate_source_is = ((evaluate_passed source row area).0 (sym e)).0.is_source

  module _ (n : ℕ) (q : n ≡ record_count source) where
    pub evaluate_room : length area ≡ n
    evaluate_room = ((evaluate_passed source row area).0 (sym e)).2 ∙ sym q

    pub evaluated : (new : List ℕ) → new ≡ values (netlist source) row n → new ≡ values (netlist source) row (record_count source)
    evaluated new p = p ∙ ap (values (netlist source) row) q

-- R rows of a source's inputs are few bytes
rows_short : (r x n : ℕ) → r ≤ row_limit → x ≤ n → n ≤ source_limit → r * x ≤ row_limit * source_limit
rows_short r x n h k l = mul-le-mul h (le_trans k l)

module _ (source mapped : List ℕ) (r : ℕ) (rows area : List ℕ) where
  module _ (x : ℕ) (e : x ≡ inputs (netlist source)) (h : r ≤ row_limit) where
    pub product_fits : record_count source ≤ source_limit → r * x < 2 ^ 64
    product_fits l =
        omega (arith, rows_short r x (record_count source) h (rw e (count_le (is_input (netlist source)) (record_count source))) l)

  -- rows that pass 18 are short
  pub rows_fit : (b : Bool) → record_count source ≤ source_limit → b ≡ bad_rows (netlist source) (netlist mapped) r rows area → b ≡ false → length rows < 2 ^ 32
  rows_fit b l e h =
      let g = simp reflect at (sym e ∙ h) in
      omega (
        arith,
        g.0.1,
        rows_short r (inputs (netlist source)) (record_count source) g.0.0 (count_le (is_input (netlist source)) (record_count source)) l,
      )

-- a judged source has few records, its mapped netlist's used slots name records, and from its size on that has buffers alone
module _ (source : List ℕ) (caps : Capacities) (mapped : List ℕ) (e : Passed ≡ verify_checks source caps mapped) where
  pub judged_few : record_count source ≤ source_limit
  judged_few = ((checks_passed source caps mapped).0 (sym e)).is_source.is_source.few

  pub judged_named : Named (netlist mapped)
  judged_named = ((checks_passed source caps mapped).0 (sym e)).legal.named

  pub judged_buffered : (n : ℕ) → n ≡ record_count source → Buffered mapped n
  judged_buffered n q =
      let l = ((checks_passed source caps mapped).0 (sym e)).legal in
      rw q (record {
        within = l.whole;
        kind = λ i g h. (l.buffers i g h).kind;
        inversion = λ i g h. (l.buffers i g h).inversion;
        named = λ i g h. l.named i 0 h (rw (l.buffers i g h).kind (omega arith));
      })

module _ (source : List ℕ) (caps : Capacities) (mapped row area : List ℕ) (e : Passed ≡ step_answer source caps mapped row area) where
  verified : Passed ≡ verify_checks source caps mapped
  verified = sym ((step_passed source caps mapped row area).0 (sym e)).0

  pub step_named : Named (netlist mapped)
  step_named = judged_named source caps mapped verified

  pub step_buffered : (n : ℕ) → n ≡ record_count source → Buffered mapped n
  step_buffered = judged_buffered source caps mapped verified

  pub step_room : (m : ℕ) → m ≡ record_count mapped → length area ≡ 2 * m
  step_room m q = ((step_passed source caps mapped row area).0 (sym e)).2 ∙ ap (λ (k : ℕ). 2 * k) (sym q)

pub outs_fit : (source : List ℕ) (r x : ℕ) → x ≡ outputs (netlist source) → record_count source ≤ source_limit → r ≤ row_limit → r * x < 2 ^ 64
outs_fit source r x e l h =
    omega (arith, rows_short r x (record_count source) h (rw e (count_le (is_output (netlist source)) (record_count source))) l)

-- the judged rows are few
pub few_rows : (source mapped : List ℕ) (r : ℕ) (rows area : List ℕ) (b : Bool) → b ≡ bad_rows (netlist source) (netlist mapped) r rows area → b ≡ false → r ≤ row_limit
few_rows source mapped r rows area b e h = let g = simp reflect at (sym e ∙ h) in g.0.0

module _ (source : List ℕ) (caps : Capacities) (mapped : List ℕ) (r : ℕ) (rows area outs : List ℕ)
    (e : Passed ≡ run_answer source caps mapped r rows area outs) where
  pub run_verified : Passed ≡ verify_checks source caps mapped
  run_verified = sym ((run_passed source caps mapped r rows area outs).0 (sym e)).0

  pub run_areas : IsRun (netlist source) (netlist mapped) r rows area outs
  run_areas = ((run_passed source caps mapped r rows area outs).0 (sym e)).1
