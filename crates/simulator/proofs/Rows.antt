-- The phase run: its output row t is plain logic's for row t.
use Prim.Native.Nat.{ℕ, zero, suc, ◌+◌, ◌*◌, ◌<◌, ◌≤◌}
use mathlib.Core.Path.{◌≡◌, refl, sym, ◌∙◌, ap}
use mathlib.Core.Bool.{Bool, true, false, cond}
use mathlib.Core.List.{List, [], ◌∷◌, ◌++◌}
use native.Mathlib.Omega.{arith}
use native.Mathlib.Decide.{dec_lt}
use native.Mathlib.Nat.{zero-mul, suc-mul, mul-le-mul_right}
use lib.ListN.{length, get_or, take, drop, length-append, length-drop, length-replicate}
use lib.Seq.{take_all, drop_at, take-append-le, drop-append-le}
use Rattle.facts.specs.Answers.{Passed}
use Rattle.facts.specs.Sums.{bit, sum, count}
use Rattle.netlist.specs.declared.Capacities.{Capacities}
use Rattle.netlist.specs.Records.{Netlist, netlist, record_count, depth, is_output}
use Rattle.netlist.specs.Source.{IsSource}
use Rattle.netlist.specs.Counts.{inputs, outputs}
use Rattle.verifier.specs.Legal.{Legal}
use Rattle.simulator.specs.Logic.{values, outputs_below, output_row}
use Rattle.simulator.specs.Step.{stepped}
use Rattle.simulator.specs.Run.{row_at, after, output_rows, run_answer, run_outputs}
use Rattle.simulator.proofs.Steps.{length_stepped}
use Rattle.simulator.proofs.Outputs.{wave_outputs}

pub length_after : (m : Netlist) (w : ℕ) (rows : List ℕ) (k : ℕ) → length (after m w rows k) ≡ 2 * m.size
unfolding after
length_after m w rows zero = length-replicate (2 * m.size) 0
length_after m w rows (suc k) = length_stepped m (row_at w rows k) (after m w rows k)

-- an output row has a byte per output
pub length_outputs : (m : Netlist) (area : List ℕ) (n : ℕ) → length (outputs_below m area n) ≡ count (is_output m) n
unfolding outputs_below count sum
length_outputs m area zero = refl
length_outputs m area (suc n) =
    length-append (outputs_below m area n) _ ∙ omega (arith, length_outputs m area n, go (is_output m n))
  where
    go : (b : Bool) → length (cond b (get_or area n 0 ∷ []) []) ≡ bit b
    go true = refl
    go false = refl

-- a row of rows written one after the other
row_at_before : (w : ℕ) (xs ys : List ℕ) (r t : ℕ) → length xs ≡ r * w → t < r → row_at w (xs ++ ys) t ≡ row_at w xs t
row_at_before w xs ys r t e l =
    ap (take w) (drop-append-le (t * w) xs ys (omega (arith, fits)))
    ∙ take-append-le w (drop (t * w) xs) ys (simp length-drop (omega (arith, fits)))
  where
    fits : t * w + w ≤ length xs
    fits = rw (e, ← suc-mul t w) (mul-le-mul_right w l)

row_at_last : (w : ℕ) (xs ys : List ℕ) (r : ℕ) → length xs ≡ r * w → length ys ≡ w → row_at w (xs ++ ys) r ≡ ys
row_at_last w xs ys r e f = ap (take w) (drop_at xs ys (r * w) e) ∙ take_all w ys (omega arith)

module _ (n m : Netlist) (rows : List ℕ) where
  pub length_output_rows : (r : ℕ) → length (output_rows n m rows r) ≡ r * outputs n
  unfolding output_rows
  length_output_rows zero = sym (zero-mul (outputs n))
  length_output_rows (suc r) =
      length-append (output_rows n m rows r) _
      ∙ omega (arith, length_output_rows r, length_outputs n (after m (inputs n) rows (suc (r + depth n))) n.size, suc-mul r (outputs n))

  -- output row t of the run's output area
  pub output_rows_at : (r t : ℕ) → t < r →
      row_at (outputs n) (output_rows n m rows r) t ≡ output_row n (after m (inputs n) rows (suc (t + depth n)))
  unfolding output_rows
  output_rows_at zero t l = absurd (omega arith)
  output_rows_at (suc r) t l =
      elim (dec_lt t r) [
        | yes h ↦ row_at_before (outputs n) (output_rows n m rows r) _ r t (length_output_rows r) h ∙ output_rows_at r t h
        | no h ↦
            (let e : r ≡ t = omega arith in
            rw (← e)
            (row_at_last (outputs n) (output_rows n m rows r) _ r (length_output_rows r) (length_outputs n _ n.size)))
      ]

module _ (source : List ℕ) (caps : Capacities) (mapped : List ℕ) (count : ℕ) (rows area outs : List ℕ)
    (accepted : run_answer source caps mapped count rows area outs ≡ Passed) where
  pub outputs_written : run_outputs source caps mapped count rows area outs ≡ output_rows (netlist source) (netlist mapped) rows count
  unfolding run_outputs
  outputs_written = rw accepted

  -- in an accepted run output row t is plain logic's for row t
  pub run_plain : IsSource (netlist source) → Legal (netlist source) caps (netlist mapped) → (t : ℕ) → t < count →
      row_at (outputs (netlist source)) (run_outputs source caps mapped count rows area outs) t
      ≡ output_row (netlist source) (values (netlist source) (row_at (inputs (netlist source)) rows t) (record_count source))
  unfolding after
  run_plain is_source legal t l =
      ap (λ (out : List ℕ). row_at (outputs (netlist source)) out t) outputs_written
      ∙ output_rows_at (netlist source) (netlist mapped) rows count t l
      ∙ wave_outputs (netlist source) caps (netlist mapped) is_source legal
      (row_at (inputs (netlist source)) rows)
      (after (netlist mapped) (inputs (netlist source)) rows)
      (suc (t + depth (netlist source)))
      (λ k u. step k) t (omega arith)
    where
      step : (k : ℕ) → after (netlist mapped) (inputs (netlist source)) rows (suc k) ≡ stepped (netlist mapped) (row_at (inputs (netlist source)) rows k) (after (netlist mapped) (inputs (netlist source)) rows k)
      step k = refl
