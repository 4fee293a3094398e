-- The run is the step over and over: its state area is what R + D one-step calls from zeros leave, none of them refused.
use Prim.Native.Nat.{ℕ, zero, suc, ◌+◌, ◌*◌, ◌<◌, ◌≤◌}
use mathlib.Core.Path.{◌≡◌, refl, sym, ◌∙◌, ap, ap₂}
use mathlib.Core.Bool.{Bool, true, false, cond}
use mathlib.Core.List.{List, [], ◌∷◌, ◌++◌}
use native.Mathlib.Omega.{arith}
use native.Mathlib.Decide.{dec_lt}
use native.Mathlib.Nat.{suc-mul, mul-le-mul_right}
use lib.ListN.{length, take, drop, replicate, length-drop, length-replicate, get_or-replicate, drop_of_length-le}
use lib.Seq.{length-take-le, get_or-take, get_or-drop, take-nil}
use lib.Dec.{ltb}
use borrow.Author.Tests.{lt-ltb, le-ltb, ltb-true, ne_eqb}
use Rattle.facts.specs.Answers.{Checked, Passed, Refused}
use Rattle.facts.specs.Sums.{bit, count}
use Rattle.facts.specs.Lists.{tabulate}
use Rattle.facts.proofs.Lists.{get_or_replicated, tabulate_cong}
use Rattle.netlist.specs.declared.Capacities.{Capacities}
use Rattle.netlist.specs.Records.{Netlist, netlist, depth}
use Rattle.netlist.specs.Counts.{is_input, inputs, outputs}
use Rattle.simulator.specs.Logic.{on, value_of, next, output_row}
use Rattle.simulator.specs.Step.{renewed_below, older, stepped, step_answer, step_area}
use Rattle.simulator.specs.Run.{row_at, zeros, after, run_answer, run_area, run_outputs}
use Rattle.simulator.specs.PrivateRun.{IsRow, IsRun}
use Rattle.simulator.specs.Waves.{row_of_step, counted, taken, leaves}
use Rattle.simulator.proofs.Accepted.{step_passed, run_passed}
use Rattle.simulator.proofs.Rows.{length_after, output_rows_at, outputs_written}

-- a step goes by what the row's bytes stand for
stepped_row : (m : Netlist) (a b area : List ℕ) → ((k : ℕ) → on a k ≡ on b k) → stepped m a area ≡ stepped m b area
unfolding stepped renewed_below next
stepped_row m a b area h =
    ap (λ (l : List ℕ). l ++ older m.size area)
    (tabulate_cong _ _ m.size
    (λ i l. ap (λ (g : Bool). bit (value_of (m.at i) g (on (take m.size area)))) (h (count (is_input m) i))))

-- one call more
module _ (source : List ℕ) (caps : Capacities) (mapped : List ℕ) where
  leaves_snoc : (area : List ℕ) (rows : List (List ℕ)) (row : List ℕ) →
      leaves source caps mapped area (rows ++ (row ∷ [])) ≡ step_area source caps mapped row (leaves source caps mapped area rows)
  unfolding leaves
  leaves_snoc area [] row = refl
  leaves_snoc area (first ∷ rows) row = leaves_snoc (step_area source caps mapped first area) rows row

  taken_snoc : (area : List ℕ) (rows : List (List ℕ)) (row : List ℕ) →
      taken source caps mapped area (rows ++ (row ∷ []))
      ≡ taken source caps mapped area rows ++ counted (step_answer source caps mapped row (leaves source caps mapped area rows)) row []
  unfolding taken leaves
  taken_snoc area [] row = refl
  taken_snoc area (first ∷ rows) row =
      go (step_answer source caps mapped first area) _ _ _ (taken_snoc (step_area source caps mapped first area) rows row)
    where
      go : (answer : Checked) (xs ys zs : List (List ℕ)) → xs ≡ ys ++ zs → counted answer first xs ≡ counted answer first ys ++ zs
      go Passed xs ys zs e = ap (λ (l : List (List ℕ)). first ∷ l) e
      go (Refused number place) xs ys zs e = e

module _ (n : Netlist) (m : Netlist) (r : ℕ) (rows area outs : List ℕ) (run : IsRun n m r rows area outs) where
  rows_spent : (k : ℕ) → r ≤ k → row_at (inputs n) rows k ≡ []
  rows_spent k h =
      ap (take (inputs n))
      (drop_of_length-le rows {i = k * inputs n} (omega (arith, run.long, mul-le-mul_right (inputs n) h)))
      ∙ take-nil (inputs n)

  -- the row of a step stands for what the run takes
  row_same : (k i : ℕ) → on (row_of_step (inputs n) rows r k) i ≡ on (row_at (inputs n) rows k) i
  row_same k i =
      elim (dec_lt k r) [
        | yes l ↦ rw (lt-ltb k r l)
        | no l ↦
            let spent : r ≤ k = omega arith in rw (le-ltb k r spent, get_or_replicated (inputs n) i 0, rows_spent k spent)
      ]

  -- and is a row
  row_is : (k : ℕ) → IsRow n (row_of_step (inputs n) rows r k)
  row_is k = go (ltb k r) refl
    where
      fits : k < r → k * inputs n + inputs n ≤ length rows
      fits l = rw (run.long, ← suc-mul k (inputs n)) (mul-le-mul_right (inputs n) l)

      go : (b : Bool) → ltb k r ≡ b → IsRow n (cond b (row_at (inputs n) rows k) (replicate (inputs n) 0))
      go true e =
          let l : k < r = ltb-true k r e in
          let long : length (row_at (inputs n) rows k) ≡ inputs n = length-take-le (inputs n) (drop (k * inputs n) rows) (simp length-drop (omega (arith, fits l))) in
          record {
            long = long;
            bits = λ i u.
                rw (get_or-take (inputs n) (drop (k * inputs n) rows) i 0 (omega arith), get_or-drop (k * inputs n) rows i 0)
                (run.bits (k * inputs n + i) (omega (arith, fits l)));
          }
      go false e =
          record {
            long = length-replicate (inputs n) 0;
            bits = λ i u. rw (get_or-replicate {A = ℕ} (inputs n) i 0 0 (simp length-replicate at u)) (omega arith);
          }

module _ (source : List ℕ) (caps : Capacities) (mapped : List ℕ) (r : ℕ) (rows area outs : List ℕ)
    (accepted : run_answer source caps mapped r rows area outs ≡ Passed) where
  -- the rows of the run's first k steps
  abbrev rows_of : ℕ → List (List ℕ)
  rows_of k = tabulate (row_of_step (inputs (netlist source)) rows r) k

  run : IsRun (netlist source) (netlist mapped) r rows area outs
  run = ((run_passed source caps mapped r rows area outs).0 accepted).1

  accepts : (k : ℕ) →
      step_answer source caps mapped (row_of_step (inputs (netlist source)) rows r k) (after (netlist mapped) (inputs (netlist source)) rows k) ≡ Passed
  accepts k =
      (step_passed source caps mapped _ _).1 (
        ((run_passed source caps mapped r rows area outs).0 accepted).0,
        row_is (netlist source) (netlist mapped) r rows area outs run k,
        length_after (netlist mapped) (inputs (netlist source)) rows k,
      )

  one_step : (k : ℕ) →
      step_area source caps mapped (row_of_step (inputs (netlist source)) rows r k) (after (netlist mapped) (inputs (netlist source)) rows k)
      ≡ after (netlist mapped) (inputs (netlist source)) rows (suc k)
  unfolding step_area after
  one_step k =
      rw (accepts k)
      (stepped_row (netlist mapped) _ _ _ (row_same (netlist source) (netlist mapped) r rows area outs run k))

  -- k such calls from zeros leave what k steps leave
  pub calls_leave : (k : ℕ) →
      leaves source caps mapped (zeros (netlist mapped)) (rows_of k) ≡ after (netlist mapped) (inputs (netlist source)) rows k
  unfolding leaves after
  calls_leave zero = refl
  calls_leave (suc k) =
      leaves_snoc source caps mapped (zeros (netlist mapped)) (rows_of k) _
      ∙ ap (step_area source caps mapped (row_of_step (inputs (netlist source)) rows r k)) (calls_leave k)
      ∙ one_step k

  -- none of them is refused
  pub calls_taken : (k : ℕ) → taken source caps mapped (zeros (netlist mapped)) (rows_of k) ≡ rows_of k
  unfolding taken
  calls_taken zero = refl
  calls_taken (suc k) =
      taken_snoc source caps mapped (zeros (netlist mapped)) (rows_of k) _
      ∙ ap₂ ◌++◌ (calls_taken k)
      (ap (λ (a : Checked). counted a (row_of_step (inputs (netlist source)) rows r k) [])
      (ap (step_answer source caps mapped (row_of_step (inputs (netlist source)) rows r k)) (calls_leave k) ∙ accepts k))

  pub run_leaves : 0 < r →
      run_area source caps mapped r rows area outs ≡ leaves source caps mapped (zeros (netlist mapped)) (rows_of (r + depth (netlist source)))
  unfolding run_area
  run_leaves h =
      rw (accepted, ne_eqb r 0 (λ e. omega arith)) (sym (calls_leave (r + depth (netlist source))))

  pub run_reads : (t : ℕ) → t < r →
      row_at (outputs (netlist source)) (run_outputs source caps mapped r rows area outs) t
      ≡ output_row (netlist source) (leaves source caps mapped (zeros (netlist mapped)) (rows_of (suc (t + depth (netlist source)))))
  run_reads t l =
      ap (λ (out : List ℕ). row_at (outputs (netlist source)) out t) (outputs_written source caps mapped r rows area outs accepted)
      ∙ output_rows_at (netlist source) (netlist mapped) rows r t l
      ∙ ap (output_row (netlist source)) (sym (calls_leave (suc (t + depth (netlist source)))))
