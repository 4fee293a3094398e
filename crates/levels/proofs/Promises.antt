-- The promises of the least levels.
use Prim.Native.Nat.{ℕ, ◌≤◌, ◌<◌}
use native.Mathlib.Omega.{arith}
use mathlib.Core.Path.{◌≡◌, refl, ap}
use mathlib.Core.Logic.{◌↔◌, ◌≢◌, inl, ⊎_elim}
use mathlib.Core.Bool.{true}
use mathlib.Core.List.{List}
use lib.ListN.{length}
use lib.Dec.{ltb}
use borrow.Author.Tests.{ltb-true, ltb-false, lt-ltb}
use Rattle.facts.specs.Answers.{Checked, Passed, Refused}
use Rattle.facts.specs.Checks.{◌and_then◌, scan}
use Rattle.facts.specs.Refusals.{Conditions, row_of, Fails, ◌or◌, Each, First, FirstAt}
use Rattle.facts.proofs.Reflect.{unlike, check_passed, then_passed, scan_passed}
use Rattle.facts.proofs.Refusals.{Numbered, row_positive, exact, rows_before, one_row, within_one, scan_rows, first_check, first_then, first_after, first_scan}
use Rattle.netlist.specs.Kinds.{top_level}
use Rattle.netlist.specs.Records.{netlist, record_count}
use Rattle.netlist.specs.Checks.{capacity_check, structure_checks}
use Rattle.netlist.specs.Refusals.{BadCapacity, StructuresFail}
use Rattle.netlist.specs.Source.{Unlevelled}
use Rattle.netlist.proofs.Refusals.{capacity_first, structures_first, structure_rows}
use Rattle.netlist.proofs.Source.{unlevelled_passed}
use Rattle.levels.specs.Levels.{least_level, high_check, length_check, levels_answer, levels_area}
use Rattle.levels.specs.Promises.{TooHigh, HighFails, LevelsFail, LevelsExact, NoneWithin, HighExactly, LevelsKeep, LevelsWritten}
use Rattle.levels.proofs.Lowest.{levels_least}
use Rattle.levels.proofs.Copies.{levelled_copy}

module _ (source : List ℕ) (s : ℕ) (u : Unlevelled source s) where
  abbrev least : ℕ → ℕ
  least = least_level s (netlist source)

  high_is : (k : ℕ) → k < record_count source → (ltb top_level (least k) ≡ true) ↔ TooHigh s (netlist source) k
  high_is k l =
      let all = levels_least source s u in (
        λ e level keeps. omega (arith, ltb-true top_level (least k) e, all.least level keeps k l),
        λ h. lt-ltb top_level (least k) (h least all.keeps),
      )

  high_first : First (Each (record_count source) (HighFails s (netlist source))) (scan (high_check (least_level s (netlist source))) 0 (record_count source))
  high_first =
      first_scan (high_check (least_level s (netlist source))) (HighFails s (netlist source)) (row_of 22) 22 22 (λ k. within_one 22 k _) (record_count source)
      (λ k l. first_check 22 k (high_is k l))

high_row : (source : List ℕ) (s n p : ℕ) → Each (record_count source) (HighFails s (netlist source)) n p → row_of n ≡ row_of 22
high_row source s = scan_rows (HighFails s (netlist source)) (row_of 22) 22 22 (record_count source) (λ k. within_one 22 k _)

-- 1 to 6 stand in the rows up to that of 7, 22 and 23 after it
early_rows : (source : List ℕ) (s n p : ℕ) → (Fails 1 0 (BadCapacity s) or StructuresFail source) n p → (row_of 0 < row_of n) × (row_of n ≤ row_of 7)
early_rows source s n p =
    ⊎_elim (λ f. omega (arith, one_row 1 0 (BadCapacity s) n p f)) (λ f. omega (arith, structure_rows source n p f))

early_first : (source : List ℕ) (s : ℕ) → First (Fails 1 0 (BadCapacity s) or StructuresFail source) (capacity_check s and_then structure_checks source)
early_first source s =
    first_then (rows_before (row_of 1) (λ n p f. omega (arith, one_row 1 0 (BadCapacity s) n p f)) (λ n p f. omega (arith, (structure_rows source n p f).0)))
    (capacity_first s) (structures_first source)

abbrev LateFails : List ℕ → ℕ → List ℕ → Conditions
LateFails source s area = Each (record_count source) (HighFails s (netlist source)) or Fails 23 0 (length area ≢ length source)

late_rows : (source : List ℕ) (s : ℕ) (area : List ℕ) (n p : ℕ) → LateFails source s area n p → row_of 7 < row_of n
late_rows source s area n p = ⊎_elim (λ f. omega (arith, high_row source s n p f)) (λ f. omega (arith, one_row 23 0 _ n p f))

levels_first : (source : List ℕ) (s : ℕ) (area : List ℕ) → First (LevelsFail source s area) (levels_answer source s area)
unfolding levels_answer
levels_first source s area =
    first_after (rows_before (row_of 7) (λ n p f. (early_rows source s n p f).1) (late_rows source s area)) (early_first source s)
    (λ e. first_then
    (rows_before (row_of 22) (λ n p f. omega (arith, high_row source s n p f)) (λ n p f. omega (arith, one_row 23 0 _ n p f)))
    (high_first source s ((unlevelled_passed source s).0 e))
    (first_check 23 0 (unlike (length area) (length source))))

-- no refusal has number 0
pub levels_numbered : (source : List ℕ) (s : ℕ) (area : List ℕ) → Numbered (LevelsFail source s area)
levels_numbered source s area n p =
    ⊎_elim
    (λ f. row_positive n (row_of 0) (early_rows source s n p f).0)
    (λ f. row_positive n (row_of 7) (late_rows source s area n p f))

pub levels_exact : LevelsExact
levels_exact source s area = exact (levels_first source s area)

pub levels_keep_lem : LevelsKeep
unfolding levels_area
levels_keep_lem source s area number place e = rw e

pub levels_written : LevelsWritten
unfolding levels_area levels_answer
levels_written source s area e =
    let least = least_level s (netlist source) in
    let a = (then_passed (capacity_check s and_then structure_checks source) _).0 e in
    let b = (scan_passed (high_check least) (record_count source)).0 ((then_passed _ (length_check source area)).0 a.1).0 in
    rw e (levelled_copy source s ((unlevelled_passed source s).0 a.0) (λ k l. ltb-false top_level (least k) ((check_passed 22 k _).0 (b k l))))

-- where 22 is answered, 1 to 6 pass, and some record is too high wherever the rules are kept
module _ (source : List ℕ) (s : ℕ) (area : List ℕ) (k : ℕ) (e : levels_answer source s area ≡ Refused 22 k) where
  first : FirstAt (LevelsFail source s area) 22 k
  first = ((levels_exact source s area).refused 22 k).0 e

  early : (capacity_check s and_then structure_checks source) ≡ Passed
  early =
      (exact (early_first source s)).passed.1
      (λ n p f. first.1 n p (inl (omega (arith, early_rows source s n p f))) (inl f))

  too_high_lem : (i : ℕ) × (i < record_count source) × TooHigh s (netlist source) i
  too_high_lem =
      ⊎_elim
      (λ f. absurd (omega (arith, early_rows source s 22 k f)))
      (⊎_elim (λ f. (f.0, f.1, f.2.2)) (λ f. absurd (omega (arith, f.0))))
      first.0

-- where no levels up to 4,095 keep the rules, 22 is answered
module _ (source : List ℕ) (s : ℕ) (area : List ℕ) (u : Unlevelled source s) (none : NoneWithin s (netlist source)) where
  answered : (a : Checked) → scan (high_check (least_level s (netlist source))) 0 (record_count source) ≡ a →
      (k : ℕ) × ((a and_then length_check source area) ≡ Refused 22 k)
  answered Passed e =
      absurd (none (least_level s (netlist source)) (levels_least source s u).keeps
      (λ k l. ltb-false top_level (least_level s (netlist source) k) ((check_passed 22 k _).0 ((scan_passed (high_check (least_level s (netlist source))) (record_count source)).0 e k l))))
  answered (Refused number place) e =
      (place, ap (λ (n : ℕ). Refused n place) ((high_first source s u).fails number place e).0.2.0)

  answers : (k : ℕ) × (levels_answer source s area ≡ Refused 22 k)
  unfolding levels_answer
  answers =
      let found = answered _ refl in
      (found.0, rw ((unlevelled_passed source s).1 u) found.1)

pub high_exactly : HighExactly
high_exactly source s area = (
  λ x.
      let high = too_high_lem source s area x.0 x.1 in (
        (unlevelled_passed source s).0 (early source s area x.0 x.1),
        λ level keeps within. omega (arith, high.2 level keeps, within high.0 high.1),
      ),
  λ x. answers source s area x.0 x.1,
)
