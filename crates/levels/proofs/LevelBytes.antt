-- Laws of checks 22 and 23 and of the copy, by levels in an array.
use Prim.Native.Nat.{ℕ, ◌+◌, ◌≤◌, ◌<◌}
use native.Mathlib.Numerals.{add-one}
use native.Mathlib.Omega.{arith}
use mathlib.Core.Path.{◌≡◌, refl, sym, ap, ◌∙◌}
use mathlib.Core.List.{List}
use lib.ListN.{length, get_or, take}
use Rattle.std.proofs.lemmas.List.{get_or-take, length-take}
use lib.Dec.{ltb}
use borrow.Author.Tests.{lt-ltb, le-ltb, eq-eqb, ne_eqb}
use Rattle.facts.specs.Answers.{Checked, Passed, Refused}
use Rattle.facts.specs.Checks.{check, ◌and_then◌, unless_refused, scan}
use Rattle.facts.specs.Sums.{largest}
use Rattle.facts.proofs.Loops.{Scanning, scan_more, scan_stop, scan_cong}
use Rattle.facts.proofs.Reflect.{check_passed, scan_passed}
use Rattle.facts.proofs.Sums.{le_largest}
use Rattle.netlist.specs.Kinds.{top_level}
use Rattle.netlist.specs.Records.{record_count}
use Rattle.netlist.specs.Bytes.{with_level, with_levels}
use Rattle.netlist.proofs.Levels.{levels_cong}
use Rattle.levels.specs.Levels.{high_check, length_check, copy_checks, levelled}
use Rattle.levels.specs.PrivateLevels.{entries}

-- 22, record by record
module _ (levels : List ℕ) (n k : ℕ) (c : Scanning (high_check (entries levels)) n k) (h : k < n) where
  pub high_here : top_level < get_or levels k 0 → Refused 22 k ≡ scan (high_check (entries levels)) 0 n
  high_here g = scan_stop (high_check (entries levels)) n k 22 k c h (rw (lt-ltb top_level (get_or levels k 0) g))

  pub low_here : get_or levels k 0 ≤ top_level → Scanning (high_check (entries levels)) n (k + 1)
  low_here g = scan_more (high_check (entries levels)) n k c h (rw (le-ltb top_level (get_or levels k 0) g))

-- where the largest level is not too high, none is
pub all_low : (levels : List ℕ) (n high : ℕ) → high ≡ largest (entries levels) n → high ≤ top_level → Passed ≡ scan (high_check (entries levels)) 0 n
all_low levels n high e h =
    sym ((scan_passed (high_check (entries levels)) n).1
    (λ k l. (check_passed 22 k _).1 (le-ltb top_level (get_or levels k 0) (omega (arith, le_largest (entries levels) k n l)))))

-- the levels of the records below k are written, k the next of the first n levels
module _ (levels source : List ℕ) where
  pub written_start : (area : List ℕ) → area ≡ source → area ≡ with_levels (entries levels) source 0
  unfolding with_levels
  written_start area e = e

  pub written_more : (n k : ℕ) (area after : List ℕ) → area ≡ with_levels (entries levels) source k → k < length (take n levels) →
      after ≡ with_level area k (get_or (take n levels) k 0) → after ≡ with_levels (entries levels) source (k + 1)
  unfolding with_levels
  written_more n k area after c h p =
      let level : get_or (take n levels) k 0 ≡ entries levels k = get_or-take n levels k 0 (omega (arith, length-take n levels)) in
      p ∙ rw (add-one k, level, c) refl

-- 23, then the copy
module _ (source area : List ℕ) where
  pub length_other : (length area ≡ length source → ⊥) → Refused 23 0 ≡ length_check source area
  length_other h = rw (ne_eqb (length area) (length source) h)

  pub length_kept : (new : List ℕ) → (length area ≡ length source → ⊥) → area ≡ unless_refused (length_check source area) new area
  length_kept new h = rw (← length_other h)

  module _ (h : length area ≡ length source) where
    pub length_same : Passed ≡ length_check source area
    length_same = rw (eq-eqb (length area) (length source) h)

    pub length_written : (new after : List ℕ) → after ≡ new → after ≡ unless_refused (length_check source area) new area
    length_written new after e = e ∙ rw (← length_same)

-- 22 of all records
pub all_checked : (level : ℕ → ℕ) (source : List ℕ) (n : ℕ) (a : Checked) → n ≡ record_count source → a ≡ scan (high_check level) 0 n →
    a ≡ scan (high_check level) 0 (record_count source)
all_checked level source n a f e = e ∙ ap (scan (high_check level) 0) f

-- levels that agree on every record
module _ (f g : ℕ → ℕ) (source area : List ℕ) (same : (k : ℕ) → k < record_count source → f k ≡ g k) where
  checks_same : copy_checks f source area ≡ copy_checks g source area
  checks_same =
      ap (λ (a : Checked). a and_then length_check source area)
      (scan_cong (high_check f) (high_check g) (record_count source) (λ k l. ap (λ (v : ℕ). check 22 k (ltb top_level v)) (same k l)))

  bytes_same : levelled f source ≡ levelled g source
  bytes_same = levels_cong f g source (record_count source) same

  pub copy_answered : (a : Checked) → a ≡ copy_checks f source area → a ≡ copy_checks g source area
  copy_answered a e = e ∙ checks_same

  pub copy_written : (after : List ℕ) → after ≡ unless_refused (copy_checks f source area) (levelled f source) area →
      after ≡ unless_refused (copy_checks g source area) (levelled g source) area
  copy_written after e = e ∙ rw (checks_same, bytes_same)
