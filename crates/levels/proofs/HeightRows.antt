-- Laws of the table of heights: one test of the whole table gives each row, and what is looked up in a row of the table is the height. Those at the end have premises as the code has them.
use Prim.Native.Nat.{ℕ, suc, ◌+◌, ◌-◌, ◌≤◌, ◌<◌}
use native.Mathlib.Decide.{dec_lt}
use native.Mathlib.Nat.{pow-le-pow_left, pow-le-pow_right}
use native.Mathlib.Omega.{arith}
use mathlib.Core.Path.{◌≡◌, sym, ap, subst, ◌∙◌}
use mathlib.Core.Bool.{Bool, false, cond, not, ◌||◌}
use mathlib.Core.List.{List, []}
use lib.Dec.{leb, ltb, eqb}
use lib.ListN.{length, get_or}
use lib.Seq.{ext_get_or}
use borrow.Author.Tests.{leb-true, le-leb, lt-ltb, le-ltb}
use Rattle.facts.specs.Sums.{any}
use Rattle.facts.proofs.Sums.{any_none}
use Rattle.facts.proofs.Lists.{length_tabulate, get_d_tabulate}
use Rattle.facts.proofs.Loops.{seek_within, seek_true, seek_least}
use Rattle.facts.proofs.Reflect.{or_none, unlike_none}
use Rattle.fanout.specs.Nets.{sink_limit}
use Rattle.levels.specs.Levels.{height}
use Rattle.levels.specs.HeightTable.{heights, most_sinks, height_row, height_in, MostExact, LookedUp}
use Rattle.levels.proofs.Heights.{height_exact}

-- entry h of row r is not the largest number of sinks of height at most h; row 0 is that of capacity 2
abbrev wrong_entry : List (List ℕ) → ℕ → ℕ → Bool
wrong_entry table r h = not (eqb (get_or (get_or table r []) h 0) (most_sinks (2 + r) h))

-- row r has another length, or a wrong entry
abbrev wrong_row : List (List ℕ) → ℕ → Bool
wrong_row table r = not (eqb (length (get_or table r [])) heights) || any (wrong_entry table r) heights

row_right : (table : List (List ℕ)) (r : ℕ) → wrong_row table r ≡ false → get_or table r [] ≡ height_row (2 + r)
row_right table r e =
    let tested = (or_none _ _).0 e in
    let long : length (get_or table r []) ≡ heights = (unlike_none _ _).0 tested.0 in
    ext_get_or 0 (get_or table r []) (height_row (2 + r)) (long ∙ sym (length_tabulate (most_sinks (2 + r)) heights))
    (λ h l.
    (unlike_none _ _).0 ((any_none (wrong_entry table r) heights).0 tested.1 h (omega (arith, long)))
    ∙ sym (get_d_tabulate (most_sinks (2 + r)) heights h 0 (omega (arith, long))))

-- where the test finds no wrong row in the whole table, each is the row of its capacity
pub row_is : (table : List (List ℕ)) (s : ℕ) → (2 ≤ s) × (s ≤ 4) → length table ≡ 3 → any (wrong_row table) (length table) ≡ false →
    get_or table (s - 2) [] ≡ height_row s
row_is table s cap three e =
    subst (λ (x : ℕ). get_or table (s - 2) [] ≡ height_row x) (omega (arith, cap.0))
    (row_right table (s - 2) ((any_none (wrong_row table) (length table)).0 e (s - 2) (omega (arith, cap.1))))

pub most_exact : MostExact
most_exact s n h two few =
    let is = height_exact.computed s n two in (
      λ l. is.least h (omega arith),
      λ l. omega (arith, is.enough, pow-le-pow_right {n = s} (omega arith) {i = height s n} {j = h} l),
    )

-- what is looked up in a row has an entry of at least n, and is the first
looked_up_enough : (row : List ℕ) (n : ℕ) → height_in row n < heights → n ≤ get_or row (height_in row n) 0
unfolding height_in
looked_up_enough row n l = leb-true n _ (seek_true _ 0 heights l)

looked_up_least : (row : List ℕ) (n h : ℕ) → n ≤ get_or row h 0 → height_in row n ≤ h
unfolding height_in
looked_up_least row n h l = seek_least _ 0 heights h (omega arith) (le-leb n (get_or row h 0) l)

-- and is 15 at the most
pub height_few : (row : List ℕ) (n h : ℕ) → h ≡ height_in row n → h ≤ heights
unfolding height_in
height_few row n h e = omega (arith, e, seek_within (λ i. leb n (get_or row i 0)) 0 heights)

module _ (s n : ℕ) (two : 2 ≤ s) (few : n ≤ sink_limit) where
  entry : (h : ℕ) → h < heights → get_or (height_row s) h 0 ≡ most_sinks s h
  entry h l = get_d_tabulate (most_sinks s) heights h 0 l

  -- the last entry is the cap
  in_row : height_in (height_row s) n < heights
  in_row =
      let last : n ≤ get_or (height_row s) (heights - 1) 0 = omega (arith, entry (heights - 1) (omega arith), pow-le-pow_left {n = 2} {m = s} two (heights - 1)) in
      omega (arith, looked_up_least (height_row s) n (heights - 1) last)

  not_lower : height s n ≤ height_in (height_row s) n
  not_lower =
      (most_exact s n (height_in (height_row s) n) two few).0
      (omega (arith, looked_up_enough (height_row s) n in_row, entry (height_in (height_row s) n) in_row))

  not_higher : height_in (height_row s) n ≤ height s n
  not_higher =
      elim (dec_lt (height s n) heights) [
        | yes b ↦
            looked_up_least (height_row s) n (height s n)
            (omega (arith, entry (height s n) b, (most_exact s n (height s n) two few).1 (omega arith)))
        | no g ↦ omega (arith, in_row)
      ]

pub looked_up : LookedUp
looked_up s n two few = omega (arith, not_lower s n two few, not_higher s n two few)

-- a row in which some entry is at least n, and no height below h is the one
module _ (row : List ℕ) (n : ℕ) (has : height_in row n < heights) (h : ℕ) (low : h ≤ height_in row n) where
  above : get_or row h 0 < n → h < height_in row n
  above l =
      elim (dec_lt h (height_in row n)) [
        | yes b ↦ b
        | no g ↦
            let e : height_in row n ≡ h = omega arith in
            absurd (omega (arith, subst (λ (i : ℕ). n ≤ get_or row i 0) e (looked_up_enough row n has)))
      ]

  -- what is picked at h, of which y need be right only if the height is above h
  picked : (y : ℕ) → (h < height_in row n → y ≡ suc (height_in row n)) → cond (ltb (get_or row h 0) n) y (suc h) ≡ suc (height_in row n)
  picked y rest =
      elim (dec_lt (get_or row h 0) n) [
        | yes b ↦ rw (lt-ltb (get_or row h 0) n b) (rest (above b))
        | no g ↦
            let e : h ≡ height_in row n = omega (arith, low, looked_up_least row n h (omega arith)) in
            rw (le-ltb (get_or row h 0) n (omega arith)) (ap suc e)
      ]

-- few sinks are compared with the first entries
pub rise_of_few : (row : List ℕ) (n x y z : ℕ) → n ≤ get_or row 3 0 → z ≡ cond (ltb (get_or row 2 0) n) 4 3 → y ≡ cond (ltb (get_or row 1 0) n) z 2 →
    x ≡ cond (ltb (get_or row 0 0) n) y 1 → x ≡ suc (height_in row n)
rise_of_few row n x y z l p q r =
    let three : height_in row n ≤ 3 = looked_up_least row n 3 l in
    let has : height_in row n < heights = omega (arith, three) in
    r ∙ rw (q, p) (picked row n has 0 (omega arith) _ (λ a. picked row n has 1 a _ (λ b. picked row n has 2 b _ (λ c. omega (arith, three)))))
