-- What the library's methods give of a list or a range, in the words of our specifications, which search and sum by index.
use Prim.Native.Nat.{ℕ, zero, suc, max, ◌+◌, ◌≤◌}
use native.Mathlib.Nat.{add-zero, zero-add, add-suc, suc-add}
use native.Mathlib.Numerals.{add-one}
use native.Mathlib.Decide.{dec_lt}
use native.Mathlib.Omega.{arith}
use mathlib.Core.Path.{◌≡◌, refl, sym, ap, ◌∙◌}
use mathlib.Core.Bool.{Bool, true, false, cond, ◌||◌, not}
use mathlib.Core.List.{List, [], ◌∷◌}
use lib.ListN.{length, get_or, take}
use Rattle.std.specs.Int.{from_bool}
use Rattle.std.specs.List.{fold, reduce, position, position_or_len, list_any, range_with_len}
use Rattle.std.specs.Option.{unwrap_or}
use Rattle.std.proofs.Common.{Option, Some, None, ltb, lt-ltb, le-ltb}
use Rattle.facts.specs.Answers.{Passed, Refused}
use Rattle.facts.specs.Checks.{check, ◌and_then◌, scan}
use Rattle.std.proofs.lemmas.List.Sums.{fold_more, position_or_len_is, prefix_len-le-length}
use Rattle.facts.specs.Sums.{any, bit, largest, seek}
use Rattle.facts.proofs.Loops.{seek_within, seek_before, seek_true}

-- a bool as a number
pub one_bit : (b : Bool) → from_bool b ≡ bit b
one_bit true = refl
one_bit false = refl

or_assoc : (a b c : Bool) → ((a || b) || c) ≡ (a || (b || c))
or_assoc true b c = refl
or_assoc false b c = refl

or_false : (a : Bool) → a ≡ (a || false)
or_false true = refl
or_false false = refl

-- `any` over a range: one that has p stands below k, or among the n from k on
any_split : (p : ℕ → Bool) (k n : ℕ) → any p (k + n) ≡ (any p k || list_any p (range_with_len k n))
unfolding any
any_split p k zero = rw (add-zero k) (or_false (any p k))
any_split p k (suc n) =
    ap (any p) (add-suc k n ∙ sym (suc-add k n))
    ∙ any_split p (suc k) n
    ∙ or_assoc (any p k) (p k) (list_any p (range_with_len (suc k) n))
    ∙ ap (λ (i : ℕ). any p k || (p k || list_any p (range_with_len i n))) (sym (add-one k))

pub any_ranged : (p : ℕ → Bool) (n : ℕ) → list_any p (range_with_len 0 n) ≡ any p n
unfolding any
any_ranged p n = sym (ap (any p) (sym (zero-add n)) ∙ any_split p 0 n)

-- `position` finds the first index whose entry has p, and the length stands for none
module _ (p : ℕ → Bool) (xs : List ℕ) where
  abbrev at : ℕ → Bool
  at k = p (get_or xs k 0)

  position_or_len_seek : position_or_len p xs ≡ seek at 0 (length xs)
  position_or_len_seek =
      position_or_len_is p xs (seek at 0 (length xs)) 0 (omega (arith, seek_within at 0 (length xs)))
      (λ k l. seek_before at 0 (length xs) k (omega arith) l)
      (λ l. seek_true at 0 (length xs) (omega arith))

  or_length : unwrap_or (position p xs) (length xs) ≡ position_or_len p xs
  or_length =
      elim (dec_lt (position_or_len p xs) (length xs)) [
        | yes l ↦ rw (lt-ltb (position_or_len p xs) (length xs) l) refl
        | no g ↦ rw (le-ltb (position_or_len p xs) (length xs) (omega arith)) (omega (arith, prefix_len-le-length (λ x. not (p x)) xs))
      ]

  pub position_seek : (n x : ℕ) (r : Option ℕ) → length xs ≡ n → r ≡ position p xs → x ≡ unwrap_or r n → x ≡ seek at 0 n
  position_seek n x r e f g = g ∙ rw (f, ← e) (or_length ∙ position_or_len_seek)

  -- one check of each entry: where `position` finds one that fails, its place is the answer's, and where it finds none, all pass
  module _ (number : ℕ) where
    checked : (i n : ℕ) → scan (λ k. check number k (at k)) i n ≡ check number (seek at i n) (ltb (seek at i n) (i + n))
    unfolding scan seek
    checked i zero = rw (le-ltb i (i + 0) (omega arith)) refl
    checked i (suc n) = go (at i) refl (checked (suc i) n)
      where
        go : (b : Bool) → at i ≡ b →
            scan (λ k. check number k (at k)) (suc i) n ≡ check number (seek at (suc i) n) (ltb (seek at (suc i) n) (suc i + n)) →
            (check number i (at i) and_then scan (λ k. check number k (at k)) (suc i) n)
            ≡ check number (cond (at i) i (seek at (suc i) n)) (ltb (cond (at i) i (seek at (suc i) n)) (i + suc n))
        go true e rest = rw (e, lt-ltb i (i + suc n) (omega arith)) refl
        go false e rest =
            let l : suc i + n ≡ i + suc n = omega arith in
            rw e (rest ∙ ap (λ (m : ℕ). check number (seek at (suc i) n) (ltb (seek at (suc i) n) m)) l)

    answer : scan (λ k. check number k (at k)) 0 (length xs) ≡ check number (position_or_len p xs) (ltb (position_or_len p xs) (length xs))
    answer =
        checked 0 (length xs)
        ∙ ap (λ (m : ℕ). check number (seek at 0 (length xs)) (ltb (seek at 0 (length xs)) m)) (zero-add (length xs))
        ∙ ap (λ (k : ℕ). check number k (ltb k (length xs))) (sym position_or_len_seek)

    pub position_refused : (k : ℕ) → position p xs ≡ Some k → Refused number k ≡ scan (λ i. check number i (at i)) 0 (length xs)
    position_refused k e = sym (answer ∙ go (ltb (position_or_len p xs) (length xs)) e)
      where
        go : (b : Bool) → cond b (Some (position_or_len p xs)) None ≡ Some k → check number (position_or_len p xs) b ≡ Refused number k
        go true f = cc
        go false f = let z : ◌≡◌ {A = ℕ} 0 1 = cc in absurd (omega arith)

    pub position_passed : position p xs ≡ None → Passed ≡ scan (λ i. check number i (at i)) 0 (length xs)
    position_passed e = sym (answer ∙ go (ltb (position_or_len p xs) (length xs)) e)
      where
        go : (b : Bool) → cond b (Some (position_or_len p xs)) None ≡ None → check number (position_or_len p xs) b ≡ Passed
        go true f = let z : ◌≡◌ {A = ℕ} 0 1 = cc in absurd (omega arith)
        go false f = refl

-- `max` gives the largest of the first n, and 0 stands for none
or_zero : (xs : List ℕ) → unwrap_or (reduce max xs) 0 ≡ fold max 0 xs
or_zero [] = refl
or_zero (x ∷ xs) = ap (λ (v : ℕ). fold max v xs) (omega arith)

fold_largest : (xs : List ℕ) (n : ℕ) → n ≤ length xs → fold max 0 (take n xs) ≡ largest (λ k. get_or xs k 0) n
unfolding largest
fold_largest xs zero h = refl
fold_largest xs (suc n) h =
    ap (λ (i : ℕ). fold max 0 (take i xs)) (sym (add-one n))
    ∙ fold_more max 0 xs n 0 (omega arith)
    ∙ ap (λ (v : ℕ). max v (get_or xs n 0)) (fold_largest xs n (omega arith))

pub max_largest : (xs : List ℕ) (n x : ℕ) (r : Option ℕ) → n ≤ length xs → r ≡ reduce max (take n xs) → x ≡ unwrap_or r 0 →
    x ≡ largest (λ k. get_or xs k 0) n
max_largest xs n x r h f g = g ∙ rw f (or_zero (take n xs) ∙ fold_largest xs n h)
