-- Laws for loops over a range: the answer from here on is the answer (`seek`, `scan`), nothing was found so far (`any`), or the largest so far (`largest`).
use Prim.Native.Nat.{ℕ, zero, suc, ◌+◌, ◌-◌, max, ◌<◌, ◌≤◌}
use native.Mathlib.Numerals.{add-one}
use native.Mathlib.Nat.{add-sub_of_le, add-zero, zero-add, suc-add, add-suc}
use native.Mathlib.Decide.{dec_lt, ℕ_discrete}
use native.Mathlib.Omega.{arith}
use mathlib.Core.Path.{◌≡◌, refl, sym, ap, ap₂, subst, ◌∙◌}
use mathlib.Core.Bool.{Bool, true, false, cond}
use Rattle.facts.specs.Answers.{Checked, Passed, Refused}
use Rattle.facts.specs.Checks.{check, ◌and_then◌, scan}
use Rattle.facts.specs.Sums.{any, seek, largest}
use Rattle.facts.proofs.Bools.{true_false}
use Rattle.facts.proofs.Sums.{any_some}
use Rattle.facts.proofs.Reflect.{then_assoc, then_none}

-- a turn of a loop from k to n takes one number off the front of what is left
turn : (n k : ℕ) → k < n → n - k ≡ suc (n - (k + 1))
turn n k h = omega arith

-- nothing was found below j, of n
pub record NoneYet (p : ℕ → Bool) (n j : ℕ) : Type 0 where
  pub within : j ≤ n
  pub none : any p j ≡ false

module _ (p : ℕ → Bool) (n : ℕ) where
  pub any_start : NoneYet p n 0
  unfolding any
  any_start = record { within = omega arith; none = refl }

  pub any_more : (j : ℕ) (b : Bool) → NoneYet p n j → j < n → b ≡ p j → b ≡ false → NoneYet p n (j + 1)
  unfolding any
  any_more j b i h e f = record { within = omega arith; none = rw (add-one j, i.none, ← e, f) }

  pub any_end : (j : ℕ) → NoneYet p n j → n ≤ j → false ≡ any p n
  any_end j i h = let e : j ≡ n = omega (arith, i.within) in sym (ap (any p) (sym e) ∙ i.none)

pub any_found : (p : ℕ → Bool) (n j : ℕ) (b : Bool) → j < n → b ≡ p j → b ≡ true → true ≡ any p n
any_found p n j b h e t = sym ((any_some p n).1 (j, h, sym e ∙ t))

-- the search from k on gives what the search from 0 gives
pub record Seeking (p : ℕ → Bool) (n k : ℕ) : Type 0 where
  pub within : k ≤ n
  pub rest : seek p k (n - k) ≡ seek p 0 n

module _ (p : ℕ → Bool) (n : ℕ) where
  pub seek_start : Seeking p n 0
  seek_start = record { within = omega arith; rest = ap (seek p 0) (omega arith) }

  seek_turn : (k : ℕ) → k < n → seek p k (n - k) ≡ cond (p k) k (seek p (suc k) (n - (k + 1)))
  unfolding seek
  seek_turn k h = rw (turn n k h)

  pub seek_more : (k : ℕ) → Seeking p n k → k < n → p k ≡ false → Seeking p n (k + 1)
  seek_more k i h e =
      let t : seek p (k + 1) (n - (k + 1)) ≡ seek p k (n - k) = sym (seek_turn k h ∙ rw (e, add-one k)) in
      record { within = omega arith; rest = t ∙ i.rest }

  pub seek_here : (k : ℕ) → Seeking p n k → k < n → p k ≡ true → seek p 0 n ≡ k
  seek_here k i h e = sym i.rest ∙ seek_turn k h ∙ rw e

  pub seek_end : (k : ℕ) → Seeking p n k → n ≤ k → seek p 0 n ≡ n
  unfolding seek
  seek_end k i h =
      let e : n - k ≡ 0 = omega arith in
      let w : k ≡ n = omega (arith, i.within) in
      sym i.rest ∙ ap (seek p k) e ∙ w

-- where none of n numbers from i on has p, a search ends behind them
pub seek_none : (p : ℕ → Bool) (i n : ℕ) → ((k : ℕ) → i ≤ k → k < i + n → p k ≡ false) → seek p i n ≡ i + n
unfolding seek
seek_none p i zero h = omega arith
seek_none p i (suc n) h =
    rw (h i (omega arith) (omega arith)) (seek_none p (suc i) n (λ k l u. h k (omega arith) (omega arith)) ∙ omega arith)

-- the first p stands within the range, and p holds there
pub seek_within : (p : ℕ → Bool) (y m : ℕ) → (y ≤ seek p y m) × (seek p y m ≤ y + m)
unfolding seek
seek_within p y zero = omega arith
seek_within p y (suc m) = go (p y) (seek_within p (suc y) m)
  where
    go : (b : Bool) → (suc y ≤ seek p (suc y) m) × (seek p (suc y) m ≤ suc y + m) →
        (y ≤ cond b y (seek p (suc y) m)) × (cond b y (seek p (suc y) m) ≤ y + suc m)
    go true h = omega arith
    go false h = omega arith

pub seek_true : (p : ℕ → Bool) (y m : ℕ) → seek p y m < y + m → p (seek p y m) ≡ true
unfolding seek
seek_true p y zero l = absurd (omega arith)
seek_true p y (suc m) l = go (p y) refl l (seek_true p (suc y) m)
  where
    go : (b : Bool) → p y ≡ b → cond b y (seek p (suc y) m) < y + suc m →
        (seek p (suc y) m < suc y + m → p (seek p (suc y) m) ≡ true) → p (cond b y (seek p (suc y) m)) ≡ true
    go true e l r = e
    go false e l r = r (omega arith)

-- and nowhere before it
pub seek_before : (p : ℕ → Bool) (y m k : ℕ) → y ≤ k → k < seek p y m → p k ≡ false
unfolding seek
seek_before p y zero k a b = absurd (omega arith)
seek_before p y (suc m) k a b = go (p y) refl b (seek_before p (suc y) m k)
  where
    go : (x : Bool) → p y ≡ x → k < cond x y (seek p (suc y) m) →
        (suc y ≤ k → k < seek p (suc y) m → p k ≡ false) → p k ≡ false
    go true e l r = absurd (omega arith)
    go false e l r =
        elim (ℕ_discrete y k) [
          | yes s ↦ subst (λ (i : ℕ). p i ≡ false) s e
          | no n ↦ r (omega arith) l
        ]

-- so a search has ended where p holds
pub seek_least : (p : ℕ → Bool) (y m k : ℕ) → y ≤ k → p k ≡ true → seek p y m ≤ k
seek_least p y m k a t =
    elim (dec_lt k (seek p y m)) [
      | yes b ↦ absurd (true_false (p k) t (seek_before p y m k a b))
      | no g ↦ omega arith
    ]

-- the largest of the values so far
pub record LargestSoFar (f : ℕ → ℕ) (n v k : ℕ) : Type 0 where
  pub within : k ≤ n
  pub so_far : v ≡ largest f k

module _ (f : ℕ → ℕ) (n : ℕ) where
  pub largest_start : LargestSoFar f n 0 0
  unfolding largest
  largest_start = record { within = omega arith; so_far = refl }

  module _ (v k : ℕ) (c : LargestSoFar f n v k) where
    pub largest_more : (x next : ℕ) → k < n → x ≡ f k → next ≡ max v x → LargestSoFar f n next (k + 1)
    unfolding largest
    largest_more x next h p e = record { within = omega arith; so_far = e ∙ rw (add-one k, p, c.so_far) refl }

    pub largest_end : n ≤ k → v ≡ largest f n
    largest_end h = let e : k ≡ n = omega (arith, c.within) in c.so_far ∙ ap (largest f) e

-- the answer from k on is the answer
pub record Scanning (f : ℕ → Checked) (n k : ℕ) : Type 0 where
  pub within : k ≤ n
  pub rest : scan f k (n - k) ≡ scan f 0 n

module _ (f : ℕ → Checked) (n : ℕ) where
  pub scan_start : Scanning f n 0
  scan_start = record { within = omega arith; rest = ap (scan f 0) (omega arith) }

  scan_turn : (k : ℕ) → k < n → scan f k (n - k) ≡ f k and_then scan f (suc k) (n - (k + 1))
  unfolding scan
  scan_turn k h = rw (turn n k h)

  pub scan_more : (k : ℕ) → Scanning f n k → k < n → Passed ≡ f k → Scanning f n (k + 1)
  scan_more k i h e =
      let t : scan f (k + 1) (n - (k + 1)) ≡ scan f k (n - k) = sym (scan_turn k h ∙ rw (← e, add-one k)) in
      record { within = omega arith; rest = t ∙ i.rest }

  pub scan_stop : (k number place : ℕ) → Scanning f n k → k < n → Refused number place ≡ f k → Refused number place ≡ scan f 0 n
  scan_stop k number place i h e = sym (sym i.rest ∙ scan_turn k h ∙ rw (← e))

  pub scan_end : (k : ℕ) → Scanning f n k → n ≤ k → Passed ≡ scan f 0 n
  unfolding scan
  scan_end k i h =
      let e : n - k ≡ 0 = omega arith in
      sym (sym i.rest ∙ ap (scan f k) e)

-- checks that agree on every place
pub scan_cong : (f g : ℕ → Checked) (n : ℕ) → ((k : ℕ) → k < n → f k ≡ g k) → scan f 0 n ≡ scan g 0 n
unfolding scan
scan_cong f g n h = from 0 n (λ k l. h k (omega arith))
  where
    from : (i a : ℕ) → ((k : ℕ) → k < i + a → f k ≡ g k) → scan f i a ≡ scan g i a
    from i zero e = refl
    from i (suc a) e = ap₂ ◌and_then◌ (e i (omega arith)) (from (suc i) a (λ k l. e k (omega arith)))

-- a scan goes on where its first part passes, and stops where that stops
module _ (f : ℕ → Checked) where
  scan_split : (i a b : ℕ) → scan f i (a + b) ≡ (scan f i a and_then scan f (i + a) b)
  unfolding scan
  scan_split i zero b = rw (add-zero i, zero-add b)
  scan_split i (suc a) b =
      rw (suc-add a b, add-suc i a, ← suc-add i a, scan_split (suc i) a b)
      (sym (then_assoc (f i) (scan f (suc i) a) (scan f (suc i + a) b)))

  -- one place more
  pub scan_last : (k : ℕ) → scan f 0 (k + 1) ≡ (scan f 0 k and_then f k)
  unfolding scan
  scan_last k = rw (zero-add k) at (scan_split 0 k 1) ∙ ap (λ (a : Checked). scan f 0 k and_then a) (then_none (f k))

  module _ (a n : ℕ) (l : a ≤ n) where
    parts : scan f 0 n ≡ (scan f 0 a and_then scan f a (n - a))
    parts =
        subst (λ (k : ℕ). scan f 0 k ≡ (scan f 0 a and_then scan f a (n - a))) (add-sub_of_le l)
        (rw (zero-add a) at (scan_split 0 a (n - a)))

    pub scan_onward : scan f 0 a ≡ Passed → Scanning f n a
    scan_onward h = record { within = l; rest = sym (parts ∙ rw h) }

    pub scan_early : (number place : ℕ) → scan f 0 a ≡ Refused number place → scan f 0 n ≡ Refused number place
    scan_early number place h = parts ∙ rw h

-- one check at each place
module _ (number : ℕ) (bad : ℕ → Bool) (n k : ℕ) (s : Scanning (λ p. check number p (bad p)) n k) where
  pub check_more : k < n → bad k ≡ false → Scanning (λ p. check number p (bad p)) n (k + 1)
  check_more h e = scan_more (λ p. check number p (bad p)) n k s h (rw e)

  pub check_stop : (m : ℕ) → k < n → bad k ≡ true → n ≡ m → Refused number k ≡ scan (λ p. check number p (bad p)) 0 m
  check_stop m h e q =
      scan_stop (λ p. check number p (bad p)) n k number k s h (rw e) ∙ ap (scan (λ p. check number p (bad p)) 0) q

  pub check_end : (m : ℕ) → n ≤ k → n ≡ m → Passed ≡ scan (λ p. check number p (bad p)) 0 m
  check_end m h q = scan_end (λ p. check number p (bad p)) n k s h ∙ ap (scan (λ p. check number p (bad p)) 0) q
