-- The first failing check: any answer that is one is exact, and checks in order and scans are built up from one check.
use Prim.Native.Nat.{ℕ, zero, suc, ◌+◌, ◌<◌, ◌≤◌}
use native.Mathlib.Decide.{dec_lt}
use native.Mathlib.Omega.{arith}
use mathlib.Core.Path.{◌≡◌, refl, sym, ap, subst, ◌∙◌}
use mathlib.Core.Logic.{◌⊎◌, inl, inr, ⊎_elim, ◌↔◌}
use mathlib.Core.Bool.{Bool, true, false}
use Rattle.facts.specs.Answers.{Checked, Passed, Refused}
use Rattle.facts.specs.Checks.{check, ◌and_then◌, scan}
use Rattle.facts.specs.Refusals.{row_of, Earlier, Conditions, Fails, ◌or◌, Each, Clear, FirstAt, First, Exact}
use Rattle.facts.proofs.Bools.{true_false}

-- an answer is not both
pub passed_refused : (n p : ℕ) → Passed ≡ Refused n p → ⊥
passed_refused n p e = let z : ◌≡◌ {A = ℕ} 0 1 = cc in omega arith

abbrev Compared : ℕ → ℕ → Type 0
Compared a b = (a < b) ⊎ ((b < a) ⊎ (a ≡ b))

compare : (a b : ℕ) → Compared a b
compare a b = elim (dec_lt a b) [ yes l ↦ inl l | no l ↦ elim (dec_lt b a) [ yes g ↦ inr (inl g) | no g ↦ inr (inr (omega arith)) ] ]

-- of two checks at two places one is earlier, or they are the same
abbrev Order : ℕ → ℕ → ℕ → ℕ → Type 0
Order m q n p = Earlier m q n p ⊎ (Earlier n p m q ⊎ ((m ≡ n) × (q ≡ p)))

order : (m q n p : ℕ) → Order m q n p
order m q n p = go (compare (row_of m) (row_of n)) (compare q p) (compare m n)
  where
    go : Compared (row_of m) (row_of n) → Compared q p → Compared m n → Order m q n p
    go (inl a) x y = inl (inl a)
    go (inr (inl a)) x y = inr (inl (inl a))
    go (inr (inr e)) (inl l) y = inl (inr (e, inl l))
    go (inr (inr e)) (inr (inl l)) y = inr (inl (inr (sym e, inl l)))
    go (inr (inr e)) (inr (inr s)) (inl l) = inl (inr (e, inr (s, l)))
    go (inr (inr e)) (inr (inr s)) (inr (inl l)) = inr (inl (inr (sym e, inr (sym s, l))))
    go (inr (inr e)) (inr (inr s)) (inr (inr t)) = inr (inr (t, s))

-- an answer that is the first failing check is exact
pub exact : {F : Conditions} {a : Checked} → First F a → Exact F a
exact {F} {a} f = record { refused = λ n p. (f.fails n p, stop a refl n p); passed = (f.clear, go a refl) }
  where
    stop : (b : Checked) → a ≡ b → (n p : ℕ) → FirstAt F n p → a ≡ Refused n p
    stop Passed e n p g = absurd (f.clear e n p g.0)
    stop (Refused m q) e n p g =
        ⊎_elim
        (λ l. absurd (g.1 m q l (f.fails m q e).0))
        (⊎_elim (λ l. absurd ((f.fails m q e).1 n p l g.0)) (λ s. cc (s.0, s.1)))
        (order m q n p)

    go : (b : Checked) → a ≡ b → Clear F → a ≡ Passed
    go Passed e g = e
    go (Refused m q) e g = absurd (g m q (f.fails m q e).0)

-- no condition has number 0
abbrev pub Numbered : Conditions → Type 0
Numbered F = (number place : ℕ) → F number place → 0 < number

-- a number that stands behind some row is not 0
pub row_positive : (number r : ℕ) → r < row_of number → 0 < number
row_positive zero r l = absurd (omega arith)
row_positive (suc k) r l = omega arith

-- an answer whose first number is 0 has passed, if a refusal's first number is its own
pub zero_passed : {F : Conditions} {a : Checked} (first : Checked → ℕ) → Exact F a → Numbered F →
    ((n p : ℕ) → first (Refused n p) ≡ n) → first a ≡ 0 → a ≡ Passed
zero_passed {F} {a} first e numbered own z = go a refl
  where
    go : (b : Checked) → a ≡ b → a ≡ Passed
    go Passed f = f
    go (Refused n p) f = absurd (omega (arith, numbered n p ((e.refused n p).0 f).0, own n p, ap first f))

-- nothing is checked both before and after another
never_both : (m q n p : ℕ) → Earlier m q n p → Earlier n p m q → ⊥
never_both m q n p = go (row_of m) (row_of n)
  where
    go : (a b : ℕ) → (a < b) ⊎ ((a ≡ b) × ((q < p) ⊎ ((q ≡ p) × (m < n)))) → (b < a) ⊎ ((b ≡ a) × ((p < q) ⊎ ((p ≡ q) × (n < m)))) → ⊥
    go a b (inl x) (inl y) = omega arith
    go a b (inl x) (inr y) = omega arith
    go a b (inr x) (inl y) = omega arith
    go a b (inr x) (inr y) =
        ⊎_elim
        (λ u. ⊎_elim (λ v. omega arith) (λ v. omega arith) y.1)
        (λ u. ⊎_elim (λ v. omega arith) (λ v. omega arith) y.1)
        x.1

-- all of F's checks come before all of G's
abbrev pub Before : Conditions → Conditions → Type 0
Before F G = (m q n p : ℕ) → F m q → G n p → Earlier m q n p

-- all of F's checks stand in one row of the table
abbrev pub InRow : ℕ → Conditions → Type 0
InRow r F = (n p : ℕ) → F n p → row_of n ≡ r

-- all of F's checks stand in the table's rows up to r
abbrev pub UpTo : ℕ → Conditions → Type 0
UpTo r F = (n p : ℕ) → F n p → row_of n ≤ r

-- all of G's checks stand in rows after r
abbrev pub After : ℕ → Conditions → Type 0
After r G = (n p : ℕ) → G n p → r < row_of n

pub rows_before : (r : ℕ) {F G : Conditions} → UpTo r F → After r G → Before F G
rows_before r f g m q n p x y = inl (omega (arith, f m q x, g n p y))

-- one number's row
pub one_row : (n k : ℕ) (C : Type 0) → InRow (row_of n) (Fails n k C)
one_row n k C m p f = ap row_of f.0

-- all of F's checks stand at place k of row r, with numbers from a to b
abbrev pub Within : ℕ → ℕ → ℕ → ℕ → Conditions → Type 0
Within r k a b F = (n p : ℕ) → F n p → (row_of n ≡ r) × (p ≡ k) × (a ≤ n) × (n ≤ b)

pub within_one : (n k : ℕ) (C : Type 0) → Within (row_of n) k n n (Fails n k C)
within_one n k C m p f = (ap row_of f.0, f.1, omega (arith, f.0), omega (arith, f.0))

pub within_or :
    (r k a b c d : ℕ) {F G : Conditions} → Within r k a b F → Within r k c d G → b < c → a ≤ b → c ≤ d → Within r k a d (F or G)
within_or r k a b c d f g l x y n p =
    ⊎_elim
    (λ e. let w = f n p e in (w.0, w.1, w.2, omega (arith, w.3)))
    (λ e. let w = g n p e in (w.0, w.1, omega (arith, w.2), w.3))

pub within_before :
    (r k a b c d : ℕ) {F G : Conditions} → Within r k a b F → Within r k c d G → b < c → Before F G
within_before r k a b c d f g l m q n p x y =
    let v = f m q x in
    let w = g n p y in
    inr (v.0 ∙ sym w.0, inr (v.1 ∙ sym w.1, omega (arith, v.3, w.2)))

-- from what an answer is to the record of it
passed_first : {F : Conditions} → Clear F → First F Passed
passed_first f = record { clear = λ e. f; fails = λ n p e. absurd (passed_refused n p e) }

refused_first : {F : Conditions} (n p : ℕ) → FirstAt F n p → First F (Refused n p)
refused_first n p f =
    record {
      clear = λ e. absurd (passed_refused n p (sym e));
      fails = λ m q e. let a : n ≡ m = cc in let b : p ≡ q = cc in rw (a, b) at f;
    }

-- one check is the first of its one condition
pub first_check : (n p : ℕ) {c : Bool} {C : Type 0} → (c ≡ true) ↔ C → First (Fails n p C) (check n p c)
first_check n p {c} {C} = go c
  where
    go : (b : Bool) → (b ≡ true) ↔ C → First (Fails n p C) (check n p b)
    go true e =
        refused_first n p
        ((refl, refl, e.0 refl), λ m q l f. let b : Earlier n p n p = rw (f.0, f.1) at l in never_both n p n p b b)
    go false e = passed_first (λ m q f. true_false false (e.1 f.2) refl)

-- checks in order, where the later ones are reached only if the earlier ones pass
pub first_after :
    {F G : Conditions} {a b : Checked} → Before F G → First F a → (a ≡ Passed → First G b) → First (F or G) (a and_then b)
first_after {F} {G} {a} {b} l = go a b
  where
    reached : (y : Checked) → First F Passed → First G y → First (F or G) y
    reached Passed f g = passed_first (λ n p. ⊎_elim (f.clear refl n p) (g.clear refl n p))
    reached (Refused n p) f g =
        refused_first n p
        (inr (g.fails n p refl).0, λ m q e. ⊎_elim (f.clear refl m q) ((g.fails n p refl).1 m q e))

    go : (x y : Checked) → First F x → (x ≡ Passed → First G y) → First (F or G) (x and_then y)
    go Passed y f g = reached y f (g refl)
    go (Refused n p) y f g =
        let h = f.fails n p refl in
        refused_first n p
        (inl h.0, λ m q e. ⊎_elim (h.1 m q e) (λ z. never_both m q n p e (l n p m q h.0 z)))

-- checks in order
pub first_then :
    {F G : Conditions} {a b : Checked} → Before F G → First F a → First G b → First (F or G) (a and_then b)
first_then l f g = first_after l f (λ e. g)

-- the same conditions in other words
first_same : {F : Conditions} (G : Conditions) {a : Checked} → ((n p : ℕ) → F n p ↔ G n p) → First F a → First G a
first_same G e f =
    record {
      clear = λ x n p g. f.clear x n p ((e n p).1 g);
      fails = λ n p x. ((e n p).0 (f.fails n p x).0, λ m q l g. (f.fails n p x).1 m q l ((e m q).1 g));
    }

-- places rising: each place's checks are the first of its conditions, at that place and in one row
module _ (f : ℕ → Checked) (F : ℕ → Conditions) (r a b : ℕ) (within : (i : ℕ) → Within r i a b (F i)) where
  abbrev From : ℕ → ℕ → Conditions
  From i size n p = (j : ℕ) × (i ≤ j) × (j < i + size) × F j n p

  first_from :
      (i size : ℕ) → ((j : ℕ) → i ≤ j → j < i + size → First (F j) (f j)) → First (From i size) (scan f i size)
  unfolding scan
  first_from i zero h = passed_first (λ n p e. omega (arith, e.1, e.2))
  first_from i (suc size) h =
      first_same (From i (suc size))
      (λ n p. (
        ⊎_elim (λ x. (i, omega arith, omega arith, x)) (λ y. (y.0, omega (arith, y.1), omega (arith, y.2), y.3)),
        λ z. elim (dec_lt i z.0) [
          | yes l ↦ inr (z.0, l, omega (arith, z.2), z.3)
          | no g ↦ inl (subst (λ (j : ℕ). F j n p) (let e : z.0 ≡ i = omega (arith, z.1) in e) z.3)
        ],
      ))
      (first_then
      (λ m q n p x y.
      let v = within i m q x in
      let w = within y.0 n p y.3 in
      inr (v.0 ∙ sym w.0, inl (omega (arith, v.1, w.1, y.1))))
      (h i (omega arith) (omega arith))
      (first_from (suc i) size (λ j l u. h j (omega arith) (omega arith))))

  pub first_scan : (size : ℕ) → ((i : ℕ) → i < size → First (F i) (f i)) → First (Each size F) (scan f 0 size)
  first_scan size h =
      first_same (Each size F)
      (λ n p. (λ z. (z.0, omega (arith, z.2), z.3), λ z. (z.0, omega arith, omega (arith, z.1), z.2)))
      (first_from 0 size (λ j l u. h j (omega arith)))

pub scan_rows : (F : ℕ → Conditions) (r a b size : ℕ) → ((i : ℕ) → Within r i a b (F i)) → InRow r (Each size F)
scan_rows F r a b size within n p z = (within z.0 n p z.2).0
