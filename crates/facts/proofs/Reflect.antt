-- What it means that checks pass and that tests hold, as ↔ laws: `simp reflect` reads a passed check as facts.
use Prim.Native.Nat.{ℕ, zero, suc, ◌+◌, ◌≤◌, ◌<◌}
use mathlib.Core.Path.{◌≡◌, refl}
use mathlib.Core.Bool.{Bool, true, false, cond, not, ◌&&◌, ◌||◌}
use mathlib.Core.List.{List}
use lib.Dec.{ltb, leb, eqb}
use borrow.Author.Tests.{ltb-true, ltb-false, leb-true, leb-false, eqb-true, eqb-false, lt-ltb, le-ltb, le-leb, lt-leb, eq-eqb, ne_eqb, not-true, not-false}
use native.Mathlib.Omega.{arith}
use native.Mathlib.Decide.{ℕ_discrete}
use mathlib.Core.Logic.{◌⊎◌, inl, inr, ⊎_elim, ◌≢◌, ◌↔◌}
use Rattle.facts.specs.Answers.{Checked, Passed, Refused}
use Rattle.facts.specs.Checks.{check, ◌and_then◌, unless_refused, refuses, scan}
use Rattle.facts.proofs.Sums.{any_none, any_some}
use Rattle.facts.proofs.Bools.{true_false}

pub check_passed : (number place : ℕ) (b : Bool) → (check number place b ≡ Passed) ↔ (b ≡ false)
check_passed number place true = (λ e. cc, λ e. cc)
check_passed number place false = (λ e. refl, λ e. refl)

pub then_passed : (a b : Checked) → ((a and_then b) ≡ Passed) ↔ ((a ≡ Passed) × (b ≡ Passed))
then_passed Passed b = (λ e. (refl, e), λ e. e.1)
then_passed (Refused number place) b = (λ e. (e, cc), λ e. e.0)

-- checks refuse exactly where they do not pass
pub refuses_none : (a : Checked) → (refuses a ≡ false) ↔ (a ≡ Passed)
refuses_none Passed = (λ e. refl, λ e. refl)
refuses_none (Refused number place) = (λ e. cc, λ e. cc)

pub refuses_some : (a : Checked) → (refuses a ≡ true) ↔ (a ≢ Passed)
refuses_some a = (λ e f. true_false (refuses a) e ((refuses_none a).1 f), go a)
  where
    go : (a : Checked) → a ≢ Passed → refuses a ≡ true
    go Passed h = absurd (h refl)
    go (Refused number place) h = refl

-- checks in order, in either grouping
pub then_assoc : (a b c : Checked) → ((a and_then b) and_then c) ≡ (a and_then (b and_then c))
then_assoc Passed b c = refl
then_assoc (Refused number place) b c = refl

-- nothing more to check
pub then_none : (a : Checked) → (a and_then Passed) ≡ a
then_none Passed = refl
then_none (Refused number place) = refl

pub or_none : (a b : Bool) → ((a || b) ≡ false) ↔ ((a ≡ false) × (b ≡ false))
or_none true b = (λ e. (e, cc), λ e. e.0)
or_none false b = (λ e. (refl, e), λ e. e.1)

pub unlike_none : (a b : ℕ) → (not (eqb a b) ≡ false) ↔ (a ≡ b)
unlike_none a b = (λ e. eqb-true a b (not-false (eqb a b) e), λ e. rw (eq-eqb a b e))

pub less_none : (a b : ℕ) → (ltb a b ≡ false) ↔ (b ≤ a)
less_none a b = (ltb-false a b, le-ltb a b)

pub most_none : (a b : ℕ) → (leb a b ≡ false) ↔ (b < a)
most_none a b = (leb-false a b, lt-leb a b)

pub same_none : (a b : ℕ) → (eqb a b ≡ false) ↔ (a ≢ b)
same_none a b = (eqb-false a b, ne_eqb a b)

-- from a on, b is false
pub from_none : (a j : ℕ) (b : Bool) → ((leb a j && b) ≡ false) ↔ (a ≤ j → b ≡ false)
from_none a j b = (λ e l. rw (le-leb a j l) at e, λ h. go (leb a j) refl h)
  where
    go : (c : Bool) → leb a j ≡ c → (a ≤ j → b ≡ false) → (c && b) ≡ false
    go true e h = h (leb-true a j e)
    go false e h = refl

-- one thing below n, another from there on
pub side_is : {A : Type 0} (k n : ℕ) (a b x : A) → (cond (ltb k n) a b ≡ x) ↔ ((k < n → a ≡ x) × (n ≤ k → b ≡ x))
side_is {A} k n a b x = (λ e. (λ l. rw (lt-ltb k n l) at e, λ l. rw (le-ltb k n l) at e), λ h. go (ltb k n) refl h)
  where
    go : (c : Bool) → ltb k n ≡ c → (k < n → a ≡ x) × (n ≤ k → b ≡ x) → cond c a b ≡ x
    go true e h = h.0 (ltb-true k n e)
    go false e h = h.1 (ltb-false k n e)

-- where a is b, c is false
pub at_none : (a b : ℕ) (c : Bool) → ((eqb a b && c) ≡ false) ↔ (a ≡ b → c ≡ false)
at_none a b c = (λ e l. rw (eq-eqb a b l) at e, λ h. go (eqb a b) refl h)
  where
    go : (d : Bool) → eqb a b ≡ d → (a ≡ b → c ≡ false) → (d && c) ≡ false
    go true e h = h (eqb-true a b e)
    go false e h = refl

scan_from : (f : ℕ → Checked) (i n : ℕ) → (scan f i n ≡ Passed) ↔ ((k : ℕ) → i ≤ k → k < i + n → f k ≡ Passed)
unfolding scan
scan_from f i zero = (λ e k a b. absurd (omega arith), λ h. refl)
scan_from f i (suc n) = go (scan_from f (suc i) n)
  where
    go :
        ((scan f (suc i) n ≡ Passed) ↔ ((k : ℕ) → suc i ≤ k → k < suc i + n → f k ≡ Passed)) →
        ((f i and_then scan f (suc i) n) ≡ Passed) ↔ ((k : ℕ) → i ≤ k → k < i + suc n → f k ≡ Passed)
    go ih = (
      λ e k a b.
          elim (ℕ_discrete i k) [
            | yes h ↦ rw h at ((then_passed (f i) (scan f (suc i) n)).0 e).0
            | no h ↦ ih.0 ((then_passed (f i) (scan f (suc i) n)).0 e).1 k (omega arith) (omega arith)
          ],
      λ h.
          (then_passed (f i) (scan f (suc i) n)).1
          (h i (omega arith) (omega arith), ih.1 (λ k a b. h k (omega arith) (omega arith))),
    )

-- every place passes
pub scan_passed : (f : ℕ → Checked) (n : ℕ) → (scan f 0 n ≡ Passed) ↔ ((k : ℕ) → k < n → f k ≡ Passed)
scan_passed f n = (
  λ e k l. (scan_from f 0 n).0 e k (omega arith) (omega arith),
  λ h. (scan_from f 0 n).1 (λ k a b. h k (omega arith)),
)

pub ruleset reflect = (check_passed, then_passed, scan_passed, side_is, or_none, unlike_none, less_none, most_none, same_none, from_none, at_none, any_none)

-- ↔ under a sum, a product and an index
pub iff_sum : {A B C D : Type 0} → A ↔ B → C ↔ D → (A ⊎ C) ↔ (B ⊎ D)
iff_sum f g = (⊎_elim (λ a. inl (f.0 a)) (λ c. inr (g.0 c)), ⊎_elim (λ b. inl (f.1 b)) (λ d. inr (g.1 d)))

pub iff_pair : {A B C D : Type 0} → A ↔ B → C ↔ D → (A × C) ↔ (B × D)
iff_pair f g = (λ x. (f.0 x.0, g.0 x.1), λ x. (f.1 x.0, g.1 x.1))

pub iff_trans : {A B C : Type 0} → A ↔ B → B ↔ C → A ↔ C
iff_trans f g = (λ a. g.0 (f.0 a), λ c. f.1 (g.1 c))

pub iff_some : (n : ℕ) (A B : ℕ → Type 0) → ((i : ℕ) → A i ↔ B i) → ((i : ℕ) × (i < n) × A i) ↔ ((i : ℕ) × (i < n) × B i)
iff_some n A B f = (λ x. (x.0, x.1, (f x.0).0 x.2), λ x. (x.0, x.1, (f x.0).1 x.2))

pub less : (a b : ℕ) → (ltb a b ≡ true) ↔ (a < b)
less a b = (ltb-true a b, lt-ltb a b)

pub most : (a b : ℕ) → (leb a b ≡ true) ↔ (a ≤ b)
most a b = (leb-true a b, le-leb a b)

pub same : (a b : ℕ) → (eqb a b ≡ true) ↔ (a ≡ b)
same a b = (eqb-true a b, eq-eqb a b)

pub unlike : (a b : ℕ) → (not (eqb a b) ≡ true) ↔ (a ≢ b)
unlike a b = (λ e. eqb-false a b (not-true (eqb a b) e), λ e. rw (ne_eqb a b e))

pub both : (a b : Bool) → ((a && b) ≡ true) ↔ ((a ≡ true) × (b ≡ true))
both true b = (λ e. (refl, e), λ e. e.1)
both false b = (λ e. (e, cc), λ e. e.0)

pub either : (a b : Bool) → ((a || b) ≡ true) ↔ ((a ≡ true) ⊎ (b ≡ true))
either true b = (λ e. inl refl, λ e. refl)
either false b = (inr, ⊎_elim (λ e. cc) (λ e. e))

-- a test in two parts, each read as what it means
pub either_is : {A B : Type 0} {a b : Bool} → (a ≡ true) ↔ A → (b ≡ true) ↔ B → ((a || b) ≡ true) ↔ (A ⊎ B)
either_is {a = a} {b} f g = iff_trans (either a b) (iff_sum f g)

pub both_is : {A B : Type 0} {a b : Bool} → (a ≡ true) ↔ A → (b ≡ true) ↔ B → ((a && b) ≡ true) ↔ (A × B)
both_is {a = a} {b} f g = iff_trans (both a b) (iff_pair f g)

-- `simp holds` reads a test that holds as facts, below any but `||`
pub ruleset holds = (less, most, same, unlike, both, any_some)

-- one test below n, another from there on
pub side : (k n : ℕ) (a b : Bool) → (cond (ltb k n) a b ≡ true) ↔ (((k < n) × (a ≡ true)) ⊎ ((n ≤ k) × (b ≡ true)))
side k n a b = go (ltb k n) refl
  where
    go : (c : Bool) → ltb k n ≡ c → (cond c a b ≡ true) ↔ (((k < n) × (a ≡ true)) ⊎ ((n ≤ k) × (b ≡ true)))
    go true e = (
      λ h. inl (ltb-true k n e, h),
      ⊎_elim (λ h. h.1) (λ h. absurd (true_false (ltb k n) e (le-ltb k n h.0))),
    )
    go false e = (
      λ h. inr (ltb-false k n e, h),
      ⊎_elim (λ h. absurd (true_false (ltb k n) (lt-ltb k n h.0) e)) (λ h. h.1),
    )

-- the answer of checks in order, as code finds it: one check by its test, and a list by what its first part answers
module _ (number place : ℕ) (b c : Bool) (e : b ≡ c) where
  pub check_bad : b ≡ true → Refused number place ≡ check number place c
  check_bad h = rw (← e, h)

  pub check_good : b ≡ false → Passed ≡ check number place c
  check_good h = rw (← e, h)

module _ (x y : Checked) where
  pub then_stop : (number place : ℕ) → Refused number place ≡ x → Refused number place ≡ (x and_then y)
  then_stop number place h = rw (← h)

  pub then_go : (b : Checked) → Passed ≡ x → b ≡ y → b ≡ (x and_then y)
  then_go b h q = rw (← h) q

  -- and what it leaves in an area
  module _ (new area : List ℕ) where
    pub stop_kept : (number place : ℕ) → Refused number place ≡ x → area ≡ unless_refused (x and_then y) new area
    stop_kept number place h = rw (← h)

    pub go_written : (after : List ℕ) → Passed ≡ x → after ≡ unless_refused y new area → after ≡ unless_refused (x and_then y) new area
    go_written after h q = rw (← h) q

module _ (b c : Bool) (e : b ≡ c) (number place : ℕ) (y : Checked) where
  pub check_stop : b ≡ true → Refused number place ≡ (check number place c and_then y)
  check_stop h = rw (← e, h)

  pub check_go : (a : Checked) → b ≡ false → a ≡ y → a ≡ (check number place c and_then y)
  check_go a h q = rw (← e, h) q
