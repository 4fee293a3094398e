-- Specification 2.6: a fraction rounded to the nearest whole number, an exact half to the even neighbour.
use Rattle.std.specs.Prelude.{ℕ, ◌+◌, ◌*◌, ◌-◌, ◌/◌, ◌%◌, ◌≤◌, ◌<◌, ◌≡◌, cond, ltb, eqb}

-- how far a number is from part / whole, times the whole
abbrev pub away : ℕ → ℕ → ℕ → ℕ
away part whole number = cond (ltb (number * whole) part) (part - number * whole) (number * whole - part)

-- the number that part / whole is rounded to
pub record Rounded (part whole number : ℕ) : Type 0 where
  -- twice its distance from the fraction is at most one
  pub near : 0 < whole → 2 * away part whole number ≤ whole
  -- where it is exactly one, the number is even
  pub even : 0 < whole → 2 * away part whole number ≡ whole → number % 2 ≡ 0
  -- without a whole there is no fraction, and the number is 0
  pub none : whole ≡ 0 → number ≡ 0

-- a quotient with its rest, rounded: as it is below a half, one more above it, at an exact half the even one of the two
abbrev pub rounded_rest : ℕ → ℕ → ℕ → ℕ
rounded_rest quotient rest whole =
    cond (ltb (2 * rest) whole) quotient (cond (ltb whole (2 * rest)) (quotient + 1) (quotient + quotient % 2))

-- part / whole, rounded; 0 where the whole is 0
unfoldable pub rounded : ℕ → ℕ → ℕ
rounded part whole = cond (eqb whole 0) 0 (rounded_rest (part / whole) (part % whole) whole)

-- what is computed is that number, and no other number is; no whole number is nearer to the fraction, and it is even where another is as near
pub record RoundedExact : Type 0 where
  pub computed : (part whole : ℕ) → Rounded part whole (rounded part whole)
  pub one : (part whole a b : ℕ) → Rounded part whole a → Rounded part whole b → a ≡ b
  pub nearest : (part whole a b : ℕ) → 0 < whole → Rounded part whole a → away part whole a ≤ away part whole b
  pub tied : (part whole a b : ℕ) → 0 < whole → Rounded part whole a → (a ≡ b → ⊥) → away part whole a ≡ away part whole b → a % 2 ≡ 0
