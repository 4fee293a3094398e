-- Laws of rounding: one number alone has the fact, the definition computes it, and so does code that tests the rest.
use Prim.Native.Nat.{ℕ, ◌+◌, ◌*◌, ◌-◌, ◌/◌, ◌%◌, ◌≤◌, ◌<◌}
use native.Mathlib.Decide.{dec_lt}
use native.Mathlib.Omega.{arith}
use native.Mathlib.Nat.{one-mul, add-mul, mul-le-mul_left, mul-le-mul_right, div-add-mod', mod-lt}
use mathlib.Core.Path.{◌≡◌, refl, sym, ap, subst, ◌∙◌}
use mathlib.Core.Bool.{false}
use mir.Val.{Fits}
use mir.Syntax.{w32}
use lib.Dec.{ltb}
use borrow.Author.Tests.{lt-ltb, le-ltb, eq-eqb, ne_eqb}
use Rattle.facts.specs.Rounding.{away, Rounded, rounded_rest, rounded, RoundedExact}

-- k numbers further, k wholes more
further : (k a b whole : ℕ) → a + k ≤ b → a * whole + k * whole ≤ b * whole
further k a b whole l = rw (← add-mul a k whole) (mul-le-mul_right whole l)

module _ (part whole : ℕ) where
  -- a number up to the fraction, and one from it on
  up_to : (a : ℕ) → a * whole ≤ part → away part whole a ≡ part - a * whole
  up_to a l =
      elim (dec_lt (a * whole) part) [
        | yes p ↦ rw (lt-ltb (a * whole) part p) refl
        | no p ↦ rw (le-ltb (a * whole) part (omega arith)) (omega arith)
      ]

  from : (a : ℕ) → part ≤ a * whole → away part whole a ≡ a * whole - part
  from a l = rw (le-ltb (a * whole) part l) refl

  -- neither end is further from the other than that
  within : (a : ℕ) → (a * whole ≤ part + away part whole a) × (part ≤ a * whole + away part whole a)
  within a =
      elim (dec_lt (a * whole) part) [
        | yes p ↦ let e = up_to a (omega arith) in (omega (arith, e), omega (arith, e))
        | no p ↦ let e = from a (omega arith) in (omega (arith, e), omega (arith, e))
      ]

  -- two numbers are together at least one whole away
  together : (a b : ℕ) → (a ≡ b → ⊥) → whole ≤ away part whole a + away part whole b
  together a b n =
      elim (dec_lt a b) [
        | yes l ↦ omega (arith, within a, within b, further 1 a b whole (omega arith), one-mul whole)
        | no l ↦ omega (arith, within a, within b, further 1 b a whole (omega arith), one-mul whole)
      ]

  module _ (p : 0 < whole) where
    -- of two numbers that have the fact none is larger: both would be a half away, so both even and two wholes apart
    not_above : (a b : ℕ) → Rounded part whole a → Rounded part whole b → a < b → ⊥
    not_above a b f g l =
        let sum = together a b (λ e. omega arith) in
        let e = f.even p (omega (arith, sum, f.near p, g.near p)) in
        let h = g.even p (omega (arith, sum, f.near p, g.near p)) in
        omega (arith, within a, within b, f.near p, g.near p, further 2 a b whole (omega arith))

    nearest : (a b : ℕ) → Rounded part whole a → away part whole a ≤ away part whole b
    nearest a b f =
        elim (dec_lt (away part whole b) (away part whole a)) [
          | yes l ↦
              let other : a ≡ b → ⊥ = λ e. omega (arith, ap (away part whole) e) in
              omega (arith, together a b other, f.near p)
          | no l ↦ omega arith
        ]

    tied : (a b : ℕ) → Rounded part whole a → (a ≡ b → ⊥) → away part whole a ≡ away part whole b → a % 2 ≡ 0
    tied a b f n e = f.even p (omega (arith, together a b n, f.near p))

  one : (a b : ℕ) → Rounded part whole a → Rounded part whole b → a ≡ b
  one a b f g =
      elim (dec_lt 0 whole) [
        | yes p ↦ omega (arith, not_above p a b f g, not_above p b a g f)
        | no p ↦ let z : whole ≡ 0 = omega arith in f.none z ∙ sym (g.none z)
      ]

  -- a quotient with its rest: itself, the next number, and the even one of the two
  module _ (q r : ℕ) (p : 0 < whole) (e : q * whole + r ≡ part) where
    lower : 2 * r ≤ whole → (2 * r ≡ whole → q % 2 ≡ 0) → Rounded part whole q
    lower l even =
        let d = up_to q (omega arith) in
        record { near = λ _. omega (arith, d); even = λ _ h. even (omega (arith, d)); none = λ z. omega arith }

    module _ (s : r < whole) where
      upper : whole ≤ 2 * r → (2 * r ≡ whole → q % 2 ≡ 1) → Rounded part whole (q + 1)
      upper l odd =
          let next : (q + 1) * whole ≡ q * whole + whole = omega (arith, add-mul q 1 whole, one-mul whole) in
          let d = from (q + 1) (omega (arith, next)) in
          record {
            near = λ _. omega (arith, next, d);
            even = λ _ h. omega (arith, odd (omega (arith, next, d)));
            none = λ z. omega arith;
          }

      half : 2 * r ≡ whole → Rounded part whole (q + q % 2)
      half h =
          elim (dec_lt (q % 2) 1) [
            | yes l ↦ subst (Rounded part whole) (omega arith) (lower (omega arith) (λ _. omega arith))
            | no l ↦ subst (Rounded part whole) (omega arith) (upper (omega arith) (λ _. omega arith))
          ]

      rest_rounded : Rounded part whole (rounded_rest q r whole)
      rest_rounded =
          elim (dec_lt (2 * r) whole) [
            | yes l ↦ rw (lt-ltb (2 * r) whole l) (lower (omega arith) (λ h. omega arith))
            | no l ↦
                rw (le-ltb (2 * r) whole (omega arith))
                (elim (dec_lt whole (2 * r)) [
                  | yes m ↦ rw (lt-ltb whole (2 * r) m) (upper (omega arith) (λ h. omega arith))
                  | no m ↦ rw (le-ltb whole (2 * r) (omega arith)) (half (omega arith))
                ])
          ]

  -- the definition, by its tests
  pub rounded_none : whole ≡ 0 → 0 ≡ rounded part whole
  unfolding rounded
  rounded_none e = rw (eq-eqb whole 0 e) refl

  computed : Rounded part whole (rounded part whole)
  unfolding rounded
  computed =
      elim (dec_lt 0 whole) [
        | yes p ↦ rw (ne_eqb whole 0 (λ z. omega arith)) (rest_rounded (part / whole) (part % whole) p (div-add-mod' part whole) (mod-lt part p))
        | no p ↦ record { near = λ q. omega arith; even = λ q _. omega arith; none = λ z. sym (rounded_none z) }
      ]

  -- what code tests: the rest, and what is missing to the next number
  module _ (p : whole ≡ 0 → ⊥) where
    small : part % whole < whole
    small = mod-lt part {m = whole} (omega arith)

    pub missing_fits : part % whole ≤ whole
    missing_fits = omega (arith, small)

    pub rounded_below : part % whole < whole - part % whole → part / whole ≡ rounded part whole
    unfolding rounded
    rounded_below l = rw (ne_eqb whole 0 p, lt-ltb (2 * (part % whole)) whole (omega arith)) refl

    module _ (l : whole - part % whole ≤ part % whole) where
      not_below_lem : ltb (2 * (part % whole)) whole ≡ false
      not_below_lem = le-ltb (2 * (part % whole)) whole (omega arith)

      -- the whole is 2 or more, so the quotient is below the part
      pub raised_fits : (x : ℕ) → x ≤ 1 → Fits w32 part → Fits w32 (part / whole + x)
      raised_fits x m f =
          omega (arith, f, small, div-add-mod' part whole, mul-le-mul_left {m = 2} {n = whole} (part / whole) (omega (arith, small)))

      pub rounded_above : whole - part % whole < part % whole → part / whole + 1 ≡ rounded part whole
      unfolding rounded
      rounded_above m = rw (ne_eqb whole 0 p, not_below_lem, lt-ltb whole (2 * (part % whole)) (omega arith)) refl

      pub rounded_half : part % whole ≤ whole - part % whole → part / whole + part / whole % 2 ≡ rounded part whole
      unfolding rounded
      rounded_half m = rw (ne_eqb whole 0 p, not_below_lem, le-ltb whole (2 * (part % whole)) (omega (arith, small))) refl

pub parity_small : (q : ℕ) → q % 2 ≤ 1
parity_small q = omega arith

pub rounded_exact : RoundedExact
rounded_exact =
    record {
      computed = computed;
      one = one;
      nearest = λ part whole a b p. nearest part whole p a b;
      tied = λ part whole a b p. tied part whole p a b;
    }
