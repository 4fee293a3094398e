-- Bits of a number: some bit from n on is set exactly if the number is at least 2 ^ n.
use Prim.Native.Nat.{ℕ, zero, suc, ◌+◌, ◌*◌, ◌/◌, ◌%◌, ◌^◌, ◌<◌, ◌≤◌}
use native.Mathlib.Nat.{div-one, le-div_iff_mul-le}
use native.Mathlib.Decide.{ℕ_discrete}
use native.Mathlib.Omega.{arith}
use mathlib.Core.Path.{◌≡◌, sym, ap, ◌∙◌}
use mathlib.Core.Logic.{◌↔◌}
use lib.Pow.{pow_pos, pow_mono, shr-shr}

-- a number above 0 has a bit that is set
some_bit : (fuel x : ℕ) → 0 < x → x ≤ fuel → (j : ℕ) × (x / 2 ^ j % 2 ≡ 1)
some_bit zero x p h = absurd (omega arith)
some_bit (suc fuel) x p h =
    elim (ℕ_discrete (x % 2) 1) [
      | yes odd ↦ (0, rw (div-one x) odd)
      | no even ↦
          let r = some_bit fuel (x / 2) (omega arith) (omega arith) in
          (1 + r.0, sym (ap (λ (y : ℕ). y % 2) (shr-shr x 1 r.0)) ∙ r.1)
    ]

pub bit_from : (n x : ℕ) → (2 ^ n ≤ x) ↔ ((j : ℕ) × (n ≤ j) × (x / 2 ^ j % 2 ≡ 1))
bit_from n x = (up, down)
  where
    up : 2 ^ n ≤ x → (j : ℕ) × (n ≤ j) × (x / 2 ^ j % 2 ≡ 1)
    up h =
        let q : 0 < x / 2 ^ n = (le-div_iff_mul-le (pow_pos n)).1 (omega arith) in
        let r = some_bit (x / 2 ^ n) (x / 2 ^ n) q (omega arith) in
        (n + r.0, omega arith, sym (ap (λ (y : ℕ). y % 2) (shr-shr x n r.0)) ∙ r.1)

    down : (j : ℕ) × (n ≤ j) × (x / 2 ^ j % 2 ≡ 1) → 2 ^ n ≤ x
    down b =
        let q : 1 * 2 ^ b.0 ≤ x = (le-div_iff_mul-le (pow_pos b.0)).0 (omega (arith, b.2)) in
        omega (arith, pow_mono b.1)
