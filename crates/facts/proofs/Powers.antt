-- Laws of powers.
use Prim.Native.Nat.{ℕ, zero, suc, ◌^◌, ◌≤◌, ◌<◌}
use native.Mathlib.Nat.{mul-le-mul_left, pow-zero, pow-suc}
use native.Mathlib.Omega.{arith}

-- a number is below the power of a base from 2 on with that exponent
pub below_power : (s n : ℕ) → 2 ≤ s → n < s ^ n
below_power s zero h = omega (arith, pow-zero s)
below_power s (suc n) h =
    omega (arith, below_power s n h, pow-suc s n, mul-le-mul_left {m = 2} {n = s} (s ^ n) h)
