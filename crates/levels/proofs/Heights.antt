-- Laws of heights: what is looked for is the height.
use Prim.Native.Nat.{ℕ, ◌^◌, ◌≤◌}
use native.Mathlib.Decide.{dec_lt}
use native.Mathlib.Omega.{arith}
use mathlib.Core.Path.{◌≡◌, sym, subst}
use borrow.Author.Tests.{leb-true, le-leb}
use Rattle.facts.specs.Sums.{seek}
use Rattle.facts.proofs.Loops.{seek_within, seek_true, seek_least}
use Rattle.facts.proofs.Powers.{below_power}
use Rattle.levels.specs.Levels.{carries, height}
use Rattle.levels.specs.Promises.{HeightExact}

-- no number of sinks has a height above itself
pub height_small : (s n : ℕ) → height s n ≤ n
unfolding height
height_small s n = omega (arith, seek_within (carries s n) 0 n)

height_enough : (s n : ℕ) → 2 ≤ s → n ≤ s ^ height s n
unfolding height
height_enough s n h =
    elim (dec_lt (seek (carries s n) 0 n) n) [
      | yes l ↦ leb-true n _ (seek_true (carries s n) 0 n (omega arith))
      | no g ↦
          let e : seek (carries s n) 0 n ≡ n = omega (arith, seek_within (carries s n) 0 n) in
          subst (λ (k : ℕ). n ≤ s ^ k) (sym e) (omega (arith, below_power s n h))
    ]

height_least : (s n i : ℕ) → n ≤ s ^ i → height s n ≤ i
unfolding height
height_least s n i l = seek_least (carries s n) 0 n i (omega arith) (le-leb n (s ^ i) l)

pub height_exact : HeightExact
height_exact =
    record {
      computed = λ s n h. record { enough = height_enough s n h; least = height_least s n };
      one = λ s n a b x y. omega (arith, x.least b y.enough, y.least a x.enough);
    }
