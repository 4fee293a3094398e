-- Items numbered through blocks, one block after the other.
use Rattle.std.specs.Prelude.{ℕ, zero, suc, cond, leb}
use Rattle.facts.specs.Sums.{sum}

-- of n blocks of f 0, f 1, .. items the one in which item x stands: the last that starts at or before x
unfoldable pub block : (ℕ → ℕ) → ℕ → ℕ → ℕ
block f x zero = zero
block f x (suc n) = cond (leb (sum f n) x) n (block f x n)
