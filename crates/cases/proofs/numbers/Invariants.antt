-- The numbers up to the counter are those of the bytes, and the rest is what stands behind them.
use Rattle.std.proofs.Common.{ℕ, ◌≡◌, ◌<◌, ◌*◌, length, drop, slice_index}
use Rattle.cases.specs.Numbers.{number_bytes, number_at}
use Rattle.cases.proofs.numbers.Given as goal

abbrev pub invariant-loop-k : goal.invariant-loop-k
invariant-loop-k g l =
    (length l.numbers ≡ g.row.N)
    × (l.rest ≡ drop (number_bytes * l.k) l.bytes)
    × ((i : ℕ) → i < l.k → slice_index l.numbers i ≡ number_at l.bytes i)
