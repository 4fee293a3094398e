-- Laws of sums over blocks, and of ranks over pairs.
use Prim.Native.Nat.{ℕ, zero, suc, ◌+◌, ◌<◌}
use mathlib.Core.Path.{◌≡◌, refl, sym, ◌∙◌, ap, ap₂}
use mathlib.Core.Bool.{Bool, true, ◌&&◌}
use native.Mathlib.Omega.{arith}
use Rattle.facts.specs.Sums.{sum, count, count₂}
use Rattle.facts.proofs.Sums.{sum_append, count_append, count_none, count_rank, rank_lt}
use Rattle.facts.proofs.Blocks.{block_before}
use Rattle.netlist.specs.Kinds.{slots}
use Rattle.mapper.specs.Mapped.{rank}

-- a sum over all items is the sum over the blocks of the sums over each block's items
pub sum_blocks : (g f : ℕ → ℕ) (n : ℕ) → sum g (sum f n) ≡ sum (λ d. sum (λ j. g (sum f d + j)) (f d)) n
unfolding sum
sum_blocks g f zero = refl
sum_blocks g f (suc n) = sum_append g (sum f n) (f n) ∙ ap (λ (c : ℕ). c + sum (λ j. g (sum f n + j)) (f n)) (sum_blocks g f n)

-- counted pairs that have g of their rank are as many as the ranks that have g; ranks go by record and slot
pub count₂_rank : (p : ℕ → ℕ → Bool) (g : ℕ → Bool) (n : ℕ) →
    count₂ (λ i j. p i j && g (rank p i j)) slots n ≡ count g (count₂ p slots n)
unfolding count₂ sum rank
count₂_rank p g zero = sym (count_none g 0 (λ i l e. omega arith))
count₂_rank p g (suc n) =
    ap₂ ◌+◌ (count₂_rank p g n) (count_rank (p n) (λ y. g (count₂ p slots n + y)) slots) ∙ sym (count_append g (count₂ p slots n) (count (p n) slots))

-- a counted pair's rank is below the count
pub rank_below : (p : ℕ → ℕ → Bool) (i j n : ℕ) → i < n → j < slots → p i j ≡ true → rank p i j < count₂ p slots n
unfolding rank count₂
rank_below p i j n l k e = omega (arith, rank_lt (p i) j slots k e, block_before (λ i. count (p i) slots) i n l)
