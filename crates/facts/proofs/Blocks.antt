-- Laws of items numbered through blocks of f 0, f 1, .. items: where item j of a block stands, and counts by blocks.
use Prim.Native.Nat.{ℕ, zero, suc, ◌+◌, ◌-◌, ◌≤◌, ◌<◌}
use mathlib.Core.Path.{◌≡◌, refl, ◌∙◌, ap, ap₂}
use mathlib.Core.Bool.{Bool, true, false, cond}
use native.Mathlib.Omega.{arith}
use native.Mathlib.Decide.{dec_lt}
use lib.Dec.{leb}
use borrow.Author.Tests.{le-leb, lt-leb, leb-true, leb-false}
use Rattle.facts.specs.Sums.{sum, count}
use Rattle.facts.specs.Blocks.{block}
use Rattle.facts.proofs.Sums.{sum_more, count_append, count_cong}

-- a block ends at the latest where the next one starts
pub block_before : (f : ℕ → ℕ) (d n : ℕ) → d < n → sum f d + f d ≤ sum f n
unfolding sum
block_before f d n l = sum_more f (suc d) n l

-- item j of block d stands in block d
pub block_at : (f : ℕ → ℕ) (n d j : ℕ) → d < n → j < f d → block f (sum f d + j) n ≡ d
unfolding block
block_at f zero d j l b = absurd (omega arith)
block_at f (suc n) d j l b =
    elim (dec_lt d n) [
      | yes m ↦ rw (lt-leb (sum f n) (sum f d + j) (omega (arith, block_before f d n m))) (block_at f n d j m b)
      | no g ↦ (let e : n ≡ d = omega arith in rw (e, le-leb (sum f d) (sum f d + j) (omega arith)) refl)
    ]

-- an item below the end of n blocks lies within its block d
pub record InBlock (f : ℕ → ℕ) (x n d : ℕ) : Type 0 where
  pub below : d < n
  pub from : sum f d ≤ x
  pub before : x < sum f d + f d

pub in_block : (f : ℕ → ℕ) (x n : ℕ) → x < sum f n → InBlock f x n (block f x n)
unfolding block sum
in_block f x zero l = absurd (omega arith)
in_block f x (suc n) l = go (leb (sum f n) x) refl (in_block f x n)
  where
    go : (b : Bool) → leb (sum f n) x ≡ b → (x < sum f n → InBlock f x n (block f x n)) →
        InBlock f x (suc n) (cond b n (block f x n))
    go true e r = record { below = omega arith; from = leb-true (sum f n) x e; before = omega arith }
    go false e r =
        let h = r (leb-false (sum f n) x e) in
        record { below = omega (arith, h.below); from = h.from; before = h.before }

-- a count over all items by blocks, of a test on the block and the number in it
pub count_blocks : (g : ℕ → ℕ → Bool) (f : ℕ → ℕ) (n : ℕ) →
    count (λ x. g (block f x n) (x - sum f (block f x n))) (sum f n) ≡ sum (λ d. count (g d) (f d)) n
unfolding sum count
count_blocks g f n = upto n (omega arith)
  where
    test : ℕ → Bool
    test x = g (block f x n) (x - sum f (block f x n))

    at : (d j : ℕ) → d < n → j < f d → test (sum f d + j) ≡ g d j
    at d j l b = rw (block_at f n d j l b) (ap (g d) (let e : sum f d + j - sum f d ≡ j = omega arith in e))

    upto : (m : ℕ) → m ≤ n → count test (sum f m) ≡ sum (λ d. count (g d) (f d)) m
    upto zero l = refl
    upto (suc m) l =
        count_append test (sum f m) (f m)
        ∙ ap₂ ◌+◌ (upto m (omega arith)) (count_cong (λ j. test (sum f m + j)) (g m) (f m) (λ j b. at m j l b))
