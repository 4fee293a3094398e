-- Sums, counts, largest values and searches over ranges of numbers.
use Rattle.std.specs.Prelude.{ℕ, zero, suc, ◌+◌, max, Bool, true, false, cond, ◌||◌}

-- 1 for true, 0 for false
abbrev pub bit : Bool → ℕ
bit true = 1
bit false = 0

-- f 0 + .. + f (n - 1)
unfoldable pub sum : (ℕ → ℕ) → ℕ → ℕ
sum f zero = 0
sum f (suc n) = sum f n + f n

-- how many numbers below n have p
unfoldable pub count : (ℕ → Bool) → ℕ → ℕ
count p n = sum (λ i. bit (p i)) n

-- how many pairs (i, j), i below n and j below w, have p
unfoldable pub count₂ : (ℕ → ℕ → Bool) → ℕ → ℕ → ℕ
count₂ p w n = sum (λ i. count (p i) w) n

-- the largest of f 0, .., f (n - 1), 0 where n is 0
unfoldable pub largest : (ℕ → ℕ) → ℕ → ℕ
largest f zero = 0
largest f (suc n) = max (largest f n) (f n)

-- whether some number below n has p
unfoldable pub any : (ℕ → Bool) → ℕ → Bool
any p zero = false
any p (suc n) = any p n || p n

-- the first of the n numbers from i on that has p, or i + n where none has
unfoldable pub seek : (ℕ → Bool) → ℕ → ℕ → ℕ
seek p i zero = i
seek p i (suc n) = cond (p i) i (seek p (suc i) n)
