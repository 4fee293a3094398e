-- Laws of sums, counts and largest values over the numbers below n: congruence, order, addition, swapping, fibres, double counting, ranks.
use Prim.Native.Nat.{ℕ, zero, suc, ◌+◌, ◌*◌, ◌-◌, ◌≤◌, ◌<◌, ◌/◌, ◌%◌}
use mathlib.Core.Path.{◌≡◌, refl, sym, ◌∙◌, ap, ap₂, subst, subst⁻¹}
use mathlib.Core.Bool.{Bool, true, false, not, ◌&&◌, ◌||◌}
use mathlib.Core.Logic.{◌↔◌}
use native.Mathlib.Omega.{arith}
use native.Mathlib.Nat.{mul-zero, mul-suc, mul-add, add-zero, add-suc, add-sub_of_le, mul-add-div, div-eq_of_lt, mul-le-mul_left, mul-add-mod_self_left, mod-eq_of_lt, mod-lt, div-add-mod}
use native.Mathlib.Decide.{dec_lt}
use native.Mathlib.Numerals.{add-one}
use lib.Dec.{ltb, eqb}
use borrow.Author.Tests.{ltb-true, lt-ltb, eq-eqb, ne_eqb, eqb-true}
use Rattle.facts.proofs.Bools.{and_l, and_r, or_l, or_r, true_false, not-true}
use Rattle.facts.specs.Sums.{bit, sum, count, count₂, largest, any}

-- equal terms below n give equal sums
pub sum_cong : (f g : ℕ → ℕ) (n : ℕ) → ((i : ℕ) → i < n → f i ≡ g i) → sum f n ≡ sum g n
unfolding sum
sum_cong f g zero h = refl
sum_cong f g (suc n) h = cc (sum_cong f g n (λ i l. h i (omega arith)), h n (omega arith))

-- smaller terms below n give a smaller sum
pub sum_mono : (f g : ℕ → ℕ) (n : ℕ) → ((i : ℕ) → i < n → f i ≤ g i) → sum f n ≤ sum g n
unfolding sum
sum_mono f g zero h = omega arith
sum_mono f g (suc n) h = omega (arith, sum_mono f g n (λ i l. h i (omega arith)), h n (omega arith))

pub sum_zero : (n : ℕ) → sum (λ i. 0) n ≡ 0
unfolding sum
sum_zero zero = refl
sum_zero (suc n) = omega (arith, sum_zero n)

pub sum_const : (c n : ℕ) → sum (λ i. c) n ≡ c * n
unfolding sum
sum_const c zero = omega (arith, mul-zero c)
sum_const c (suc n) = omega (arith, sum_const c n, mul-suc c n)

pub sum_add : (f g : ℕ → ℕ) (n : ℕ) → sum (λ i. f i + g i) n ≡ sum f n + sum g n
unfolding sum
sum_add f g zero = refl
sum_add f g (suc n) = omega (arith, sum_add f g n)

pub sum_scale : (s : ℕ) (f : ℕ → ℕ) (n : ℕ) → sum (λ i. s * f i) n ≡ s * sum f n
unfolding sum
sum_scale s f zero = omega (arith, mul-zero s)
sum_scale s f (suc n) = omega (arith, sum_scale s f n, mul-add s (sum f n) (f n))

-- two sums in either order
pub sum_swap : (f : ℕ → ℕ → ℕ) (m n : ℕ) → sum (λ i. sum (f i) m) n ≡ sum (λ j. sum (λ i. f i j) n) m
unfolding sum
sum_swap f m zero = sym (sum_zero m)
sum_swap f m (suc n) = omega (arith, sum_swap f m n, sum_add (λ j. sum (λ i. f i j) n) (f n) m)

-- the first m terms and the n after them
pub sum_append : (f : ℕ → ℕ) (m n : ℕ) → sum f (m + n) ≡ sum f m + sum (λ i. f (m + i)) n
unfolding sum
sum_append f m zero = rw (add-zero m) (omega arith)
sum_append f m (suc n) = rw (add-suc m n) (omega (arith, sum_append f m n))

-- more terms, a larger sum
pub sum_more : (f : ℕ → ℕ) (m n : ℕ) → m ≤ n → sum f m ≤ sum f n
sum_more f m n h =
    subst (λ (k : ℕ). sum f m ≤ sum f k) (add-sub_of_le h) (omega (arith, sum_append f m (n - m)))

-- the first term and the others
pub sum_first : (f : ℕ → ℕ) (n : ℕ) → sum f (suc n) ≡ f 0 + sum (λ i. f (suc i)) n
unfolding sum
sum_first f zero = omega arith
sum_first f (suc n) = omega (arith, sum_first f n)

-- one more term
pub sum_last : (f : ℕ → ℕ) (n : ℕ) → sum f n + f n ≡ sum f (n + 1)
unfolding sum
sum_last f n = rw (add-one n) refl

-- a sum of zeros
pub sum_none : (f : ℕ → ℕ) (n : ℕ) → ((i : ℕ) → i < n → f i ≡ 0) → sum f n ≡ 0
sum_none f n h = sum_cong f (λ i. 0) n h ∙ sum_zero n

-- terms from m on that are all 0
pub sum_stop : (f : ℕ → ℕ) (m n : ℕ) → m ≤ n → ((i : ℕ) → m ≤ i → f i ≡ 0) → sum f n ≡ sum f m
sum_stop f m n l h =
    subst (λ (k : ℕ). sum f k ≡ sum f m) (add-sub_of_le l)
    (omega (arith, sum_append f m (n - m), sum_none (λ i. f (m + i)) (n - m) (λ i b. h (m + i) (omega arith))))

-- a sum of which all terms but one are 0
pub sum_single : (f : ℕ → ℕ) (a n : ℕ) → a < n → ((i : ℕ) → i < n → (i ≡ a → ⊥) → f i ≡ 0) → sum f n ≡ f a
unfolding sum
sum_single f a n l h =
    subst (λ (k : ℕ). sum f k ≡ f a) (add-sub_of_le l)
    (omega (
      arith,
      sum_append f (suc a) (n - suc a),
      sum_none f a (λ i b. h i (omega arith) (λ e. omega arith)),
      sum_none (λ i. f (suc a + i)) (n - suc a) (λ i b. h (suc a + i) (omega arith) (λ e. omega arith)),
    ))

pub sum_single_le : (f : ℕ → ℕ) (a n : ℕ) → ((i : ℕ) → i < n → (i ≡ a → ⊥) → f i ≡ 0) → sum f n ≤ f a
sum_single_le f a n h =
    elim (dec_lt a n) [
      | yes l ↦ omega (arith, sum_single f a n l h)
      | no g ↦ omega (arith, sum_none f n (λ i l. h i l (λ e. omega arith)))
    ]

-- terms of at most s where q holds and 0 elsewhere
pub sum_bounded : (f : ℕ → ℕ) (q : ℕ → Bool) (s n : ℕ) →
    ((y : ℕ) → y < n → q y ≡ true → f y ≤ s) →
    ((y : ℕ) → y < n → q y ≡ false → f y ≡ 0) →
    sum f n ≤ s * count q n
unfolding count
sum_bounded f q s n some none =
    subst (λ (c : ℕ). sum f n ≤ c) (sum_scale s (λ y. bit (q y)) n) (sum_mono f _ n (λ y l. go y l (q y) refl))
  where
    go : (y : ℕ) → y < n → (b : Bool) → q y ≡ b → f y ≤ s * bit b
    go y l true e = omega (arith, some y l e)
    go y l false e = omega (arith, none y l e, mul-zero s)

-- one term is at most the sum
pub term_le : (f : ℕ → ℕ) (i n : ℕ) → i < n → f i ≤ sum f n
unfolding sum
term_le f i n l = omega (arith, sum_more f (suc i) n l)

-- counts agree where the tests do
pub count_cong : (p q : ℕ → Bool) (n : ℕ) → ((i : ℕ) → i < n → p i ≡ q i) → count p n ≡ count q n
unfolding count
count_cong p q n h = sum_cong _ _ n (λ i l. ap bit (h i l))

pub bit_le : (a : Bool) → bit a ≤ 1
bit_le true = omega arith
bit_le false = omega arith

pub bit_same : (a b : ℕ) → a ≡ b → bit (eqb a b) ≡ 1
bit_same a b e = ap bit (eq-eqb a b e)

pub bit_other : (a b : ℕ) → (a ≡ b → ⊥) → bit (eqb a b) ≡ 0
bit_other a b h = ap bit (ne_eqb a b h)

bit_none : (a : Bool) → (a ≡ true → ⊥) → bit a ≡ 0
bit_none true h = absurd (h refl)
bit_none false h = refl

bit_mono : (a b : Bool) → (a ≡ true → b ≡ true) → bit a ≤ bit b
bit_mono true b h = rw (h refl) (omega arith)
bit_mono false b h = omega arith

-- what implies more is counted more often
pub count_mono : (p q : ℕ → Bool) (n : ℕ) → ((i : ℕ) → i < n → p i ≡ true → q i ≡ true) → count p n ≤ count q n
unfolding count
count_mono p q n h = sum_mono _ _ n (λ i l. bit_mono (p i) (q i) (h i l))

-- a count is at most the range
pub count_le : (p : ℕ → Bool) (n : ℕ) → count p n ≤ n
unfolding count
count_le p n = omega (arith, sum_mono (λ i. bit (p i)) (λ i. 1) n (λ i l. bit_le (p i)), sum_const 1 n)

-- one more index
pub count_suc : (p : ℕ → Bool) (n : ℕ) → count p (suc n) ≡ count p n + bit (p n)
unfolding count sum
count_suc p n = refl

pub count_true : (p : ℕ → Bool) (n : ℕ) → p n ≡ true → count p (suc n) ≡ suc (count p n)
unfolding count sum
count_true p n e = rw e (omega arith)

pub count_false : (p : ℕ → Bool) (n : ℕ) → p n ≡ false → count p (suc n) ≡ count p n
unfolding count sum
count_false p n e = rw e (omega arith)

-- the first m indices and the n after them
pub count_append : (p : ℕ → Bool) (m n : ℕ) → count p (m + n) ≡ count p m + count (λ i. p (m + i)) n
unfolding count
count_append p m n = sum_append (λ i. bit (p i)) m n

-- more indices, a larger count
pub count_more : (p : ℕ → Bool) (m n : ℕ) → m ≤ n → count p m ≤ count p n
unfolding count
count_more p m n h = sum_more (λ i. bit (p i)) m n h

-- nothing counted
pub count_none : (p : ℕ → Bool) (n : ℕ) → ((i : ℕ) → i < n → p i ≡ true → ⊥) → count p n ≡ 0
unfolding count
count_none p n h = sum_cong _ (λ i. 0) n (λ i l. bit_none (p i) (h i l)) ∙ sum_zero n

-- nothing counted from m on
pub count_stop : (p : ℕ → Bool) (m n : ℕ) → m ≤ n → ((i : ℕ) → m ≤ i → p i ≡ true → ⊥) → count p n ≡ count p m
count_stop p m n l h =
    subst (λ (k : ℕ). count p k ≡ count p m) (add-sub_of_le l)
    (omega (
      arith,
      count_append p m (n - m),
      count_none (λ i. p (m + i)) (n - m) (λ i b e. h (m + i) (omega arith) e),
    ))

-- everything counted
pub count_all : (p : ℕ → Bool) (n : ℕ) → ((i : ℕ) → i < n → p i ≡ true) → count p n ≡ n
unfolding count
count_all p n h = sum_cong _ (λ i. 1) n (λ i l. ap bit (h i l)) ∙ omega (arith, sum_const 1 n)

-- over pairs: tests that agree, that imply, that never hold, and the range
pub count₂_cong : (p q : ℕ → ℕ → Bool) (w n : ℕ) →
    ((i j : ℕ) → i < n → j < w → p i j ≡ q i j) → count₂ p w n ≡ count₂ q w n
unfolding count₂
count₂_cong p q w n h = sum_cong _ _ n (λ i l. count_cong (p i) (q i) w (λ j k. h i j l k))

pub count₂_mono : (p q : ℕ → ℕ → Bool) (w n : ℕ) →
    ((i j : ℕ) → i < n → j < w → p i j ≡ true → q i j ≡ true) → count₂ p w n ≤ count₂ q w n
unfolding count₂
count₂_mono p q w n h = sum_mono _ _ n (λ i l. count_mono (p i) (q i) w (λ j k. h i j l k))

pub count₂_none : (p : ℕ → ℕ → Bool) (w n : ℕ) →
    ((i j : ℕ) → i < n → j < w → p i j ≡ true → ⊥) → count₂ p w n ≡ 0
unfolding count₂
count₂_none p w n h = sum_cong _ (λ i. 0) n (λ i l. count_none (p i) w (λ j k. h i j l k)) ∙ sum_zero n

pub count₂_le : (p : ℕ → ℕ → Bool) (w n : ℕ) → count₂ p w n ≤ w * n
unfolding count₂
count₂_le p w n =
    subst (λ (c : ℕ). count₂ p w n ≤ c) (sum_const w n) (sum_mono _ (λ i. w) n (λ i l. count_le (p i) w))

-- one place each
count₂_once : (p : ℕ → Bool) (n : ℕ) → count₂ (λ i j. p i) 1 n ≡ count p n
unfolding count₂ count sum
count₂_once p n = sum_cong _ _ n (λ i l. omega arith)

-- pairs by number: pair (i, j) is number w * i + j
pub count₂_flat : (p : ℕ → ℕ → Bool) (w n : ℕ) → 0 < w → count₂ p w n ≡ count (λ x. p (x / w) (x % w)) (w * n)
unfolding count₂ sum
count₂_flat p w zero h = rw (mul-zero w) (sym (count_none _ 0 (λ i l e. omega arith)))
count₂_flat p w (suc n) h =
    rw (mul-suc w n, count_append (λ x. p (x / w) (x % w)) (w * n) w, ← count₂_flat p w n h)
    (ap (λ (c : ℕ). sum (λ i. count (p i) w) n + c) (count_cong (p n) _ w (λ j k. sym (ap₂ p (quotient j k) (remainder j k)))))
  where
    quotient : (j : ℕ) → j < w → (w * n + j) / w ≡ n
    quotient j k = omega (arith, mul-add-div h n j, div-eq_of_lt k)

    remainder : (j : ℕ) → j < w → (w * n + j) % w ≡ j
    remainder j k = mul-add-mod_self_left w n j ∙ mod-eq_of_lt k

-- the rank of a counted index, the number counted below it, is below the count
pub rank_lt : (p : ℕ → Bool) (i n : ℕ) → i < n → p i ≡ true → count p i < count p n
rank_lt p i n l e = omega (arith, count_more p (suc i) n l, count_true p i e)

-- counted indices with g of their rank are as many as the ranks with g
pub count_rank : (p g : ℕ → Bool) (n : ℕ) → count (λ i. p i && g (count p i)) n ≡ count g (count p n)
unfolding count sum
count_rank p g zero = refl
count_rank p g (suc n) = go (p n) refl (count_rank p g n)
  where
    go : (b : Bool) → p n ≡ b → count (λ i. p i && g (count p i)) n ≡ count g (count p n) →
        count (λ i. p i && g (count p i)) n + bit (p n && g (count p n)) ≡ count g (count p n + bit (p n))
    go true e r = rw (e, add-one (count p n)) (omega (arith, r))
    go false e r = rw (e, add-zero (count p n)) (omega (arith, r))

-- exactly one number below n is y
pub count_one : (y n : ℕ) → y < n → count (λ i. eqb y i) n ≡ 1
count_one y n l =
    subst (λ (k : ℕ). count (λ i. eqb y i) k ≡ 1) (add-sub_of_le l)
    (omega (
      arith,
      count_append (λ i. eqb y i) (suc y) (n - suc y),
      count_true (λ i. eqb y i) y (eq-eqb y y refl),
      count_none (λ i. eqb y i) y (λ i l e. omega (arith, eqb-true y i e)),
      count_none (λ i. eqb y (suc y + i)) (n - suc y) (λ i l e. omega (arith, eqb-true y (suc y + i) e)),
    ))

-- at most s numbers are counted where all lie in s places from a on
pub count_within : (p : ℕ → Bool) (a s n : ℕ) → ((i : ℕ) → p i ≡ true → (a ≤ i) × (i < a + s)) → count p n ≤ s
count_within p a s n h =
    omega (
      arith,
      count_more p n (a + s + n) (omega arith),
      count_append p (a + s) n,
      count_append p a s,
      count_le (λ i. p (a + i)) s,
      count_none p a (λ i l e. omega (arith, h i e)),
      count_none (λ i. p (a + s + i)) n (λ i l e. omega (arith, h (a + s + i) e)),
    )

-- what gives y when divided by s
quotient_range : (s y i : ℕ) → 0 < s → i / s ≡ y → (s * y ≤ i) × (i < s * y + s)
quotient_range s y i h e = rw (← e) (omega (arith, div-add-mod i s, mod-lt i h))

-- at most s numbers do
pub count_div : (s y n : ℕ) → 0 < s → count (λ i. eqb (i / s) y) n ≤ s
count_div s y n h = count_within (λ i. eqb (i / s) y) (s * y) s n (λ i e. quotient_range s y i h (eqb-true (i / s) y e))

-- which numbers below n give y when divided by s: r of them where n is s * y + r, for r up to s
count_quotient : (s y r : ℕ) → 0 < s → r ≤ s → count (λ i. eqb (i / s) y) (s * y + r) ≡ r
count_quotient s y r h l =
    omega (
      arith,
      count_append (λ i. eqb (i / s) y) (s * y) r,
      count_none (λ i. eqb (i / s) y) (s * y) (λ i b e. omega (arith, quotient_range s y i h (eqb-true (i / s) y e))),
      count_all (λ i. eqb ((s * y + i) / s) y) r (λ i b. eq-eqb _ y (omega (arith, mul-add-div h y i, div-eq_of_lt {n = i} {m = s} (omega arith)))),
    )

-- s of them where n / s is above y
pub count_full : (s y n : ℕ) → 0 < s → y < n / s → count (λ i. eqb (i / s) y) n ≡ s
count_full s y n h l =
    count_stop (λ i. eqb (i / s) y) (s * y + s) n
    (omega (arith, mul-suc s y, mul-le-mul_left {m = suc y} {n = n / s} s l, div-add-mod n s))
    (λ i b e. omega (arith, quotient_range s y i h (eqb-true (i / s) y e)))
    ∙ count_quotient s y s h (omega arith)

-- and n % s of them where it is y
pub count_rest : (s n : ℕ) → 0 < s → count (λ i. eqb (i / s) (n / s)) n ≡ n % s
count_rest s n h =
    ap (count (λ i. eqb (i / s) (n / s))) (sym (div-add-mod n s)) ∙ count_quotient s (n / s) (n % s) h (omega (arith, mod-lt n h))

bit_fibre : (b : Bool) (x Y : ℕ) → (b ≡ true → x < Y) → bit b ≡ sum (λ y. bit (b && eqb x y)) Y
unfolding count
bit_fibre true x Y h = sym (count_one x Y (h refl))
bit_fibre false x Y h = sym (sum_zero Y)

-- what is counted over pairs, by values: the sum over the values of the counts at each value
pub fibres : (p : ℕ → ℕ → Bool) (f : ℕ → ℕ → ℕ) (w n Y : ℕ) →
    ((i j : ℕ) → i < n → j < w → p i j ≡ true → f i j < Y) →
    count₂ p w n ≡ sum (λ y. count₂ (λ i j. p i j && eqb (f i j) y) w n) Y
unfolding count₂ count
fibres p f w n Y h =
    sum_cong _ _ n (λ i l. sum_cong _ _ w (λ j k. bit_fibre (p i j) (f i j) Y (h i j l k)) ∙ sum_swap _ Y w)
    ∙ sum_swap _ Y n

-- double counting: each counted pair goes to a y that has q, and each y gets at most s of them
pub double_count : (p : ℕ → ℕ → Bool) (f : ℕ → ℕ → ℕ) (q : ℕ → Bool) (s w n Y : ℕ) →
    ((i j : ℕ) → i < n → j < w → p i j ≡ true → (f i j < Y) × (q (f i j) ≡ true)) →
    ((y : ℕ) → y < Y → q y ≡ true → count₂ (λ i j. p i j && eqb (f i j) y) w n ≤ s) →
    count₂ p w n ≤ s * count q Y
double_count p f q s w n Y goes few =
    subst⁻¹ (λ (c : ℕ). c ≤ s * count q Y) (fibres p f w n Y (λ i j l k e. (goes i j l k e).0))
    (sum_bounded (λ y. count₂ (lands y) w n) q s Y few (λ y l e. count₂_none (lands y) w n (never y e)))
  where
    lands : ℕ → ℕ → ℕ → Bool
    lands y i j = p i j && eqb (f i j) y

    never : (y : ℕ) → q y ≡ false → (i j : ℕ) → i < n → j < w → lands y i j ≡ true → ⊥
    never y e i j a b c =
        true_false (q y)
        (subst (λ (x : ℕ). q x ≡ true) (eqb-true (f i j) y (and_r (p i j) _ c)) (goes i j a b (and_l (p i j) _ c)).1)
        e

-- a count is the sum over the values of the counts at each value
pub fibres₁ : (p : ℕ → Bool) (f : ℕ → ℕ) (n Y : ℕ) →
    ((i : ℕ) → i < n → p i ≡ true → f i < Y) →
    count p n ≡ sum (λ y. count (λ i. p i && eqb (f i) y) n) Y
fibres₁ p f n Y h =
    sym (count₂_once p n)
    ∙ fibres (λ i j. p i) (λ i j. f i) 1 n Y (λ i j l k e. h i l e)
    ∙ sum_cong _ _ Y (λ y l. count₂_once (λ i. p i && eqb (f i) y) n)

any_at : (p : ℕ → Bool) (n i : ℕ) → i < n → p i ≡ true → any p n ≡ true
unfolding any
any_at p zero i l e = absurd (omega arith)
any_at p (suc n) i l e =
    elim (dec_lt i n) [
      | yes b ↦ or_l (any p n) (p n) (any_at p n i b e)
      | no g ↦ or_r (any p n) (p n) (subst (λ (k : ℕ). p k ≡ true) (let h : i ≡ n = omega arith in h) e)
    ]

any_found : (p : ℕ → Bool) (n : ℕ) → any p n ≡ true → (i : ℕ) × (i < n) × (p i ≡ true)
unfolding any
any_found p zero e = absurd (true_false false e refl)
any_found p (suc n) e = go (any p n) refl (any_found p n)
  where
    go : (b : Bool) → any p n ≡ b → (any p n ≡ true → (i : ℕ) × (i < n) × (p i ≡ true)) →
        (i : ℕ) × (i < suc n) × (p i ≡ true)
    go true h before = let f = before h in (f.0, omega (arith, f.1), f.2)
    go false h before = (n, omega arith, rw h at e)

-- over some of the values, the counts at each add up to at most the whole count
pub values_le : (p : ℕ → Bool) (f : ℕ → ℕ) (n Y : ℕ) → sum (λ y. count (λ i. p i && eqb (f i) y) n) Y ≤ count p n
unfolding count
values_le p f n Y =
    subst (λ (c : ℕ). c ≤ count p n) (sum_swap (λ i y. bit (p i && eqb (f i) y)) Y n) (sum_mono _ _ n (λ i l. one (p i) (f i)))
  where
    one : (b : Bool) (x : ℕ) → count (λ y. b && eqb x y) Y ≤ bit b
    one true x = count_within (λ y. eqb x y) x 1 Y (λ y e. omega (arith, eqb-true x y e))
    one false x = omega (arith, sum_zero Y)

-- some number below n has p
pub any_some : (p : ℕ → Bool) (n : ℕ) → (any p n ≡ true) ↔ ((i : ℕ) × (i < n) × (p i ≡ true))
any_some p n = (any_found p n, λ f. any_at p n f.0 f.1 f.2)

-- no number below n has p
pub any_none : (p : ℕ → Bool) (n : ℕ) → (any p n ≡ false) ↔ ((i : ℕ) → i < n → p i ≡ false)
any_none p n = (
  λ e i l. not-true (p i) (λ h. true_false (any p n) (any_at p n i l h) e),
  λ h. not-true (any p n) (λ e. let f = any_found p n e in true_false (p f.0) f.2 (h f.0 f.1)),
)

pub any_cong : (p q : ℕ → Bool) (n : ℕ) → ((j : ℕ) → j < n → p j ≡ q j) → any p n ≡ any q n
unfolding any
any_cong p q zero h = refl
any_cong p q (suc n) h = ap₂ ◌||◌ (any_cong p q n (λ j l. h j (omega arith))) (h n (omega arith))

-- a value, written as a byte and read again
pub on_bit : (b : Bool) → not (eqb (bit b) 0) ≡ b
on_bit true = refl
on_bit false = refl

pub bit_at_most : (b : Bool) (y : ℕ) → (b ≡ true → 1 ≤ y) → bit b ≤ y
bit_at_most true y h = h refl
bit_at_most false y h = omega arith

pub count_some : (p : ℕ → Bool) (j n : ℕ) → j < n → p j ≡ true → 1 ≤ count p n
unfolding count
count_some p j n l h = rw h at (term_le (λ i. bit (p i)) j n l)

-- numbers below a alone
pub count_used : (p : ℕ → Bool) (a w : ℕ) → a ≤ w → count (λ j. ltb j a && p j) w ≡ count p a
count_used p a w h =
    subst (λ (n : ℕ). count (λ j. ltb j a && p j) n ≡ count p a) (add-sub_of_le h)
    (omega (
      arith,
      count_append (λ j. ltb j a && p j) a (w - a),
      count_cong (λ j. ltb j a && p j) p a (λ j l. rw (lt-ltb j a l)),
      count_none (λ j. ltb (a + j) a && p (a + j)) (w - a) (λ j l e. omega (arith, ltb-true (a + j) a (and_l (ltb (a + j) a) (p (a + j)) e))),
    ))

-- terms f below a, and numbers with q from there on, under the terms g
pub count_above :
    (f g : ℕ → ℕ) (q : ℕ → Bool) (a e : ℕ) →
    ((i : ℕ) → i < a → f i ≤ g i) →
    ((i : ℕ) → i < a → q i ≡ true → ⊥) →
    ((i : ℕ) → i < e → q (a + i) ≡ true → 1 ≤ g (a + i)) →
    count q (a + e) + sum f a ≤ sum g (a + e)
unfolding count
count_above f g q a e low none high =
    omega (
      arith,
      sum_append g a e,
      count_append q a e,
      count_none q a none,
      sum_mono f g a low,
      sum_mono (λ i. bit (q (a + i))) (λ i. g (a + i)) e (λ i l. bit_at_most (q (a + i)) (g (a + i)) (high i l)),
    )

-- larger terms with no larger sum are the same
pub tight : (f g : ℕ → ℕ) (n : ℕ) → ((i : ℕ) → i < n → f i ≤ g i) → sum g n ≤ sum f n → (i : ℕ) → i < n → g i ≤ f i
unfolding sum
tight f g zero h e i l = absurd (omega arith)
tight f g (suc n) h e i l =
    elim (dec_lt i n) [
      | yes b ↦ tight f g n (λ j k. h j (omega arith)) (omega (arith, h n (omega arith))) i b
      | no b ↦
          let last : i ≡ n = omega arith in
          subst (λ (j : ℕ). g j ≤ f j) (sym last)
          (omega (arith, sum_mono f g n (λ j k. h j (omega arith))))
    ]

-- each value is at most the largest, and the largest is at most what each is at most
pub le_largest : (f : ℕ → ℕ) (i n : ℕ) → i < n → f i ≤ largest f n
unfolding largest
le_largest f i zero l = absurd (omega arith)
le_largest f i (suc n) l =
    elim (dec_lt i n) [
      | yes b ↦ omega (arith, le_largest f i n b)
      | no g ↦ (let e : i ≡ n = omega arith in omega (arith, ap f e))
    ]

pub largest_le : (f : ℕ → ℕ) (n b : ℕ) → ((i : ℕ) → i < n → f i ≤ b) → largest f n ≤ b
unfolding largest
largest_le f zero b h = omega arith
largest_le f (suc n) b h = omega (arith, largest_le f n b (λ i l. h i (omega arith)), h n (omega arith))

-- a number below the largest is below one of the values
pub largest_some : (f : ℕ → ℕ) (n b : ℕ) → b < largest f n → (i : ℕ) × (i < n) × (b < f i)
unfolding largest
largest_some f zero b l = absurd (omega arith)
largest_some f (suc n) b l =
    elim (dec_lt b (f n)) [
      | yes h ↦ (n, omega arith, h)
      | no g ↦ (let s = largest_some f n b (omega arith) in (s.0, omega (arith, s.1), s.2))
    ]

pub largest_cong : (f g : ℕ → ℕ) (n : ℕ) → ((i : ℕ) → i < n → f i ≡ g i) → largest f n ≡ largest g n
unfolding largest
largest_cong f g zero h = refl
largest_cong f g (suc n) h = cc (largest_cong f g n (λ i l. h i (omega arith)), h n (omega arith))

-- zeros at the end
pub largest_used : (f : ℕ → ℕ) (a w : ℕ) → a ≤ w → ((i : ℕ) → a ≤ i → i < w → f i ≡ 0) → largest f w ≡ largest f a
unfolding largest
largest_used f a zero l h = let e : a ≡ 0 = omega arith in rw e refl
largest_used f a (suc w) l h =
    elim (dec_lt w a) [
      | yes b ↦ (let e : a ≡ suc w = omega arith in rw e refl)
      | no g ↦ omega (arith, largest_used f a w (omega arith) (λ i m n. h i m (omega arith)), h w (omega arith) (omega arith))
    ]
