-- Laws of a number in decimal: its digits are the fewest that hold it, and stand for it.
use Prim.Native.Nat.{ℕ, zero, suc, ◌+◌, ◌*◌, ◌-◌, ◌/◌, ◌%◌, ◌^◌, ◌≤◌, ◌<◌}
use native.Mathlib.Omega.{arith}
use native.Mathlib.Nat.{pow-zero, pow-suc, one-le-pow}
use mathlib.Core.Path.{◌≡◌, refl, sym, ap, ap₂, subst, ◌∙◌}
use mathlib.Core.Logic.{◌≢◌}
use mathlib.Core.List.{List, [], ◌∷◌, ◌++◌}
use lib.ListN.{length, get_or, take, drop, length-append, get_or-append}
use lib.Seq.{get_or_at, length-take-le}
use borrow.Author.Tests.{lt-ltb, le-ltb}
use native.Mathlib.Decide.{dec_lt}
use Rattle.facts.specs.Areas.{onto}
use Rattle.facts.proofs.Powers.{below_power}
use Rattle.io.specs.Digits.{last_digits, IsDigitCount, hex_digit_ascii}
use Rattle.level_sheet.specs.Text.{digit_zero, decimal_in, decimal}
use Rattle.level_sheet.specs.Promises.{read_on, DecimalExact}

glyph_digit : (d : ℕ) → d < 10 → hex_digit_ascii d ≡ digit_zero + d
glyph_digit d l = rw (lt-ltb d 10 l)

-- a number below 10, and one from 10 on
one_digit : (most n : ℕ) → n < 10 → decimal_in (suc most) n ≡ (digit_zero + n) ∷ []
unfolding decimal_in
one_digit most n l = rw (lt-ltb n 10 l)

more_digits : (most n : ℕ) → 10 ≤ n → decimal_in (suc most) n ≡ decimal_in most (n / 10) ++ ((digit_zero + n % 10) ∷ [])
unfolding decimal_in
more_digits most n l = rw (le-ltb n 10 l)

-- with more than one digit the number is at least the power of one less
from_power : (k n : ℕ) → IsDigitCount 10 1 n (suc k) → 0 < k → 10 ^ k ≤ n
from_power k n f p = subst (λ (j : ℕ). 10 ^ j ≤ n) (let e : suc k - 1 ≡ k = omega arith in e) (f.2 (omega arith))

to_power : (k n : ℕ) → 10 ^ k ≤ n → 10 ^ (suc k - 1) ≤ n
to_power k n l = subst (λ (j : ℕ). 10 ^ j ≤ n) (let e : k ≡ suc k - 1 = omega arith in e) l

-- the fewest digits that hold a number are its decimal ones
fewest_in : (k most n : ℕ) → IsDigitCount 10 1 n k → k ≤ most → last_digits 10 k n ≡ decimal_in most n
fewest_in zero most n f l = absurd (omega (arith, f.0))
fewest_in (suc k) zero n f l = absurd (omega arith)
fewest_in (suc zero) (suc most) n f l =
    let low : n < 10 = omega (arith, f.1, pow-suc 10 0, pow-zero 10) in
    let same : hex_digit_ascii (n % 10) ≡ digit_zero + n = glyph_digit (n % 10) (omega arith) ∙ omega arith in
    ap (λ (d : ℕ). d ∷ []) same ∙ sym (one_digit most n low)
fewest_in (suc (suc k)) (suc most) n f l =
    let least : 10 ^ suc k ≤ n = from_power (suc k) n f (omega arith) in
    let high : 10 ≤ n = omega (arith, pow-suc 10 k, one-le-pow k 10 (omega arith)) in
    let rest : IsDigitCount 10 1 (n / 10) (suc k) = (
      omega arith,
      omega (arith, f.1, pow-suc 10 (suc k)),
      λ h. to_power k (n / 10) (omega (arith, pow-suc 10 k)),
    ) in
    ap₂ (λ (l : List ℕ) (d : ℕ). l ++ (d ∷ [])) (fewest_in (suc k) most (n / 10) rest (omega arith)) (glyph_digit (n % 10) (omega arith))
    ∙ sym (more_digits most n high)

fewest_decimal : (k n : ℕ) → IsDigitCount 10 1 n k → last_digits 10 k n ≡ decimal n
fewest_decimal k n f = fewest_in k (suc n) n f (few k f)
  where
    few : (k : ℕ) → IsDigitCount 10 1 n k → k ≤ suc n
    few zero f = omega arith
    few (suc zero) f = omega arith
    few (suc (suc k)) f = omega (arith, from_power (suc k) n f (omega arith), below_power 10 (suc k) (omega arith))

-- a number below 10 ^ w has at most w digits
short_in : (most w n : ℕ) → 0 < w → n < 10 ^ w → length (decimal_in most n) ≤ w
unfolding decimal_in
short_in zero w n p l = omega arith
short_in (suc most) zero n p l = absurd (omega arith)
short_in (suc most) (suc zero) n p l = rw (lt-ltb n 10 (omega (arith, pow-suc 10 0, pow-zero 10))) (omega arith)
short_in (suc most) (suc (suc w)) n p l =
    elim (dec_lt n 10) [
      | yes h ↦ rw (lt-ltb n 10 h) (omega arith)
      | no g ↦
          rw (le-ltb n 10 (omega arith), length-append (decimal_in most (n / 10)) ((digit_zero + n % 10) ∷ []))
          (omega (arith, short_in most (suc w) (n / 10) (omega arith) (omega (arith, pow-suc 10 (suc w)))))
    ]

pub decimal_short : (w n : ℕ) → 0 < w → n < 10 ^ w → length (decimal n) ≤ w
decimal_short w n p l = short_in (suc n) w n p l

-- one digit more is read
read_last : (n d : ℕ) (ds : List ℕ) → read_on n (ds ++ (d ∷ [])) ≡ 10 * read_on n ds + (d - digit_zero)
unfolding read_on
read_last n d [] = refl
read_last n d (e ∷ ds) = read_last (10 * n + (e - digit_zero)) d ds

read_in_lem : (most n : ℕ) → n < most → read_on 0 (decimal_in most n) ≡ n
unfolding read_on
read_in_lem zero n l = absurd (omega arith)
read_in_lem (suc most) n l =
    elim (dec_lt n 10) [
      | yes h ↦ ap (read_on 0) (one_digit most n h) ∙ omega arith
      | no g ↦
          ap (read_on 0) (more_digits most n (omega arith))
          ∙ read_last 0 (digit_zero + n % 10) (decimal_in most (n / 10))
          ∙ omega (arith, read_in_lem most (n / 10) (omega arith))
    ]

some_in : (most n : ℕ) → 0 < length (decimal_in (suc most) n)
some_in most n =
    elim (dec_lt n 10) [
      | yes h ↦ rw (one_digit most n h) (omega arith)
      | no g ↦
          rw (more_digits most n (omega arith), length-append (decimal_in most (n / 10)) ((digit_zero + n % 10) ∷ []))
          (omega arith)
    ]

-- every byte is a digit
abbrev Digit : ℕ → Type 0
Digit x = (digit_zero ≤ x) × (x < digit_zero + 10)

digits_more : (ds : List ℕ) (d : ℕ) → ((i : ℕ) → i < length ds → Digit (get_or ds i 0)) → Digit d →
    (i : ℕ) → i < length (ds ++ (d ∷ [])) → Digit (get_or (ds ++ (d ∷ [])) i 0)
digits_more ds d h p i l =
    elim (dec_lt i (length ds)) [
      | yes b ↦ rw (get_or-append ds (d ∷ []) 0 i b) (h i b)
      | no g ↦
          (let e : i ≡ length ds = omega (arith, length-append ds (d ∷ [])) in
          rw (e, get_or_at ds d [] 0 (length ds) refl) p)
    ]

digits_in : (most n i : ℕ) → i < length (decimal_in most n) → Digit (get_or (decimal_in most n) i 0)
unfolding decimal_in
digits_in zero n i l = absurd (omega arith)
digits_in (suc most) n i l =
    elim (dec_lt n 10) [
      | yes h ↦
          (let e = one_digit most n h in
          rw e (digits_more [] (digit_zero + n) (λ j b. absurd (omega arith)) (omega arith) i (subst (λ (ds : List ℕ). i < length ds) e l)))
      | no g ↦
          (let e = more_digits most n (omega arith) in
          rw e (
          digits_more (decimal_in most (n / 10)) (digit_zero + n % 10) (digits_in most (n / 10)) (omega arith) i
          (subst (λ (ds : List ℕ). i < length ds) e l)
          ))
    ]

-- of a number above 0 the first digit is not 0
first_in : (most n : ℕ) → n < most → 0 < n → get_or (decimal_in most n) 0 0 ≢ digit_zero
first_in zero n l p = absurd (omega arith)
first_in (suc zero) n l p = absurd (omega arith)
first_in (suc (suc most)) n l p =
    elim (dec_lt n 10) [
      | yes h ↦ rw (one_digit (suc most) n h) (λ e. omega arith)
      | no g ↦
          rw (more_digits (suc most) n (omega arith))
          (λ e.
          first_in (suc most) (n / 10) (omega arith) (omega arith)
          (sym (get_or-append (decimal_in (suc most) (n / 10)) ((digit_zero + n % 10) ∷ []) 0 0 (some_in most (n / 10))) ∙ e))
    ]

pub decimal_exact : DecimalExact
decimal_exact =
    record {
      some = λ n. some_in n n;
      digits = λ n i l. digits_in (suc n) n i l;
      read = λ n. read_in_lem (suc n) n (omega arith);
      first = λ n p. first_in (suc n) n (omega arith) p;
    }

-- the digits of a number as they are made, then copied into a text
module _ (n wide k : ℕ) (out : List ℕ) (same : wide ≡ n) (counted : (k ≤ length out) × (k ≡ length (take k out))) (f : IsDigitCount 10 1 wide k)
    (e : take k out ≡ last_digits 10 k wide) where
  digits_are : take k out ≡ decimal n
  digits_are = e ∙ fewest_decimal k wide f ∙ ap decimal same

  pub decimal_end : k ≡ length (decimal n)
  decimal_end = counted.1 ∙ ap length digits_are

  module _ (text : List ℕ) (room : length (decimal n) ≤ length text) where
    pub decimal_inside : k ≤ length text
    decimal_inside = omega (arith, decimal_end)

    pub decimal_part : k ≡ length (take k text)
    decimal_part = sym (length-take-le k text decimal_inside)

    pub decimal_parts : length (take k text) ≡ length (take k out)
    decimal_parts = sym decimal_part ∙ counted.1

  pub decimal_put : (text part : List ℕ) → part ≡ take k out → part ++ drop k text ≡ onto (decimal n) text
  decimal_put text part p = ap₂ (λ (l : List ℕ) (i : ℕ). l ++ drop i text) (p ∙ digits_are) decimal_end
