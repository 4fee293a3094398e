-- Laws of stretches: one more with sinks, and the way down over those without.
use Prim.Native.Nat.{ℕ, suc, ◌+◌, ◌*◌, ◌-◌, ◌/◌, ◌%◌, ◌^◌, ◌≤◌, ◌<◌, max}
use mathlib.Core.Path.{◌≡◌, sym, ◌∙◌, ap}
use mathlib.Core.List.{List}
use native.Mathlib.Omega.{arith}
use native.Mathlib.Nat.{div-eq_of_lt, div_self, mod-lt, pow-le-pow_right}
use native.Mathlib.Decide.{dec_lt, ℕ_discrete}
use lib.ListN.{length, get_or}
use lib.Bits.{bit_and, bit_or, or_shr, or_step, and_mask}
use lib.Pow.{pow_pos, shl_exact, ones_split, ones_lt, high, field, mod-mod-pow}
use Rattle.facts.proofs.Lists.{added_at}
use Rattle.facts.proofs.Sums.{bit_other}
use Rattle.netlist.specs.Kinds.{top_level}
use Rattle.fanout.specs.Nets.{added}
use Rattle.fanout.specs.PrivateStretches.{stretch, bit_at, InStretches, NextByStretch}

-- 1 shifted by n, as the code has it
shifted_one : (n : ℕ) → n < 64 → (1 * 2 ^ n) % 2 ^ 64 ≡ 2 ^ n
shifted_one n l = shl_exact {a = 1} 1 n 64 (omega arith) (omega arith) ∙ omega arith

pub lowest_is : (word n : ℕ) → n < stretch → bit_and word ((1 * 2 ^ n) % 2 ^ 64 - 1) ≡ word % 2 ^ n
lowest_is word n l = rw (shifted_one n l) (and_mask word n)

-- bits of two words joined
or_bit : (a b i : ℕ) → bit_at (bit_or a b) i ≡ max (bit_at a i) (bit_at b i)
or_bit a b i = ap (λ (x : ℕ). x % 2) (or_shr a b i) ∙ last (bit_or (a / 2 ^ i) (b / 2 ^ i)) (a / 2 ^ i) (b / 2 ^ i) _ (or_step (a / 2 ^ i) (b / 2 ^ i))
  where
    last : (o x y h : ℕ) → o ≡ h * 2 + max (x % 2) (y % 2) → o % 2 ≡ max (x % 2) (y % 2)
    last o x y h e = omega arith

own_bit : (i : ℕ) → bit_at (2 ^ i) i ≡ 1
own_bit i = ap (λ (x : ℕ). x % 2) (div_self (pow_pos i))

bit_small : (word i : ℕ) → bit_at word i ≤ 1
bit_small word i = omega (arith, mod-lt (word / 2 ^ i) {m = 2} (omega arith))

-- a row without sinks, and one more sink
pub stretches_none : (counts : List ℕ) (k stretches : ℕ) → ((x : ℕ) → get_or counts x 0 ≡ 0) → InStretches counts k stretches
stretches_none counts k stretches z = record { at = λ x l p. absurd (omega (arith, z x)) }

pub stretches_added : (counts : List ℕ) (k stretches x : ℕ) → InStretches counts k stretches → x < length counts →
    InStretches (added counts x) k (bit_or stretches (2 ^ (x / stretch)))
stretches_added counts k stretches x h l =
    record {
      at = λ y b p.
          or_bit stretches (2 ^ (x / stretch)) (y / stretch)
          ∙ elim (ℕ_discrete x y) [
            | yes e ↦ rw (← e) (omega (arith, own_bit (x / stretch), bit_small stretches (x / stretch)))
            | no e ↦
                omega (
                  arith,
                  h.at y b (omega (arith, added_at counts x y l, bit_other x y e)),
                  bit_small (2 ^ (x / stretch)) (y / stretch),
                )
          ];
    }

-- a word of set bits has every stretch
pub stretches_all : (counts : List ℕ) → length counts ≡ suc top_level → InStretches counts (suc top_level) (2 ^ 64 - 1)
stretches_all counts l = record { at = λ x b p. set (x / stretch) (omega arith) }
  where
    set : (i : ℕ) → i < 64 → bit_at (2 ^ 64 - 1) i ≡ 1
    set i b =
        let whole : 64 ≡ 63 - i + 1 + i = omega arith in
        ap (λ (n : ℕ). (2 ^ n - 1) / 2 ^ i % 2) whole
        ∙ ap (λ (n : ℕ). n / 2 ^ i % 2) (ones_split (63 - i + 1) i)
        ∙ ap (λ (n : ℕ). n % 2) (high (2 ^ (63 - i + 1) - 1) i (ones_lt i) ∙ ones_split (63 - i) 1)
        ∙ omega arith

-- bits below n are the word's
lowest_bit : (word n i : ℕ) → i < n → bit_at (word % 2 ^ n) i ≡ bit_at word i
lowest_bit word n i l =
    ap (λ (x : ℕ). bit_at (word % 2 ^ x) i) whole
    ∙ ap (λ (x : ℕ). x % 2) (field word (n - suc i + 1) i)
    ∙ mod-mod-pow (word / 2 ^ i) (n - suc i) 1
  where
    whole : n ≡ n - suc i + 1 + i
    whole = omega arith

bit_none : (word i j : ℕ) → word < 2 ^ j → j ≤ i → bit_at word i ≡ 0
bit_none word i j l b =
    ap (λ (x : ℕ). x % 2) (div-eq_of_lt (omega (arith, pow-le-pow_right {n = 2} (omega arith) {i = j} {j = i} b)))

-- from the lowest distance of a stretch
module _ (stretches x : ℕ) (far : (1 < x) × (x ≤ top_level)) where
  module _ (e : x % stretch ≡ 0) (word : ℕ) (w : word ≡ stretches % 2 ^ (x / stretch)) where
    -- a stretch below whose bit of the word is not set
    unset : (y j : ℕ) → y < x → word < 2 ^ j → j ≤ y / stretch → bit_at stretches (y / stretch) ≡ 0
    unset y j b l m =
        sym (lowest_bit stretches (x / stretch) (y / stretch) (omega arith))
        ∙ ap (λ (v : ℕ). bit_at v (y / stretch)) (sym w)
        ∙ bit_none word (y / stretch) j l m

    pub next_none : word ≡ 0 → NextByStretch stretches x 1
    next_none z =
        record { above = omega arith; below = omega arith; between = λ y a b. unset y 0 b (omega arith) (omega arith) }

    pub next_found : (h : ℕ) → 2 ^ h ≤ word → word < 2 * 2 ^ h → NextByStretch stretches x (stretch * h + 63)
    next_found h low high =
        record {
          above = omega arith;
          below = near (dec_lt h (x / stretch));
          between = λ y a b. unset y (suc h) b (omega arith) (omega arith);
        }
      where
        near : Dec (h < x / stretch) → stretch * h + 63 < x
        near (yes l) = omega arith
        near (no l) =
            absurd
            (omega (
              arith,
              low,
              w,
              mod-lt stretches (pow_pos (x / stretch)),
              pow-le-pow_right {n = 2} (omega arith) {i = x / stretch} {j = h} (omega arith),
            ))
