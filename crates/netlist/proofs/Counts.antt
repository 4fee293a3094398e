-- Laws of counts by kind: the loop that counts, one kind as a range of one, and the gates as a range.
use Prim.Native.Nat.{ℕ, ◌+◌, ◌^◌, ◌<◌, ◌≤◌}
use native.Mathlib.Numerals.{add-one}
use native.Mathlib.Omega.{arith}
use mathlib.Core.Path.{◌≡◌, refl, ◌∙◌, ap}
use mathlib.Core.Bool.{Bool, true, false}
use lib.Dec.{leb, eqb}
use borrow.Author.Tests.{leb-true, le-leb, eqb-true, eqb-false}
use Rattle.std.specs.Int.{from_bool}
use Rattle.facts.specs.Sums.{sum, count}
use Rattle.facts.proofs.Bools.{and_l, and_r, not-true}
use Rattle.facts.proofs.Chains.{one_bit}
use Rattle.facts.proofs.Sums.{bit_le, count_cong}
use Rattle.netlist.specs.Kinds.{and, majority, among}
use Rattle.netlist.specs.Records.{Netlist}
use Rattle.netlist.specs.Counts.{count_kind, count_of, gates}

-- the records of the kinds first to last below i are counted
pub record KindCounting (m : Netlist) (first last n total i : ℕ) : Type 0 where
  pub within : i ≤ n
  pub few : total ≤ i
  pub so_far : total ≡ count (λ k. among first last (m.at k).kind) i

module _ (m : Netlist) (first last n : ℕ) where
  pub counting_start : KindCounting m first last n 0 0
  unfolding count sum
  counting_start = record { within = omega arith; few = omega arith; so_far = refl }

  module _ (total i one x : ℕ) (b : Bool) (c : KindCounting m first last n total i) (h : i < n) (g : one ≡ from_bool b) where
    pub counting_more : x ≡ (m.at i).kind → b ≡ among first last x → KindCounting m first last n (total + one) (i + 1)
    unfolding count sum
    counting_more e f =
        record {
          within = omega arith;
          few = omega (arith, c.few, one_bit b, bit_le b);
          so_far = rw (add-one i, ← e, ← f) (omega (arith, c.so_far, one_bit b));
        }

    pub counting_fits : n < 2 ^ 64 → total + one < 2 ^ 64
    counting_fits l = omega (arith, c.few, one_bit b, bit_le b)

  pub counting_end : (total i : ℕ) → KindCounting m first last n total i → n ≤ i → n ≡ m.size → total ≡ count_kind m (among first last)
  counting_end total i c h q =
      let e : i ≡ m.size = omega (arith, c.within) in
      c.so_far ∙ ap (count (λ k. among first last (m.at k).kind)) e

among_one : (a k : ℕ) → among a a k ≡ eqb k a
among_one a k = go (eqb k a) refl
  where
    go : (b : Bool) → eqb k a ≡ b → among a a k ≡ b
    go true e = let h : k ≡ a = eqb-true k a e in rw (le-leb a k (omega arith), le-leb k a (omega arith))
    go false e =
        not-true (among a a k) (λ t. eqb-false k a e (omega (arith, leb-true a k (and_l (leb a k) (leb k a) t), leb-true k a (and_r (leb a k) (leb k a) t))))

pub one_kind : (m : Netlist) (kind x : ℕ) → x ≡ count_kind m (among kind kind) → x ≡ count_of m kind
one_kind m kind x e = e ∙ count_cong _ _ m.size (λ i l. among_one kind (m.at i).kind)

pub gates_counted : (m : Netlist) (x : ℕ) → x ≡ count_kind m (among and majority) → x ≡ gates m
unfolding gates
gates_counted m x e = e
