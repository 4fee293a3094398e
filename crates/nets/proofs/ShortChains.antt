-- Laws of the first sinks of a driver's chain: none, one, two.
use Prim.Native.Nat.{ℕ, suc, ◌+◌, ◌≤◌, ◌<◌, max, min}
use mathlib.Core.Path.{◌≡◌, refl, sym, ◌∙◌, ap, subst}
use mathlib.Core.List.{List}
use native.Mathlib.Omega.{arith}
use native.Mathlib.Decide.{dec_lt}
use lib.ListN.{get_or}
use lib.Dec.{eqb}
use Rattle.facts.specs.Sums.{bit}
use Rattle.facts.proofs.Sums.{bit_other}
use Rattle.netlist.specs.Kinds.{top_level}
use Rattle.netlist.specs.Records.{Netlist}
use Rattle.fanout.specs.Nets.{sinks}
use Rattle.nets.specs.declared.sinks.Chain.{Chain}
use Rattle.nets.specs.declared.sinks.Chain.TheVariants.{Empty, Short}
use Rattle.nets.specs.PrivateChains.{next_sink, slot_distance, sinks_below, Chained, ShortChain, ChainIs}
use Rattle.nets.proofs.OneChain.{OnChain, chain_start, chain_none, chain_next, chain_all, chain_apart, chain_near, chain_on, chain_count}

-- one sink, at distance a
one_sink : (n : Netlist) (d a : ℕ) → 1 ≤ a → a ≤ top_level → ((k : ℕ) → sinks n d k ≡ bit (eqb a k)) → ShortChain n d a 0
one_sink n d a l m h =
    record { above = l; near = m; no_farther = omega arith; at = λ k b. omega (arith, h k, bit_other 0 k (λ e. omega arith)) }

-- two sinks, at distances a and b
two_sinks : (n : Netlist) (d a b top other : ℕ) → 1 ≤ a → a ≤ top_level → b ≤ top_level → top ≡ max a b → other ≡ min a b →
    ((k : ℕ) → sinks n d k ≡ bit (eqb a k) + bit (eqb b k)) → ShortChain n d top other
two_sinks n d a b top other l m m' e f h =
    record { above = omega arith; near = omega arith; no_farther = omega arith; at = λ k c. h k ∙ either k (dec_lt a b) }
  where
    either : (k : ℕ) → Dec (a < b) → bit (eqb a k) + bit (eqb b k) ≡ bit (eqb top k) + bit (eqb other k)
    either k (yes c) = let x : top ≡ b = omega arith in let y : other ≡ a = omega arith in rw (x, y) (omega arith)
    either k (no c) = let x : top ≡ a = omega arith in let y : other ≡ b = omega arith in rw (x, y) refl

-- the first sinks of d's chain, from slot p on
module _ (n : Netlist) (first next : List ℕ) (end d p : ℕ) (h : Chained n first next d end) (ld : d < n.size) (e : p ≡ get_or first d 0) where
  on : OnChain n d p
  on = chain_start n first next end d h p ld e

  none_before : (k : ℕ) → sinks_below n d k p ≡ 0
  none_before = chain_none n first next end d h p ld e

  pub chain_empty : end ≤ p → ChainIs n d Empty
  unfolding ChainIs
  chain_empty l k = sym (chain_all n first next end d h p on l k) ∙ none_before k

  module _ (l : p < end) (q : ℕ) (g : q ≡ get_or next p 0) (a : ℕ) (f : a ≡ slot_distance n d p) where
    q_is : q ≡ next_sink n d (suc p)
    q_is = chain_next n first next end d h p on l q g

    q_on : OnChain n d q
    q_on = chain_on n first next end d h p on l q q_is

    apart : 1 ≤ a
    apart = chain_apart n first next end d h p on l a f

    near : a ≤ top_level
    near = omega (arith, chain_near n first next end d h p on l a f)

    one_before : (k : ℕ) → sinks_below n d k q ≡ bit (eqb a k)
    one_before k = omega (arith, chain_count n first next end d h p on l q q_is a k f, none_before k)

    pub chain_one : end ≤ q → ChainIs n d (Short a 0)
    unfolding ChainIs
    chain_one m = one_sink n d a apart near (λ k. sym (chain_all n first next end d h q q_on m k) ∙ one_before k)

    pub chain_two : (b o top other : ℕ) → q < end → b ≡ slot_distance n d q → o ≡ get_or next q 0 → end ≤ o →
        top ≡ max a b → other ≡ min a b → ChainIs n d (Short top other)
    unfolding ChainIs
    chain_two b o top other m i j r t u =
        two_sinks n d a b top other apart near (omega (arith, chain_near n first next end d h q q_on m b i)) t u
        (λ k.
        sym (chain_all n first next end d h o (chain_on n first next end d h q q_on m o o_is) r k)
        ∙ chain_count n first next end d h q q_on m o o_is b k i
        ∙ ap (λ (z : ℕ). z + bit (eqb b k)) (one_before k))
      where
        o_is : o ≡ next_sink n d (suc q)
        o_is = chain_next n first next end d h q q_on m o j

-- what is known of d's sinks, by case
pub no_sink : (n : Netlist) (d : ℕ) (f : Chain) → ChainIs n d f → f ≡ Empty → (k : ℕ) → sinks n d k ≡ 0
unfolding ChainIs
no_sink n d f h e = subst (ChainIs n d) e h

pub few_sinks : (n : Netlist) (d : ℕ) (f : Chain) (top other : ℕ) → ChainIs n d f → f ≡ Short top other → ShortChain n d top other
unfolding ChainIs
few_sinks n d f top other h e = subst (ChainIs n d) e h
