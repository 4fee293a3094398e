-- Laws of following the chain of one driver: the sinks below slot p, and where the chain begins, goes on and ends.
use Prim.Native.Nat.{ℕ, suc, ◌+◌, ◌-◌, ◌≤◌, ◌<◌, ◌/◌, ◌%◌}
use mathlib.Core.Path.{◌≡◌, refl, sym, ◌∙◌, ap, subst}
use mathlib.Core.Bool.{true}
use mathlib.Core.List.{List}
use native.Mathlib.Omega.{arith}
use native.Mathlib.Decide.{ℕ_discrete}
use lib.ListN.{get_or}
use lib.Dec.{eqb}
use borrow.Author.Tests.{ltb-true, eq-eqb, ne_eqb, eqb-true}
use Rattle.facts.specs.Sums.{bit}
use Rattle.facts.proofs.Bools.{and_l, and_r}
use Rattle.facts.proofs.Sums.{count_suc, count_none, count_le, count_more, count₂_flat}
use Rattle.netlist.specs.Kinds.{slots, top_level}
use Rattle.netlist.specs.Records.{Netlist}
use Rattle.netlist.specs.Source.{IsSource}
use Rattle.fanout.specs.Nets.{sinks, sink_at}
use Rattle.nets.specs.PrivateChains.{slot_end, used_slot, fanin_slot, names_slot, next_sink, Above, slot_distance, sinks_below, Chained}
use Rattle.nets.proofs.Chains.{next_within, next_names, next_count}

-- all sinks stand below the end
pub sinks_all : (n : Netlist) (d k : ℕ) → sinks_below n d k (slot_end n) ≡ sinks n d k
unfolding sinks_below sinks
sinks_all n d k = sym (count₂_flat (sink_at n d k) slots n.size (omega arith))

-- the way to the next sink passes none
sinks_skip : (n : Netlist) (d k y : ℕ) → sinks_below n d k (next_sink n d y) ≡ sinks_below n d k y
unfolding sinks_below
sinks_skip n d k y =
    next_count n d (λ z. sink_at n d k (z / slots) (z % slots)) y (λ z e. and_l (names_slot n d z) _ e)

sinks_none : (n : Netlist) (d k : ℕ) → sinks_below n d k 0 ≡ 0
unfolding sinks_below
sinks_none n d k = count_none (λ z. sink_at n d k (z / slots) (z % slots)) 0 (λ i l e. omega arith)

pub sinks_below_lem : (n : Netlist) (d k y : ℕ) → sinks_below n d k y ≤ y
unfolding sinks_below
sinks_below_lem n d k y = count_le (λ z. sink_at n d k (z / slots) (z % slots)) y

pub sinks_rise : (n : Netlist) (d k y z : ℕ) → y ≤ z → sinks_below n d k y ≤ sinks_below n d k z
unfolding sinks_below
sinks_rise n d k y z l = count_more (λ x. sink_at n d k (x / slots) (x % slots)) y z l

-- where no slot names d it has no sink
pub sinks_unnamed : (n : Netlist) (d k : ℕ) → slot_end n ≤ next_sink n d 0 → sinks n d k ≡ 0
sinks_unnamed n d k l =
    let e : next_sink n d 0 ≡ slot_end n = omega (arith, next_within n d 0 (omega arith)) in
    sym (sinks_all n d k) ∙ ap (sinks_below n d k) (sym e) ∙ sinks_skip n d k 0 ∙ sinks_none n d k

-- slot p's record stands above the driver that the slot names
pub named_above : (n : Netlist) (d p : ℕ) → IsSource n → p < slot_end n → names_slot n d p ≡ true → (n.at d).level < (n.at (p / slots)).level
named_above n d p i l c =
    omega (
      arith,
      i.lower (p / slots) (p % slots) (omega arith) (ltb-true _ _ (and_l (used_slot n p) _ c)),
      ap (λ (x : ℕ). (n.at x).level) (eqb-true (fanin_slot n p) d (and_r (used_slot n p) _ c)),
    )

-- and is one more sink at its distance a
pub sinks_more : (n : Netlist) (d p a k : ℕ) → names_slot n d p ≡ true → (n.at d).level < (n.at (p / slots)).level → a ≡ slot_distance n d p →
    sinks_below n d k (suc p) ≡ sinks_below n d k p + bit (eqb a k)
unfolding sinks_below slot_distance
sinks_more n d p a k c l e =
    count_suc (λ z. sink_at n d k (z / slots) (z % slots)) p
    ∙ ap (λ (x : ℕ). sinks_below n d k p + x) (here (ℕ_discrete a k))
  where
    here : Dec (a ≡ k) → bit (sink_at n d k (p / slots) (p % slots)) ≡ bit (eqb a k)
    here (yes x) = rw (c, eq-eqb (n.at (p / slots)).level ((n.at d).level + k) (omega arith), eq-eqb a k x) refl
    here (no x) = rw (c, ne_eqb (n.at (p / slots)).level ((n.at d).level + k) (λ y. x (omega arith)), ne_eqb a k x) refl

-- d's chain at slot p: a sink of d, or the end
pub record OnChain (n : Netlist) (d p : ℕ) : Type 0 where
  pub within : p ≤ slot_end n
  pub sink : p < slot_end n → names_slot n d p ≡ true

on_chain : (n : Netlist) (d y p : ℕ) → y ≤ slot_end n → p ≡ next_sink n d y → OnChain n d p
on_chain n d y p l e = subst (OnChain n d) (sym e) record { within = (next_within n d y l).1; sink = next_names n d y l }

module _ (n : Netlist) (first next : List ℕ) (end d : ℕ) (h : Chained n first next d end) where
  -- where d's chain begins: no sink stands below
  module _ (p : ℕ) (l : d < n.size) (e : p ≡ get_or first d 0) where
    pub chain_first : p ≡ next_sink n d 0
    chain_first = e ∙ h.firsts d l

    pub chain_start : OnChain n d p
    chain_start = on_chain n d 0 p (omega arith) chain_first

    pub chain_none : (k : ℕ) → sinks_below n d k p ≡ 0
    chain_none k = ap (sinks_below n d k) chain_first ∙ sinks_skip n d k 0 ∙ sinks_none n d k

  -- where it goes on
  pub chain_linked : (p q : ℕ) → names_slot n d p ≡ true → p < slot_end n → q ≡ get_or next p 0 → q ≡ next_sink n d (suc p)
  chain_linked p q c l e =
      e ∙ h.nexts p l (and_l (used_slot n p) _ c) (omega (arith, named)) ∙ ap (λ (x : ℕ). next_sink n x (suc p)) named
    where
      named : fanin_slot n p ≡ d
      named = eqb-true (fanin_slot n p) d (and_r (used_slot n p) _ c)

  module _ (p : ℕ) (c : OnChain n d p) where
    -- where it ends: all sinks stand below
    pub chain_all : end ≤ p → (k : ℕ) → sinks_below n d k p ≡ sinks n d k
    chain_all l k = let e : p ≡ slot_end n = omega (arith, c.within, h.stop) in ap (sinks_below n d k) e ∙ sinks_all n d k

    -- before the end: slot p is a sink
    module _ (l : p < end) where
      pub chain_inside : p < slot_end n
      chain_inside = omega (arith, h.stop)

      pub chain_names : names_slot n d p ≡ true
      chain_names = c.sink chain_inside

      chain_level : (n.at d).level < (n.at (p / slots)).level
      chain_level = named_above n d p h.source chain_inside chain_names

      pub chain_above : (low : ℕ) → low ≡ (n.at d).level → Above n low p
      chain_above low e = record { higher = omega (arith, chain_level) }

      module _ (a : ℕ) (e : a ≡ slot_distance n d p) where
        pub chain_apart : 1 ≤ a
        unfolding slot_distance
        chain_apart = omega (arith, chain_level)

        pub chain_near : a < suc top_level
        unfolding slot_distance
        chain_near = omega (arith, h.source.levels (p / slots) (omega (arith, chain_inside)))

      pub chain_next : (q : ℕ) → q ≡ get_or next p 0 → q ≡ next_sink n d (suc p)
      chain_next q e = chain_linked p q chain_names chain_inside e

      -- the next slot
      module _ (q : ℕ) (g : q ≡ next_sink n d (suc p)) where
        pub chain_on : OnChain n d q
        chain_on = on_chain n d (suc p) q chain_inside g

        pub chain_less : end - q < end - p
        chain_less = omega (arith, g, next_within n d (suc p) chain_inside, h.stop)

        pub chain_count : (a k : ℕ) → a ≡ slot_distance n d p → sinks_below n d k q ≡ sinks_below n d k p + bit (eqb a k)
        chain_count a k e =
            ap (sinks_below n d k) g ∙ sinks_skip n d k (suc p) ∙ sinks_more n d p a k chain_names chain_level e

-- how far slot p stands above d, whose level is low
pub distance_is : (n : Netlist) (d p low a : ℕ) → low ≡ (n.at d).level → a ≡ (n.at (p / slots)).level - low → a ≡ slot_distance n d p
unfolding slot_distance
distance_is n d p low a e f = omega arith
