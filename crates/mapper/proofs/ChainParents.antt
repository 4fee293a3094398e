-- Laws of going along the chain of one driver and giving each of its sinks a parent: those below slot p have theirs.
use Prim.Native.Nat.{ℕ, suc, ◌+◌, ◌-◌, ◌≤◌, ◌<◌}
use mathlib.Core.Path.{◌≡◌, refl, sym, ◌∙◌, ap}
use mathlib.Core.Bool.{true, false}
use mathlib.Core.List.{List}
use native.Mathlib.Omega.{arith}
use native.Mathlib.Decide.{dec_lt, ℕ_discrete}
use lib.ListN.{length, get_or, set, length-set}
use lib.Seq.{get_or-set_same, get_or-set_other}
use borrow.Author.Tests.{eq-eqb, ne_eqb}
use Rattle.facts.proofs.Bools.{and_i, true_false}
use Rattle.netlist.specs.declared.Capacities.{Capacities}
use Rattle.netlist.specs.Records.{Netlist}
use Rattle.nets.specs.PrivateChains.{slot_end, used_slot, fanin_slot, names_slot, next_sink, slot_distance, Chained}
use Rattle.mapper.specs.PrivateWriting.{ParentsSet, ParentsWritten, on_parent, line_parent, on_line}
use Rattle.nets.proofs.Chains.{next_within, next_none}
use Rattle.nets.proofs.OneChain.{OnChain, chain_first, chain_start, chain_linked, chain_inside, chain_names, chain_on, chain_less}

-- d's sinks below slot p hold what f says; from p on d's chain stands
pub record ParentsSoFar (n : Netlist) (d : ℕ) (f : ℕ → ℕ) (before : List ℕ) (p : ℕ) (after : List ℕ) : Type 0 where
  pub chain : OnChain n d p
  pub size : length after ≡ length before
  pub below : (y : ℕ) → y < p → y < slot_end n → names_slot n d y ≡ true → get_or after y 0 ≡ f y
  pub above : (y : ℕ) → p ≤ y → y < slot_end n → names_slot n d y ≡ true → get_or after y 0 ≡ next_sink n d (suc y)
  pub others : (y : ℕ) → names_slot n d y ≡ false → get_or after y 0 ≡ get_or before y 0

module _ (n : Netlist) (first before : List ℕ) (end d : ℕ) (h : Chained n first before d end) (f : ℕ → ℕ) where
  pub parents_start : (p : ℕ) → d < n.size → p ≡ get_or first d 0 → ParentsSoFar n d f before p before
  parents_start p l e =
      record {
        chain = chain_start n first before end d h p l e;
        size = refl;
        below = λ y a b c. absurd (next_none n d 0 y (omega arith) (omega (arith, chain_first n first before end d h p l e)) c);
        above = λ y a b c. chain_linked n first before end d h y (get_or before y 0) c b refl;
        others = λ y c. refl;
      }

  module _ (p : ℕ) (after : List ℕ) (t : ParentsSoFar n d f before p after) where
    module _ (l : p < end) where
      inside : p < slot_end n
      inside = chain_inside n first before end d h p t.chain l

      names : names_slot n d p ≡ true
      names = chain_names n first before end d h p t.chain l

      module _ (q : ℕ) (e : q ≡ get_or after p 0) where
        pub parents_next : q ≡ next_sink n d (suc p)
        parents_next = e ∙ t.above p (omega arith) inside names

        pub parents_less : end - q < end - p
        parents_less = chain_less n first before end d h p t.chain l q parents_next

        further : p < q
        further = omega (arith, parents_next, next_within n d (suc p) inside)

        pub parents_more : (v : ℕ) → v ≡ f p → ParentsSoFar n d f before q (set after p v)
        parents_more v g =
            record {
              chain = chain_on n first before end d h p t.chain l q parents_next;
              size = length-set after p v ∙ t.size;
              below = λ y a b c. at y a b c (ℕ_discrete y p);
              above = λ y a b c.
                  get_or-set_other after p y v 0 (λ x. omega (arith, further)) ∙ t.above y (omega (arith, further)) b c;
              others = λ y c.
                  get_or-set_other after p y v 0 (λ x. true_false (names_slot n d p) names (ap (names_slot n d) (sym x) ∙ c))
                  ∙ t.others y c;
            }
          where
            at : (y : ℕ) → y < q → y < slot_end n → names_slot n d y ≡ true → Dec (y ≡ p) → get_or (set after p v) y 0 ≡ f y
            at y a b c (yes x) =
                rw x (get_or-set_same after p v 0 (omega (arith, t.size, h.next_long, h.stop)) ∙ g)
            at y a b c (no x) =
                get_or-set_other after p y v 0 x
                ∙ elim (dec_lt y p) [
                  | yes m ↦ t.below y m b c
                  | no m ↦ absurd (next_none n d (suc p) y (omega arith) (omega (arith, parents_next)) c)
                ]

pub line_parent_is : (n : Netlist) (d start p k v : ℕ) → k ≡ slot_distance n d p → v ≡ line_parent d start k → v ≡ on_line n d start p
unfolding on_line
line_parent_is n d start p k v e f = f ∙ ap (line_parent d start) e

-- once d's sinks hang on their parents, those of all drivers up to d do
pub parents_next_driver : (n : Netlist) (caps : Capacities) (d : ℕ) (first before after : List ℕ) (end : ℕ) →
    ParentsSet n caps first before d end → ParentsWritten n d (on_parent n caps) before after → ParentsSet n caps first after (d + 1) end
parents_next_driver n caps d first before after end h k =
    record {
      chained =
          record {
            source = h.chained.source;
            firsts = h.chained.firsts;
            nexts = λ y a u b. k.others y (apart y u (λ e. omega arith)) ∙ h.chained.nexts y a u (omega arith);
            rest = λ y a u. k.others y (rw u refl) ∙ h.chained.rest y a u;
            first_long = h.chained.first_long;
            next_long = omega (arith, k.size, h.chained.next_long);
            stop = h.chained.stop;
          };
      at = λ y a u b.
          elim (dec_lt (fanin_slot n y) d) [
            | yes m ↦ k.others y (apart y u (λ e. omega arith)) ∙ h.at y a u m
            | no m ↦ k.at y a (and_i (used_slot n y) _ u (eq-eqb (fanin_slot n y) d (omega arith)))
          ];
    }
  where
    apart : (y : ℕ) → used_slot n y ≡ true → (fanin_slot n y ≡ d → ⊥) → names_slot n d y ≡ false
    apart y u b = rw u (ne_eqb (fanin_slot n y) d b)
