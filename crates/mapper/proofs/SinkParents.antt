-- Laws of hanging the sinks of one driver along its chain: those below slot p hang on their parents.
use Prim.Native.Nat.{ℕ, suc, ◌+◌, ◌*◌, ◌≤◌, ◌<◌, ◌/◌, ◌%◌}
use mathlib.Core.Path.{◌≡◌, refl, sym, ◌∙◌, ap, ap₂, subst}
use mathlib.Core.Bool.{Bool, true}
use mathlib.Core.List.{List}
use native.Mathlib.Omega.{arith}
use mir.Val.{Fits}
use mir.Syntax.{w32}
use lib.ListN.{length, get_or, set, length-set}
use borrow.Author.Tests.{ltb-true, eqb-true}
use Rattle.facts.specs.Sums.{count}
use Rattle.facts.proofs.Bools.{and_l, and_r}
use Rattle.facts.proofs.Lists.{added_at}
use Rattle.facts.proofs.Sums.{bit_same, count_append, count_cong, count₂_flat}
use Rattle.netlist.specs.declared.Capacities.{Capacities}
use Rattle.netlist.specs.Kinds.{slots, top_level, arity}
use Rattle.netlist.specs.Records.{Netlist}
use Rattle.fanout.specs.Nets.{sinks, sink_at, tree_size}
use Rattle.mapper.specs.Mapped.{buffers_of, parent, rank, sink_number, sink_parent}
use Rattle.mapper.specs.PrivateWriting.{Ready, behind, on_parent, ParentsDue, NodeCounts}
use Rattle.nets.specs.PrivateChains.{slot_end, used_slot, fanin_slot, names_slot, next_sink, slot_distance, sinks_below}
use Rattle.nets.proofs.OneChain.{sinks_all, sinks_below_lem, sinks_rise, sinks_more, named_above, chain_none, chain_all, chain_inside, chain_names, chain_apart, chain_near, chain_count}
use Rattle.facts.proofs.Blocks.{block_before}
use Rattle.mapper.proofs.Mapped.{tree_sum}
use Rattle.mapper.proofs.Nodes.{pos, IsNode, nodes_split, source_node, parent_is}
use Rattle.mapper.proofs.WriteTree.{parent_from}
use Rattle.mapper.proofs.ChainParents.{ParentsSoFar, parents_start, parents_next, parents_more}

-- a rank by slot number
rank_flat : (f : ℕ → ℕ → Bool) (p : ℕ) → rank f (p / slots) (p % slots) ≡ count (λ z. f (z / slots) (z % slots)) p
unfolding rank
rank_flat f p =
    omega (
      arith,
      count₂_flat f slots (p / slots) (omega arith),
      count_append flat (slots * (p / slots)) (p % slots),
      count_cong (f (p / slots)) (λ y. flat (slots * (p / slots) + y)) (p % slots) (λ y l. sym (ap₂ f (record_of y l) (slot_of y l))),
      ap (count flat) all,
    )
  where
    flat : ℕ → Bool
    flat z = f (z / slots) (z % slots)

    all : slots * (p / slots) + p % slots ≡ p
    all = omega arith

    record_of : (y : ℕ) → y < p % slots → (slots * (p / slots) + y) / slots ≡ p / slots
    record_of y l = omega arith

    slot_of : (y : ℕ) → y < p % slots → (slots * (p / slots) + y) % slots ≡ y
    slot_of y l = omega arith

-- slot p's number where d is the driver that it names
abbrev numbered : Netlist → Capacities → ℕ → ℕ → ℕ
numbered n caps p d = buffers_of n caps d (slot_distance n d p) + rank (sink_at n d (slot_distance n d p)) (p / slots) (p % slots)

abbrev pub flat_numbered : Netlist → Capacities → ℕ → ℕ → ℕ
flat_numbered n caps p d = buffers_of n caps d (slot_distance n d p) + sinks_below n d (slot_distance n d p) p

-- a sink's node and parent
module _ (n : Netlist) (caps : Capacities) (r : Ready n caps) (d p : ℕ) (l : p < slot_end n) (named : names_slot n d p ≡ true) where
  driven : fanin_slot n p ≡ d
  driven = eqb-true (fanin_slot n p) d (and_r (used_slot n p) _ named)

  uses : p % slots < arity (n.at (p / slots)).kind
  uses = ltb-true _ _ (and_l (used_slot n p) _ named)

  -- it is counted among d's sinks at its distance
  pub named_sink : 0 < sinks n d (slot_distance n d p)
  named_sink =
      omega (
        arith,
        sinks_more n d p (slot_distance n d p) (slot_distance n d p) named (named_above n d p r.source l named) refl,
        bit_same (slot_distance n d p) (slot_distance n d p) refl,
        sinks_all n d (slot_distance n d p),
        sinks_rise n d (slot_distance n d p) (suc p) (slot_end n) (omega arith),
      )

  number_flat : numbered n caps p d ≡ flat_numbered n caps p d
  unfolding sinks_below
  number_flat = ap (λ (x : ℕ). buffers_of n caps d (slot_distance n d p) + x) (rank_flat (sink_at n d (slot_distance n d p)) p)

  pub sink_node_lem : IsNode n caps r d (slot_distance n d p) (flat_numbered n caps p d)
  unfolding sink_number slot_distance
  sink_node_lem =
      subst (IsNode n caps r d (slot_distance n d p)) number_flat
      (subst (λ (d : ℕ). IsNode n caps r d (slot_distance n d p) (numbered n caps p d)) driven
      (source_node n caps r (p / slots) (p % slots) (omega arith) uses))

  pub sink_parent_lem : sink_parent n caps (p / slots) (p % slots) ≡ parent n caps d (slot_distance n d p) (flat_numbered n caps p d)
  unfolding sink_number slot_distance
  sink_parent_lem =
      ap (λ (d : ℕ). parent n caps d (slot_distance n d p) (numbered n caps p d)) driven ∙ ap (parent n caps d (slot_distance n d p)) number_flat

-- d's sinks below slot p hang on their parents, and are counted behind the buffers of their distances
pub record SinksSoFar (n : Netlist) (caps : Capacities) (d : ℕ) (before : List ℕ) (p : ℕ) (next counts : List ℕ) : Type 0 where
  pub so_far : ParentsSoFar n d (on_parent n caps) before p next
  pub size : length counts ≡ suc top_level
  pub counted : (k : ℕ) → 1 ≤ k → k ≤ top_level → get_or counts k 0 ≡ buffers_of n caps d k + sinks_below n d k p

module _ (n : Netlist) (caps : Capacities) (d : ℕ) (first before : List ℕ) (end : ℕ) (counts₀ base : List ℕ)
    (h : ParentsDue n caps d first before end counts₀ base) where
  pub sinks_start : (p : ℕ) → p ≡ get_or first d 0 → SinksSoFar n caps d before p before counts₀
  sinks_start p e =
      record {
        so_far = parents_start n first before end d h.parents.chained (on_parent n caps) p h.driver e;
        size = h.buffers.size;
        counted = λ k a b. omega (arith, h.buffers.at k a b, chain_none n first before end d h.parents.chained p h.driver e k);
      }

  module _ (p : ℕ) (next counts : List ℕ) (f : SinksSoFar n caps d before p next counts) where
    module _ (l : p < end) (k : ℕ) (ek : k ≡ slot_distance n d p) where
      inside : p < slot_end n
      inside = chain_inside n first before end d h.parents.chained p f.so_far.chain l

      names : names_slot n d p ≡ true
      names = chain_names n first before end d h.parents.chained p f.so_far.chain l

      near : k < suc top_level
      near = chain_near n first before end d h.parents.chained p f.so_far.chain l k ek

      number_is : get_or counts k 0 ≡ buffers_of n caps d k + sinks_below n d k p
      number_is =
          f.counted k (chain_apart n first before end d h.parents.chained p f.so_far.chain l k ek) (omega (arith, near))

      node : IsNode n caps h.ready d k (get_or counts k 0)
      node = rw (number_is, ek) (sink_node_lem n caps h.ready d p inside names)

      on_base : parent n caps d k (get_or counts k 0) ≡ get_or base k 0 + behind caps.buffer k (get_or counts k 0)
      on_base =
          parent_from n caps d k (get_or counts k 0)
          ∙ ap (λ (x : ℕ). x + behind caps.buffer k (get_or counts k 0)) (sym (h.first_parents.at k node.above (omega (arith, node.number))))

      hangs_on_lem : on_parent n caps p ≡ get_or base k 0 + behind caps.buffer k (get_or counts k 0)
      hangs_on_lem = rw (← on_base, number_is, ek) (sink_parent_lem n caps h.ready d p inside names)

      pub sinks_parent : get_or base k 0 + behind caps.buffer k (get_or counts k 0) < 65536
      sinks_parent = omega (arith, on_base, (parent_is n caps h.ready d k (get_or counts k 0) node).0, h.ready.fits)

      pub sinks_fit : Fits w32 (get_or counts k 0 + 1)
      sinks_fit =
          omega (
            arith,
            number_is,
            sinks_below_lem n d k p,
            inside,
            h.ready.source.few,
            block_before (buffers_of n caps d) k (suc top_level) near,
            tree_sum n caps (pos n caps h.ready) d,
            block_before (tree_size n caps) d n.size h.driver,
            h.ready.fits,
          )

      pub sinks_next : (q t : ℕ) → q ≡ get_or next p 0 → t ≡ get_or base k 0 + behind caps.buffer k (get_or counts k 0) →
          SinksSoFar n caps d before q (set next p t) (set counts k (get_or counts k 0 + 1))
      sinks_next q t e g =
          record {
            so_far =
                parents_more n first before end d h.parents.chained (on_parent n caps) p next f.so_far l q e t (g ∙ sym hangs_on_lem);
            size = length-set counts k _ ∙ f.size;
            counted = λ x a b.
                omega (
                  arith,
                  added_at counts k x (omega (arith, f.size, near)),
                  f.counted x a b,
                  chain_count n first before end d h.parents.chained p f.so_far.chain l q next_is k x ek,
                );
          }
        where
          next_is : q ≡ next_sink n d (suc p)
          next_is = parents_next n first before end d h.parents.chained (on_parent n caps) p next f.so_far l q e

    pub sinks_end : end ≤ p → NodeCounts n caps d counts
    sinks_end l =
        record {
          size = f.size;
          at = λ k a b.
              omega (
                arith,
                f.counted k a b,
                chain_all n first before end d h.parents.chained p f.so_far.chain l k,
                nodes_split n caps h.ready d k a b,
              );
        }
