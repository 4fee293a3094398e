-- Of a source that is ready, each used slot of the mapped netlist is a node of a tree and hangs on its parent:
-- named, balanced, no output, traced, kept.
use Prim.Native.Nat.{ℕ, zero, suc, ◌+◌, ◌-◌, ◌≤◌, ◌<◌, ◌/◌}
use mathlib.Core.Path.{◌≡◌, refl, ◌∙◌, ap, subst, subst⁻¹}
use mathlib.Core.Logic.{◌≢◌}
use mathlib.Core.Bool.{true, cond}
use native.Mathlib.Omega.{arith}
use native.Mathlib.Decide.{dec_lt}
use lib.ListN.{drop}
use lib.Seq.{get_or-drop}
use borrow.Author.Tests.{lt-ltb, le-ltb, ltb-true, eq-eqb, eqb-true}
use Rattle.facts.proofs.Bools.{and_l, and_r, and_i}
use Rattle.facts.proofs.Sums.{count₂_none}
use Rattle.facts.proofs.Lists.{get_or_replicated, get_d_tabulate}
use Rattle.netlist.specs.declared.Capacities.{Capacities}
use Rattle.netlist.specs.declared.Record.{Record}
use Rattle.netlist.specs.Kinds.{slots, unused, top_level, output, buffer, arity, is_driver}
use Rattle.netlist.specs.Records.{Netlist, slot, used, fanin, names}
use Rattle.netlist.proofs.Checks.{arity_slots}
use Rattle.fanout.specs.Nets.{row, sinks, sink_at, up, nodes_at}
use Rattle.fanout.proofs.Nets.{div_up, up_zero, nodes_at_lem, nodes_none, row_at_lem}
use Rattle.mapper.specs.Mapped.{buffers_of, mapped_size, place, parent, buffer_record, distance, sink_number, sink_parent, rewired, mapped_at}
use Rattle.mapper.specs.PrivateWriting.{Ready}
use Rattle.fanout.proofs.Rows.{row_none, no_sinks}
use Rattle.mapper.proofs.Blocks.{rank_below}
use Rattle.mapper.proofs.Mapped.{at_source, at_place, place_inside, Placed, placed}

-- what a sink is
pub record IsSink (n : Netlist) (d k i j : ℕ) : Type 0 where
  pub in_use : j < arity (n.at i).kind
  pub driver : fanin n i j ≡ d
  pub level : (n.at i).level ≡ (n.at d).level + k

pub sink_facts : (n : Netlist) (d k i j : ℕ) → sink_at n d k i j ≡ true → IsSink n d k i j
sink_facts n d k i j e =
    record {
      in_use = ltb-true j _ (and_l (used n i j) _ (and_l (names n d i j) _ e));
      driver = eqb-true _ d (and_r (used n i j) _ (and_l (names n d i j) _ e));
      level = eqb-true _ _ (and_r (names n d i j) _ e);
    }

pub is_sink : (n : Netlist) (d k i j : ℕ) → IsSink n d k i j → sink_at n d k i j ≡ true
is_sink n d k i j h =
    and_i (names n d i j) _ (and_i (used n i j) _ (lt-ltb j _ h.in_use) (eq-eqb _ d h.driver)) (eq-eqb _ _ h.level)

module _ (n : Netlist) (caps : Capacities) (r : Ready n caps) where
  pub pos : 0 < caps.buffer
  pos = omega (arith, r.allowed.low)

  -- the nodes at a distance: its buffers and its sinks
  pub nodes_split : (d k : ℕ) → 1 ≤ k → k ≤ top_level → nodes_at caps.buffer (row n d) k ≡ buffers_of n caps d k + sinks n d k
  unfolding buffers_of
  nodes_split d zero a l = absurd (omega arith)
  nodes_split d (suc k) a l = omega (arith, nodes_at_lem caps.buffer (row n d) (suc k) pos, row_at_lem n d (suc k) l)

  -- a node of d's tree at distance k
  pub record IsNode (d k q : ℕ) : Type 0 where
    pub driver : d < n.size
    pub above : 1 ≤ k
    pub near : k ≤ top_level
    pub number : q < nodes_at caps.buffer (row n d) k

  -- node q at a distance from 2 on hangs on a buffer
  pub hangs : (d k q : ℕ) → IsNode d (suc (suc k)) q → q / caps.buffer < buffers_of n caps d (suc k)
  unfolding buffers_of
  hangs d k q h = div_up caps.buffer q _ pos h.number

  -- a parent is a record of the netlist, one level nearer, and no output unless the driver is one
  pub parent_is : (d k q : ℕ) → IsNode d k q →
      (parent n caps d k q < mapped_size n caps)
      × (((n.at d).level + k ≡ suc (mapped_at n caps (parent n caps d k q)).level)
      × ((n.at d).kind ≢ output → (mapped_at n caps (parent n caps d k q)).kind ≢ output))
  unfolding parent rewired buffer_record
  parent_is d zero q h = absurd (omega (arith, h.above))
  parent_is d (suc zero) q h = rw (at_source n caps pos d h.driver) (omega (arith, h.driver))
  parent_is d (suc (suc k)) q h =
      let near : suc k ≤ top_level = omega (arith, h.near) in
      rw (at_place n caps pos d (suc k) (q / caps.buffer) h.driver near (hangs d k q h))
      (omega (arith, place_inside n caps pos d (suc k) (q / caps.buffer) h.driver near (hangs d k q h)))

  -- whatever holds of the driver, and of a buffer where it holds of the buffer's fanin, holds of every parent in its tree
  pub parent_traced : (P : ℕ → Type 0) (d k q : ℕ) → IsNode d k q → P d →
      ((x : ℕ) → (mapped_at n caps x).kind ≡ buffer → P (slot (mapped_at n caps x) 0) → P x) → P (parent n caps d k q)
  unfolding parent buffer_record
  parent_traced P d zero q h p back = p
  parent_traced P d (suc zero) q h p back = p
  parent_traced P d (suc (suc k)) q h p back =
      back (place n caps d (suc k) (q / caps.buffer)) (ap (λ (x : Record). x.kind) e)
      (subst⁻¹ P (ap (λ (x : Record). slot x 0) e) (parent_traced P d (suc k) (q / caps.buffer) inner p back))
    where
      e : mapped_at n caps (place n caps d (suc k) (q / caps.buffer)) ≡ buffer_record n caps d (suc k) (q / caps.buffer)
      e = at_place n caps pos d (suc k) (q / caps.buffer) h.driver (omega (arith, h.near)) (hangs d k q h)

      inner : IsNode d (suc k) (q / caps.buffer)
      inner = omega (arith, nodes_split d (suc k) (omega arith) (omega (arith, h.near)), hangs d k q h)

  -- a buffer is a node of its tree
  pub buffer_node : (d k j : ℕ) → d < n.size → k ≤ top_level → j < buffers_of n caps d k → IsNode d k j
  unfolding buffers_of
  buffer_node d zero j ld l b = absurd (omega arith)
  buffer_node d (suc k) j ld l b = omega (arith, nodes_split d (suc k) (omega arith) l)

  -- without sinks from a distance on there are no buffers
  none_from : (d k : ℕ) → ((x : ℕ) → k ≤ x → sinks n d x ≡ 0) → buffers_of n caps d k ≡ 0
  unfolding buffers_of
  none_from d zero z = refl
  none_from d (suc k) z =
      ap (up caps.buffer)
      (nodes_none caps.buffer (drop (suc (suc k)) (row n d)) pos
      (λ x. get_or-drop (suc (suc k)) (row n d) x 0 ∙ row_none n d _ (z (suc (suc k) + x) (omega arith))))
      ∙ up_zero caps.buffer pos

  -- an output has no buffer
  pub buffer_drives : (d k j : ℕ) → j < buffers_of n caps d k → (n.at d).kind ≢ output
  buffer_drives d k j b e = omega (arith, none_from d k (λ x l. no_sinks n d r.source (ap is_driver e) x))

  -- no sink stands above the top level
  sinks_far : (d x : ℕ) → top_level < (n.at d).level + x → sinks n d x ≡ 0
  unfolding sinks
  sinks_far d x l =
      count₂_none (sink_at n d x) slots n.size
      (λ i j a b t. omega (arith, (sink_facts n d x i j t).level, r.source.levels i a))

  -- a buffer stands on a level: some sink stands further on
  pub buffer_level : (d k j : ℕ) → j < buffers_of n caps d k → (n.at d).level + k ≤ top_level
  buffer_level d k j b =
      elim (dec_lt top_level ((n.at d).level + k)) [
        | yes h ↦ absurd (omega (arith, none_from d k (λ x l. sinks_far d x (omega arith))))
        | no h ↦ omega arith
      ]

  -- a used slot of the mapped netlist and the node that it is
  pub record SlotNode (i j : ℕ) : Type 0 where
    pub d : ℕ
    pub k : ℕ
    pub q : ℕ
    pub node : IsNode d k q
    pub drives : (n.at d).kind ≢ output
    pub level : (mapped_at n caps i).level ≡ (n.at d).level + k
    pub fanin : slot (mapped_at n caps i) j ≡ parent n caps d k q

  -- a source's used slot is a sink of its fanin, at its distance
  pub source_sink : (i j : ℕ) → i < n.size → j < arity (n.at i).kind → IsSink n (fanin n i j) (distance n i j) i j
  source_sink i j l b =
      record { in_use = b; driver = refl; level = omega (arith, r.source.lower i j l b) }

  pub source_node : (i j : ℕ) → i < n.size → j < arity (n.at i).kind → IsNode (fanin n i j) (distance n i j) (sink_number n caps i j)
  unfolding sink_number sinks
  source_node i j l b =
      omega (
        arith,
        r.source.earlier i j l b,
        r.source.lower i j l b,
        r.source.levels i l,
        nodes_split (fanin n i j) (distance n i j) (omega (arith, r.source.lower i j l b)) (omega (arith, r.source.levels i l)),
        rank_below (sink_at n (fanin n i j) (distance n i j)) i j n.size l (omega (arith, arity_slots (n.at i).kind)) (is_sink n _ _ i j (source_sink i j l b)),
      )

  -- the slots of a source's record in the mapped netlist
  slot_at : (i j : ℕ) → i < n.size → j < slots →
      slot (mapped_at n caps i) j ≡ cond (used n i j) (sink_parent n caps i j) (fanin n i j)
  unfolding rewired
  slot_at i j l b = rw (at_source n caps pos i l) (get_d_tabulate (λ j. cond (used n i j) (sink_parent n caps i j) (fanin n i j)) slots j unused b)

  pub slot_used : (i j : ℕ) → i < n.size → j < arity (n.at i).kind → slot (mapped_at n caps i) j ≡ sink_parent n caps i j
  slot_used i j l b = rw (slot_at i j l (omega (arith, arity_slots (n.at i).kind)), lt-ltb j (arity (n.at i).kind) b) refl

  pub slot_kept : (i j : ℕ) → i < n.size → arity (n.at i).kind ≤ j → j < slots → slot (mapped_at n caps i) j ≡ fanin n i j
  slot_kept i j l a b = rw (slot_at i j l b, le-ltb j (arity (n.at i).kind) a) refl

  -- outside its used slots a source's record is kept
  pub kind_kept : (i : ℕ) → i < n.size → (mapped_at n caps i).kind ≡ (n.at i).kind
  unfolding rewired
  kind_kept i l = rw (at_source n caps pos i l) refl

  pub inversion_kept : (i : ℕ) → i < n.size → (mapped_at n caps i).inversion ≡ (n.at i).inversion
  unfolding rewired
  inversion_kept i l = rw (at_source n caps pos i l) refl

  pub level_kept : (i : ℕ) → i < n.size → (mapped_at n caps i).level ≡ (n.at i).level
  unfolding rewired
  level_kept i l = rw (at_source n caps pos i l) refl

  -- a record that has a place is the buffer of that place
  pub at_placed : (i : ℕ) (p : Placed n caps pos i) → mapped_at n caps i ≡ buffer_record n caps p.d p.k p.j
  at_placed i p = ap (mapped_at n caps) p.index ∙ at_place n caps pos p.d p.k p.j p.driver p.near p.number

  -- every used slot of the mapped netlist is a node
  pub slot_node : (i j : ℕ) → i < mapped_size n caps → j < arity (mapped_at n caps i).kind → SlotNode i j
  unfolding buffer_record
  slot_node i j l b = elim (dec_lt i n.size) [ yes h ↦ below h | no h ↦ from (placed n caps pos i (omega arith) l) ]
    where
      below : i < n.size → SlotNode i j
      below h =
          let u : j < arity (n.at i).kind = subst (λ (k : ℕ). j < arity k) (kind_kept i h) b in
          record {
            d = fanin n i j;
            k = distance n i j;
            q = sink_number n caps i j;
            node = source_node i j h u;
            drives = r.source.no_output i j h u;
            level = level_kept i h ∙ (source_sink i j h u).level;
            fanin = slot_used i j h u;
          }

      first : (x : Record) → mapped_at n caps i ≡ x → x.kind ≡ buffer → j ≡ 0
      first x e f = omega (arith, subst (λ (k : ℕ). j < arity k) (ap (λ (x : Record). x.kind) e ∙ f) b)

      from : Placed n caps pos i → SlotNode i j
      from p =
          let e = at_placed i p in
          record {
            d = p.d;
            k = p.k;
            q = p.j;
            node = buffer_node p.d p.k p.j p.driver p.near p.number;
            drives = buffer_drives p.d p.k p.j p.number;
            level = ap (λ (x : Record). x.level) e;
            fanin = ap (λ (x : Record). slot x j) e ∙ ap (slot (buffer_record n caps p.d p.k p.j)) (first _ e refl);
          }

  -- every used slot names a record of the netlist, no output, exactly one level lower
  module _ (i j : ℕ) (l : i < mapped_size n caps) (b : j < arity (mapped_at n caps i).kind) where
    hung : SlotNode i j
    hung = slot_node i j l b

    pub named : slot (mapped_at n caps i) j < mapped_size n caps
    named = rw hung.fanin (parent_is _ _ _ hung.node).0

    pub no_output_lem : (mapped_at n caps (slot (mapped_at n caps i) j)).kind ≢ output
    no_output_lem = rw hung.fanin ((parent_is _ _ _ hung.node).1.1 hung.drives)

    pub balanced : (mapped_at n caps i).level ≡ suc (mapped_at n caps (slot (mapped_at n caps i) j)).level
    balanced = rw hung.fanin (hung.level ∙ (parent_is _ _ _ hung.node).1.0)

  -- each slot of a source's record, traced back through buffers, ends at the fanin that the source names
  pub traced : (P : ℕ → Type 0) (i j : ℕ) → i < n.size → j < arity (n.at i).kind → P (fanin n i j) →
      ((x : ℕ) → (mapped_at n caps x).kind ≡ buffer → P (slot (mapped_at n caps x) 0) → P x) → P (slot (mapped_at n caps i) j)
  traced P i j l b p back =
      rw (slot_used i j l b) (parent_traced P _ _ _ (source_node i j l b) p back)

  -- from N on stand buffers
  pub buffer_kind : (i : ℕ) → n.size ≤ i → i < mapped_size n caps → (mapped_at n caps i).kind ≡ buffer
  unfolding buffer_record
  buffer_kind i a l = rw (at_placed i (placed n caps pos i a l)) refl

  pub buffer_inversion : (i : ℕ) → n.size ≤ i → i < mapped_size n caps → (mapped_at n caps i).inversion ≡ 0
  unfolding buffer_record
  buffer_inversion i a l = rw (at_placed i (placed n caps pos i a l)) refl

  pub buffer_low : (i : ℕ) → n.size ≤ i → i < mapped_size n caps → (mapped_at n caps i).level ≤ top_level
  unfolding buffer_record
  buffer_low i a l =
      let p = placed n caps pos i a l in
      rw (at_placed i p) (buffer_level p.d p.k p.j p.number)

  pub buffer_empty : (i j : ℕ) → n.size ≤ i → i < mapped_size n caps → arity buffer ≤ j → slot (mapped_at n caps i) j ≡ unused
  unfolding buffer_record
  buffer_empty i zero a l b = absurd (omega arith)
  buffer_empty i (suc j) a l b = rw (at_placed i (placed n caps pos i a l)) (get_or_replicated (slots - 1) j unused)
