-- Laws of the walk down a row in place: from distance k on the row holds the buffers, or nothing where they are not kept; and that
-- the row of a source's driver can be walked.
use Prim.Native.Nat.{ℕ, zero, suc, ◌+◌, ◌-◌, ◌*◌, ◌≤◌, ◌<◌, ◌/◌, ◌^◌}
use mathlib.Core.Path.{◌≡◌, refl, sym, ◌∙◌, ap, subst}
use mathlib.Core.Bool.{Bool, true, false, cond}
use mathlib.Core.List.{List, [], ◌∷◌}
use native.Mathlib.Omega.{arith}
use native.Mathlib.Nat.{mul-le-mul_right, mul-suc}
use native.Mathlib.Decide.{dec_lt, ℕ_discrete}
use mir.Val.{Fits}
use mir.Syntax.{w32}
use lib.ListN.{length, get_or, drop, set, replicate, length-set, length-drop}
use lib.Seq.{get_or-set_same, get_or-set_other, get_or-drop}
use Rattle.facts.proofs.Lists.{zeros}
use Rattle.netlist.specs.Kinds.{top_level}
use Rattle.netlist.specs.Records.{Netlist, netlist}
use Rattle.netlist.specs.Source.{IsSource}
use Rattle.netlist.specs.PrivateInput.{Input}
use Rattle.netlist.specs.declared.Capacities.{Capacities}
use Rattle.netlist.specs.Capacities.{Allowed}
use Rattle.fanout.specs.declared.TreeTotals.{TreeTotals}
use Rattle.fanout.specs.Nets.{sink_limit, row, up, nodes, buffers, nodes_at, buffers_at, fewest}
use Rattle.fanout.specs.declared.Reach.{Reach}
use Rattle.fanout.specs.PrivateStretches.{InStretches, NextDistance}
use Rattle.fanout.specs.PrivateWalk.{node_limit, Filled, Walkable, Walked}
use Rattle.fanout.proofs.Nets.{up_le, up_zero, up_one, nodes_at_lem, nodes_none, buffers_from, buffers_none, row_length}
use Rattle.fanout.proofs.EmptyStretches.{stretches_all}
use Rattle.fanout.proofs.Rows.{row_small, row_apart}

-- at most half of the nodes, rounded up
up_half : (s m : ℕ) → 2 ≤ s → up s m ≤ (m + 1) / 2
up_half s m l = up_le s m ((m + 1) / 2) (omega arith) (omega (arith, mul-le-mul_right {m = 2} {n = s} ((m + 1) / 2) l))

-- entries of at most c give at most 2 c nodes at each distance
nodes_small : (s c : ℕ) (r : List ℕ) → 2 ≤ s → ((k : ℕ) → get_or r k 0 ≤ c) → nodes s r ≤ 2 * c
unfolding nodes
nodes_small s c [] l h = omega arith
nodes_small s c (here ∷ further) l h =
    omega (arith, up_half s (nodes s further) l, nodes_small s c further l (λ k. h (suc k)), h 0)

buffers_small : (s c : ℕ) (r : List ℕ) → 2 ≤ s → ((k : ℕ) → get_or r k 0 ≤ c) → buffers s r ≤ 2 * c * length r
unfolding buffers
buffers_small s c [] l h = omega arith
buffers_small s c (here ∷ further) l h =
    omega (
      arith,
      up_half s (nodes s further) l,
      nodes_small s c further l (λ k. h (suc k)),
      buffers_small s c further l (λ k. h (suc k)),
      mul-suc (2 * c) (length further),
    )

-- the most buffers of a net, far above what is reached
abbrev pub buffer_limit : ℕ
buffer_limit = node_limit * suc top_level

pub fewest_small : (n : Netlist) (s d : ℕ) → IsSource n → 2 ≤ s → fewest s (row n d) ≤ buffer_limit
fewest_small n s d i l =
    omega (
      arith,
      buffers_small s sink_limit (drop 1 (row n d)) l
          (λ k. omega (arith, get_or-drop 1 (row n d) k 0, row_small n d i (1 + k))),
      length-drop 1 (row n d),
      row_length n d,
    )

-- at distance k: its nodes, the buffers from there on, and the row, whose entries are sinks below k, and buffers or nothing from k on
pub record Walking (s : ℕ) (counts : List ℕ) (keep : Bool) (row : List ℕ) (k nodes buffers : ℕ) : Type 0 where
  pub from : 1 ≤ k
  pub to : k ≤ suc top_level
  pub here : nodes ≡ nodes_at s counts k
  pub further : buffers ≡ Rattle.fanout.specs.Nets.buffers s (drop k counts)
  pub size : length row ≡ suc top_level
  pub below : (x : ℕ) → x < k → get_or row x 0 ≡ get_or counts x 0
  pub above : (x : ℕ) → k ≤ x → get_or row x 0 ≡ cond keep (buffers_at s counts x) 0

-- a single node passes distances without sinks: it stays single, with one buffer at each
module _ (s : ℕ) (counts : List ℕ) (pos : 0 < s) where
  passed_by : (to n : ℕ) → nodes_at s counts (to + n) ≡ 1 → ((x : ℕ) → to ≤ x → x < to + n → get_or counts x 0 ≡ 0) →
      (nodes_at s counts to ≡ 1) × (buffers s (drop to counts) ≡ buffers s (drop (to + n) counts) + n)
  passed_by to zero e none = let q : to + 0 ≡ to = omega arith in rw (q) (rw q at e, omega arith)
  passed_by to (suc n) e none =
      let q : to + suc n ≡ suc to + n = omega arith in
      let h = passed_by (suc to) n (rw q at e) (λ x l b. none x (omega arith) (omega arith)) in
      let one : buffers_at s counts to ≡ 1 = ap (up s) h.0 ∙ up_one s pos in
      rw q (
        omega (arith, nodes_at_lem s counts to pos, one, none to (omega arith) (omega arith)),
        omega (arith, buffers_from s counts to pos, one, h.1),
      )

module _ (s : ℕ) (counts : List ℕ) (reach : Reach) (w : Walkable s counts reach) where
  pos : 0 < s
  pos = omega (arith, w.low)

  none : (k x : ℕ) → reach.far < k → get_or (drop k counts) x 0 ≡ 0
  none k x l = get_or-drop k counts x 0 ∙ w.beyond (k + x) (omega arith)

  -- beyond the largest distance nothing is left
  left_none : (keep : Bool) (x : ℕ) → reach.far < x → cond keep (buffers_at s counts x) 0 ≡ 0
  left_none true x l = ap (up s) (nodes_none s (drop (suc x) counts) pos (λ y. none (suc x) y (omega arith))) ∙ up_zero s pos
  left_none false x l = refl

  pub walk_start : (keep : Bool) → Walking s counts keep counts (reach.far + 1) 0 0
  walk_start keep =
      record {
        from = omega arith;
        to = omega (arith, w.near);
        here = sym (nodes_none s (drop (reach.far + 1) counts) pos (λ x. none (reach.far + 1) x (omega arith)));
        further = sym (buffers_none s (drop (reach.far + 1) counts) pos (λ x. none (reach.far + 1) x (omega arith)));
        size = w.size;
        below = λ x l. refl;
        above = λ x l. w.beyond x (omega arith) ∙ sym (left_none keep x (omega arith));
      }

  small_from : (k x : ℕ) → get_or (drop k counts) x 0 ≤ sink_limit
  small_from k x = omega (arith, get_or-drop k counts x 0, w.small (k + x))

  module _ (keep : Bool) (row : List ℕ) (k nodes buffers : ℕ) (h : Walking s counts keep row k nodes buffers) where
    pub walk_few : nodes ≤ node_limit
    walk_few = omega (arith, h.here, nodes_small s sink_limit (drop k counts) w.low (small_from k))

    -- on the way to distance to, with b buffers there
    module _ (to : ℕ) (t : NextDistance row keep nodes k to) where
      pub walk_room : to < suc top_level
      walk_room = omega (arith, h.to, t.next.below)

      between : (x : ℕ) → to < x → x < k → get_or counts x 0 ≡ 0
      between x a b = sym (h.below x b) ∙ t.next.between x a b

      -- the nodes one level further on, and the buffers from there on
      before : (nodes_at s counts (suc to) ≡ nodes)
          × (Rattle.fanout.specs.Nets.buffers s (drop (suc to) counts) ≡ buffers + (k - 1 - to))
      before =
          elim (dec_lt (suc to) k) [
            | yes l ↦
                let e : suc to + (k - suc to) ≡ k = omega arith in
                let q =
                passed_by s counts pos (suc to) (k - suc to) (rw e (sym h.here ∙ t.single l))
                (λ x a b. between x (omega arith) (omega arith)) in
                (omega (arith, q.0, t.single l), omega (arith, q.1, ap (λ (k : ℕ). Rattle.fanout.specs.Nets.buffers s (drop k counts)) e, h.further))
            | no l ↦
                let e : k ≡ suc to = omega (arith, t.next.below) in (
                  sym (h.here ∙ ap (nodes_at s counts) e),
                  omega (arith, h.further, ap (λ (k : ℕ). Rattle.fanout.specs.Nets.buffers s (drop k counts)) e),
                )
          ]

      module _ (b : ℕ) (e : b ≡ up s nodes) where
        carried : b ≡ buffers_at s counts to
        carried = e ∙ ap (up s) (sym before.0)

        nodes_here : b + get_or row to 0 ≡ nodes_at s counts to
        nodes_here = omega (arith, carried, h.below to t.next.below, nodes_at_lem s counts to pos)

        all_buffers : buffers + (b + (k - 1 - to)) ≡ Rattle.fanout.specs.Nets.buffers s (drop to counts)
        all_buffers = omega (arith, carried, before.1, buffers_from s counts to pos)

        few_buffers : buffers + (b + (k - 1 - to)) ≤ buffer_limit
        few_buffers =
            omega (
              arith,
              all_buffers,
              buffers_small s sink_limit (drop to counts) w.low (small_from to),
              length-drop to counts,
              w.size,
            )

        pub walk_buffers : Fits w32 (buffers + (b + (k - 1 - to)))
        walk_buffers = omega (arith, few_buffers)

        pub walk_nodes : Fits w32 (b + get_or row to 0)
        walk_nodes = omega (arith, nodes_here, nodes_small s sink_limit (drop to counts) w.low (small_from to))

        pub walk_more : (v : ℕ) → v ≡ cond keep b 0 →
            Walking s counts keep (set row to v) to (b + get_or row to 0) (buffers + (b + (k - 1 - to)))
        walk_more v q =
            record {
              from = t.next.above;
              to = omega (arith, h.to, t.next.below);
              here = nodes_here;
              further = all_buffers;
              size = length-set row to v ∙ h.size;
              below = λ x m. get_or-set_other row to x v 0 (λ g. omega arith) ∙ h.below x (omega (arith, t.next.below));
              above = λ x m. at x m (ℕ_discrete x to);
            }
          where
            at : (x : ℕ) → to ≤ x → Dec (x ≡ to) → get_or (set row to v) x 0 ≡ cond keep (buffers_at s counts x) 0
            at x m (yes g) =
                rw g (get_or-set_same row to v 0 (omega (arith, walk_room, h.size)) ∙ q ∙ ap (λ (c : ℕ). cond keep c 0) carried)
            at x m (no g) =
                get_or-set_other row to x v 0 g
                ∙ elim (dec_lt x k) [
                  | yes l ↦
                      h.below x l
                      ∙ between x (omega arith) l
                      ∙ sym (ap (λ (b : Bool). cond b (buffers_at s counts x) 0) (t.unkept (omega arith)))
                  | no l ↦ h.above x (omega arith)
                ]

-- a row whose buffers are not kept is all zero after the walk
pub walked_clear : (s : ℕ) (counts after : List ℕ) (t : TreeTotals) → Walked s counts false after t → after ≡ replicate (suc top_level) 0
walked_clear s counts after t w =
    zeros (suc top_level) after w.size
    (λ x. elim (dec_lt 0 x) [ yes m ↦ w.at x (omega arith) | no m ↦ (let e : x ≡ 0 = omega arith in rw e w.apart) ])

-- the row of a source's driver can be walked
pub walkable : (n : Netlist) (caps : Capacities) (d : ℕ) (counts : List ℕ) (reach : Reach) → IsSource n → Allowed caps →
    Filled n d counts reach.far → InStretches counts (suc top_level) reach.stretches → Walkable caps.buffer counts reach
walkable n caps d counts reach i a f m =
    record {
      low = a.low;
      high = a.high;
      size = ap length f.counted ∙ row_length n d;
      near = f.near;
      apart = ap (λ (r : List ℕ). get_or r 0 0) f.counted ∙ row_apart n d i;
      small = λ k. subst (λ (l : List ℕ). get_or l k 0 ≤ sink_limit) (sym f.counted) (row_small n d i k);
      beyond = f.beyond;
      within = m;
    }

module _ (source : List ℕ) (caps : Capacities) (d far : ℕ) (counts : List ℕ) (f : Filled (netlist source) d counts far) where
  pub input_walkable : Input source caps → Walkable caps.buffer counts (record { far = far; stretches = 2 ^ 64 - 1 })
  input_walkable i =
      walkable (netlist source) caps d counts _ i.is_source.is_source i.allowed f
      (stretches_all counts (ap length f.counted ∙ row_length (netlist source) d))
