-- The tree of specification 2.5, in which node q of a distance hangs on buffer q / s one level nearer: it is legal where few nodes are
-- left at distance 1, and has exactly the counted buffers. Buffers are numbered through their distances, one block for each.
use Prim.Native.Nat.{ℕ, zero, suc, ◌+◌, ◌-◌, ◌≤◌, ◌<◌, ◌/◌}
use mathlib.Core.Path.{◌≡◌, refl, sym, ◌∙◌, ap, subst, subst⁻¹}
use mathlib.Core.Bool.{Bool, true, ◌&&◌}
use mathlib.Core.List.{List}
use native.Mathlib.Omega.{arith}
use native.Mathlib.Nat.{le_trans}
use native.Mathlib.Decide.{dec_lt}
use lib.ListN.{length}
use lib.Dec.{eqb}
use borrow.Author.Tests.{eqb-true, eq-eqb}
use Rattle.facts.specs.Sums.{sum, count}
use Rattle.facts.specs.Blocks.{block}
use Rattle.facts.proofs.Bools.{and_l, and_r, and_i}
use Rattle.facts.proofs.Blocks.{block_before, block_at, in_block, count_blocks}
use Rattle.facts.proofs.Sums.{
  sum_single,
  sum_single_le,
  sum_none,
  count_mono,
  count_none,
  count_all,
  count_le,
  count_append,
  count_rank,
  count_div,
  rank_lt,
}
use Rattle.fanout.specs.Nets.{nodes_at, buffers_at}
use Rattle.fanout.specs.Trees.{Net, Tree, Legal, RowOf, sinks_at, buffers_in, node_distance, fed}
use Rattle.fanout.specs.Promises.{Attained}
use Rattle.fanout.proofs.Nets.{div_up, nodes_at_lem, nodes_past, buffers_past, fewest_sum}

module _ (s : ℕ) (net : Net) (r : List ℕ) where
  -- buffers at distance suc k
  abbrev widths : ℕ → ℕ
  widths k = buffers_at s r (suc k)

  -- what node q of distance suc k hangs on: the driver, or buffer q / s one level nearer
  abbrev on : ℕ → ℕ → ℕ
  on zero q = 0
  on (suc k) q = suc (sum widths k + q / s)

  -- buffer b stands at distance suc (ring b)
  abbrev ring : ℕ → ℕ
  ring b = block widths b (length r)

  -- the number of a sink among the nodes of its distance: buffers come first, then sinks in order
  abbrev sink_node : ℕ → ℕ
  sink_node x =
      buffers_at s r (net.distance x) + count (λ z. net.sink z && eqb (net.distance z) (net.distance x)) x

  abbrev built : Tree
  built =
      record {
        buffers = sum widths (length r);
        distance = λ b. suc (ring b);
        buffer_on = λ b. on (ring b) (b - sum widths (ring b));
        sink_on = λ x. on (net.distance x - 1) (sink_node x);
      }

  module _ (pos : 0 < s) (counts : RowOf net r) where
    -- a node's parent is a buffer of the block one level nearer
    parent_in : (k q : ℕ) → q < nodes_at s r (suc (suc k)) → (k < length r) × (q / s < widths k)
    parent_in k q l =
        elim (dec_lt k (length r)) [
          | yes b ↦ (b, div_up s q (nodes_at s r (suc (suc k))) pos l)
          | no g ↦ absurd (omega (arith, nodes_past s r (suc (suc k)) (omega arith)))
        ]

    named : (k q : ℕ) → q < nodes_at s r (suc k) → on k q ≤ built.buffers
    named zero q l = omega arith
    named (suc k) q l =
        let p = parent_in k q l in
        omega (arith, p.1, block_before widths k (length r) p.0)

    balanced : (k q : ℕ) → q < nodes_at s r (suc k) → node_distance built (on k q) ≡ k
    balanced zero q l = refl
    balanced (suc k) q l =
        let p = parent_in k q l in
        ap suc (block_at widths (length r) k (q / s) p.0 p.1)

    buffer_node : (b : ℕ) → b < built.buffers →
        b - sum widths (ring b) < nodes_at s r (suc (ring b))
    buffer_node b l =
        let i = in_block widths b (length r) l in
        omega (arith, i.from, i.before, nodes_at_lem s r (suc (ring b)) pos)

    above : (x : ℕ) → x < net.places → net.sink x ≡ true → net.distance x ≡ suc (net.distance x - 1)
    above x l e = omega (arith, counts.above x l e)

    sink_node_lem : (x : ℕ) → x < net.places → net.sink x ≡ true → sink_node x < nodes_at s r (suc (net.distance x - 1))
    unfolding sinks_at
    sink_node_lem x l e =
        subst (λ (d : ℕ). sink_node x < nodes_at s r d) (above x l e)
        (omega (
          arith,
          nodes_at_lem s r (net.distance x) pos,
          counts.entry (net.distance x),
          rank_lt (λ z. net.sink z && eqb (net.distance z) (net.distance x)) x net.places l
              (and_i (net.sink x) _ e (eq-eqb (net.distance x) (net.distance x) refl)),
        ))

    -- whatever hangs on node y stands at distance suc k and has a number with g
    OnlyAt : ℕ → ℕ → (ℕ → Bool) → Type 0
    OnlyAt y k g = (i q : ℕ) → q < nodes_at s r (suc i) → on i q ≡ y → (i ≡ k) × (g q ≡ true)

    -- then y feeds at most as many as there are such numbers among the nodes there
    buffers_fed : (y k : ℕ) (g : ℕ → Bool) → OnlyAt y k g →
        count (λ b. eqb (built.buffer_on b) y) built.buffers ≤ count g (widths k)
    unfolding OnlyAt
    buffers_fed y k g only =
        omega (
          arith,
          count_blocks (λ i q. eqb (on i q) y) widths (length r),
          sum_single_le (λ i. count (λ q. eqb (on i q) y) (widths i)) k (length r)
              (λ i l other. count_none (λ q. eqb (on i q) y) (widths i) (λ q b e. other (meets i q b e).0)),
          count_mono (λ q. eqb (on k q) y) g (widths k) (λ q b e. (meets k q b e).1),
        )
      where
        meets : (i q : ℕ) → q < widths i → eqb (on i q) y ≡ true → (i ≡ k) × (g q ≡ true)
        meets i q b e = only i q (omega (arith, nodes_at_lem s r (suc i) pos)) (eqb-true (on i q) y e)

    sinks_fed : (y k : ℕ) (g : ℕ → Bool) → OnlyAt y k g →
        count (λ x. net.sink x && eqb (built.sink_on x) y) net.places ≤ count (λ q. g (widths k + q)) (sinks_at net (suc k))
    unfolding OnlyAt sinks_at
    sinks_fed y k g only =
        subst (λ (n : ℕ). count (λ x. net.sink x && eqb (built.sink_on x) y) net.places ≤ n)
        (count_rank (there (suc k)) (λ q. g (widths k + q)) net.places)
        (count_mono _ _ net.places (λ x l e. meets x l (and_l (net.sink x) _ e) (and_r (net.sink x) _ e)))
      where
        there : ℕ → ℕ → Bool
        there k x = net.sink x && eqb (net.distance x) k

        meets : (x : ℕ) → x < net.places → net.sink x ≡ true → eqb (built.sink_on x) y ≡ true →
            (there (suc k) x && g (widths k + count (there (suc k)) x)) ≡ true
        meets x l a e =
            let m = only (net.distance x - 1) (sink_node x) (sink_node_lem x l a) (eqb-true (built.sink_on x) y e) in
            let d : net.distance x ≡ suc k = omega (arith, above x l a, m.0) in
            and_i (there (suc k) x) _ (and_i (net.sink x) _ a (eq-eqb (net.distance x) (suc k) d))
            (subst (λ (d : ℕ). g (buffers_at s r d + count (there d) x) ≡ true) d m.1)

    fed_few : (y k : ℕ) (g : ℕ → Bool) → OnlyAt y k g → fed net built y ≤ count g (nodes_at s r (suc k))
    unfolding fed
    fed_few y k g only =
        subst⁻¹ (λ (n : ℕ). fed net built y ≤ count g n) (nodes_at_lem s r (suc k) pos)
        (rw (counts.entry (suc k))
        (omega (
          arith,
          count_append g (widths k) (sinks_at net (suc k)),
          buffers_fed y k g only,
          sinks_fed y k g only,
        )))

    -- only nodes at distance 1 hang on the driver
    only_driver : OnlyAt 0 0 (λ q. true)
    unfolding OnlyAt
    only_driver zero q l e = (refl, refl)
    only_driver (suc i) q l e = absurd (omega arith)

    -- only nodes one level further on, and s numbers of these, hang on a buffer
    only_buffer : (y : ℕ) → OnlyAt (suc y) (suc (ring y)) (λ q. eqb (q / s) (y - sum widths (ring y)))
    unfolding OnlyAt
    only_buffer y zero q l e = absurd (omega arith)
    only_buffer y (suc i) q l e =
        (ap suc (sym at), eq-eqb (q / s) (y - sum widths (ring y)) (omega (arith, ap (sum widths) at)))
      where
        at : ring y ≡ i
        at =
            let p = parent_in i q l in
            ap ring (let h : y ≡ sum widths i + q / s = omega arith in h)
            ∙ block_at widths (length r) i (q / s) p.0 p.1

    legal : (c : ℕ) → nodes_at s r 1 ≤ c → Legal c s net built
    legal c few =
        record {
          buffer_named = λ b l. named (ring b) _ (buffer_node b l);
          sink_named = λ x l e. named (net.distance x - 1) _ (sink_node_lem x l e);
          buffer_balanced = λ b l. ap suc (sym (balanced (ring b) _ (buffer_node b l)));
          sink_balanced = λ x l e. above x l e ∙ ap suc (sym (balanced (net.distance x - 1) _ (sink_node_lem x l e)));
          driver_branched = omega (arith, fed_few 0 0 (λ q. true) only_driver, count_le (λ q. true) (nodes_at s r 1));
          buffer_branched = λ b l. le_trans (fed_few (suc b) (suc (ring b)) _ (only_buffer b)) (count_div s _ _ pos);
        }

    at_each_lem : (k : ℕ) → 0 < k → buffers_in built k ≡ buffers_at s r k
    unfolding buffers_in
    at_each_lem zero h = absurd (omega arith)
    at_each_lem (suc k) h =
        count_blocks (λ i q. eqb (suc i) (suc k)) widths (length r)
        ∙ elim (dec_lt k (length r)) [
          | yes l ↦
              sum_single here k (length r) l (λ i b other. none i other)
              ∙ count_all (λ q. eqb (suc k) (suc k)) (widths k) (λ q b. eq-eqb (suc k) (suc k) refl)
          | no g ↦
              sum_none here (length r) (λ i b. none i (λ e. omega arith))
              ∙ sym (buffers_past s r (suc k) pos (omega arith))
        ]
      where
        here : ℕ → ℕ
        here i = count (λ q. eqb (suc i) (suc k)) (widths i)

        none : (i : ℕ) → (i ≡ k → ⊥) → here i ≡ 0
        none i other =
            count_none (λ q. eqb (suc i) (suc k)) (widths i) (λ q b e. other (omega (arith, eqb-true (suc i) (suc k) e)))

    -- where few nodes are left at distance 1, the built tree is legal and has exactly the counted buffers
    pub attained : (c : ℕ) → nodes_at s r 1 ≤ c → Attained c s net r
    attained c few =
        record {
          tree = built;
          legal = legal c few;
          at_each = at_each_lem;
          in_all = sym (fewest_sum s r (length r) pos (omega arith));
        }
