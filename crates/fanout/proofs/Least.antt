-- Every legal tree has at least the counted buffers: what stands at a distance hangs on the nodes one level nearer,
-- and each of these feeds few.
use Prim.Native.Nat.{ℕ, zero, suc, ◌+◌, ◌*◌, ◌≤◌, ◌<◌}
use mathlib.Core.Path.{◌≡◌, sym, ◌∙◌, ap, ap₂, subst, subst⁻¹}
use mathlib.Core.Bool.{Bool, true, false, ◌&&◌}
use mathlib.Core.List.{List}
use native.Mathlib.Omega.{arith}
use lib.ListN.{length, get_or}
use lib.Dec.{eqb}
use borrow.Author.Tests.{eqb-true, eqb-false, ne_eqb}
use Rattle.facts.specs.Sums.{bit, sum, count}
use Rattle.facts.proofs.Bools.{and_l, and_r, and_i}
use Rattle.facts.proofs.Sums.{sum_add, sum_mono, sum_first, sum_bounded, fibres₁, values_le, count_none, count_le, count_mono}
use Rattle.fanout.specs.Nets.{nodes_at, buffers_at, fewest}
use Rattle.fanout.specs.Trees.{Net, Tree, Legal, RowOf, sinks_at, buffers_in, node_distance, fed}
use Rattle.fanout.proofs.Nets.{minimal, minimal_nodes, fewest_sum}

module _ (c s : ℕ) (net : Net) (t : Tree) (legal : Legal c s net t) where
  -- buffer b, sink x stands at distance suc k
  abbrev buffer_at : ℕ → ℕ → Bool
  buffer_at k b = eqb (t.distance b) (suc k)

  abbrev sink_at : ℕ → ℕ → Bool
  sink_at k x = net.sink x && eqb (net.distance x) (suc k)

  -- buffers and sinks at distance suc k that hang on node y
  hanging : ℕ → ℕ → ℕ
  hanging k y =
      count (λ b. buffer_at k b && eqb (t.buffer_on b) y) t.buffers
      + count (λ x. sink_at k x && eqb (t.sink_on x) y) net.places

  -- what stands at distance suc k, by the nodes it hangs on
  by_nodes : (k : ℕ) → buffers_in t (suc k) + sinks_at net (suc k) ≡ sum (hanging k) (suc t.buffers)
  unfolding buffers_in sinks_at hanging
  by_nodes k =
      ap₂ ◌+◌
      (fibres₁ (buffer_at k) t.buffer_on t.buffers (suc t.buffers) (λ b l e. omega (arith, legal.buffer_named b l)))
      (fibres₁ (sink_at k) t.sink_on net.places (suc t.buffers)
      (λ x l e. omega (arith, legal.sink_named x l (and_l (net.sink x) _ e))))
      ∙ sym (sum_add _ _ (suc t.buffers))

  hanging_fed : (k y : ℕ) → hanging k y ≤ fed net t y
  unfolding hanging fed
  hanging_fed k y =
      omega (
        arith,
        count_mono (λ b. buffer_at k b && eqb (t.buffer_on b) y) (λ b. eqb (t.buffer_on b) y) t.buffers
            (λ b l e. and_r (buffer_at k b) _ e),
        count_mono (λ x. sink_at k x && eqb (t.sink_on x) y) (λ x. net.sink x && eqb (t.sink_on x) y) net.places
            (λ x l e. and_i (net.sink x) _ (and_l (net.sink x) _ (and_l (sink_at k x) _ e)) (and_r (sink_at k x) _ e)),
      )

  -- a node that carries something at distance suc k stands at distance k
  nearer : (k y z far : ℕ) → far ≡ suc (node_distance t z) → eqb far (suc k) ≡ true → eqb z y ≡ true →
      eqb (node_distance t y) k ≡ false → ⊥
  nearer k y z far balanced at on e =
      eqb-false (node_distance t y) k e
      (omega (arith, ap (node_distance t) (eqb-true z y on), eqb-true far (suc k) at))

  hanging_none : (k y : ℕ) → eqb (node_distance t y) k ≡ false → hanging k y ≡ 0
  unfolding hanging
  hanging_none k y e =
      omega (
        arith,
        count_none (λ b. buffer_at k b && eqb (t.buffer_on b) y) t.buffers
            (λ b l h. nearer k y _ _ (legal.buffer_balanced b l) (and_l (buffer_at k b) _ h) (and_r (buffer_at k b) _ h) e),
        count_none (λ x. sink_at k x && eqb (t.sink_on x) y) net.places
            (λ x l h.
            let at : sink_at k x ≡ true = and_l (sink_at k x) _ h in
            nearer k y _ _ (legal.sink_balanced x l (and_l (net.sink x) _ at)) (and_r (net.sink x) _ at)
            (and_r (sink_at k x) _ h) e),
      )

  -- nodes at distance k that feed at most w each carry at most w times their number
  carried : (k w : ℕ) → ((y : ℕ) → y < suc t.buffers → eqb (node_distance t y) k ≡ true → fed net t y ≤ w) →
      buffers_in t (suc k) + sinks_at net (suc k) ≤ w * count (λ y. eqb (node_distance t y) k) (suc t.buffers)
  carried k w few =
      subst⁻¹ (λ (n : ℕ). n ≤ w * count (λ y. eqb (node_distance t y) k) (suc t.buffers)) (by_nodes k)
      (sum_bounded (hanging k) (λ y. eqb (node_distance t y) k) w (suc t.buffers)
      (λ y l e. omega (arith, hanging_fed k y, few y l e))
      (λ y l e. hanging_none k y e))

  -- the nodes at a distance: the driver at 0, and the buffers
  nodes_in : (k : ℕ) → count (λ y. eqb (node_distance t y) k) (suc t.buffers) ≡ bit (eqb 0 k) + buffers_in t k
  unfolding count buffers_in
  nodes_in k = sum_first (λ y. bit (eqb (node_distance t y) k)) t.buffers

  -- buffers stand above the driver
  above : (b : ℕ) → b < t.buffers → eqb (t.distance b) 0 ≡ true → ⊥
  above b l e = omega (arith, legal.buffer_balanced b l, eqb-true (t.distance b) 0 e)

  -- the buffers at a distance carry what stands one level further on
  buffers_carry : (k : ℕ) → 0 < k → buffers_in t (suc k) + sinks_at net (suc k) ≤ s * buffers_in t k
  buffers_carry k h =
      subst (λ (n : ℕ). buffers_in t (suc k) + sinks_at net (suc k) ≤ s * n) (nodes_in k ∙ only) (carried k s few)
    where
      only : bit (eqb 0 k) + buffers_in t k ≡ buffers_in t k
      only = rw (ne_eqb 0 k (λ e. omega arith)) (omega arith)

      few : (y : ℕ) → y < suc t.buffers → eqb (node_distance t y) k ≡ true → fed net t y ≤ s
      few zero l e = absurd (omega (arith, eqb-true 0 k e))
      few (suc b) l e = legal.buffer_branched b (omega arith)

  -- the driver carries what stands at distance 1
  driver_carries : buffers_in t 1 + sinks_at net 1 ≤ c
  unfolding buffers_in
  driver_carries = omega (arith, carried 0 c few, ap (λ (n : ℕ). c * n) (nodes_in 0 ∙ only))
    where
      only : bit (eqb 0 0) + buffers_in t 0 ≡ 1
      only = omega (arith, count_none (λ b. eqb (t.distance b) 0) t.buffers above)

      few : (y : ℕ) → y < suc t.buffers → eqb (node_distance t y) 0 ≡ true → fed net t y ≤ c
      few zero l e = legal.driver_branched
      few (suc b) l e = absurd (above b (omega arith) e)

module _ (c s : ℕ) (net : Net) (r : List ℕ) (pos : 0 < s) (counts : RowOf net r) (t : Tree) (legal : Legal c s net t) where
  carry : (k : ℕ) → 0 < k → buffers_in t (suc k) + get_or r (suc k) 0 ≤ s * buffers_in t k
  carry k h = rw (counts.entry (suc k)) (buffers_carry c s net t legal k h)

  -- every legal tree has at least the counted buffers at each distance
  pub bound_at : (k : ℕ) → 0 < k → buffers_at s r k ≤ buffers_in t k
  bound_at = minimal s r (buffers_in t) pos carry

  -- and at least the fewest in all
  pub bound_in_all : fewest s r ≤ t.buffers
  unfolding buffers_in
  bound_in_all =
      omega (
        arith,
        fewest_sum s r (length r) pos (omega arith),
        sum_mono (λ k. buffers_at s r (suc k)) (λ k. buffers_in t (suc k)) (length r) (λ k l. bound_at (suc k) (omega arith)),
        sum_first (buffers_in t) (length r),
        values_le (λ b. true) t.distance t.buffers (suc (length r)),
        count_le (λ b. true) t.buffers,
      )

  -- a net with a legal tree leaves few nodes at distance 1
  pub few_left : nodes_at s r 1 ≤ c
  few_left =
      omega (arith, minimal_nodes s r (buffers_in t) pos carry, counts.entry 1, driver_carries c s net t legal)
