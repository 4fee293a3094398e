-- Laws of pricing as the code does it: one distance of a tree, a tree, a line, a driver, and the sums over all of them.
use Prim.Native.Nat.{ℕ, zero, suc, ◌+◌, ◌-◌, ◌*◌, ◌/◌, ◌%◌, ◌≤◌, ◌<◌}
use mathlib.Core.Path.{◌≡◌, refl, sym, ◌∙◌, ap, ap₂}
use mathlib.Core.Bool.{Bool, true, false, cond}
use mathlib.Core.List.{List}
use native.Mathlib.Omega.{arith}
use native.Mathlib.Nat.{div-add-mod, zero-div, zero-mod, div-eq_of_lt, mod-eq_of_lt, mul-le-mul_left, mul-suc, mul_comm, mod-lt, mul-zero}
use native.Mathlib.Numerals.{add-one}
use native.Mathlib.Decide.{dec_lt, ℕ_discrete}
use mir.Val.{Fits}
use mir.Syntax.{w32}
use lib.ListN.{get_or, drop}
use lib.Seq.{get_or-drop}
use lib.Dec.{ltb, leb, eqb}
use borrow.Author.Tests.{lt-ltb, le-ltb, leb-true, eq-eqb, ne_eqb, eqb-true}
use Rattle.facts.specs.Sums.{bit, sum, count}
use Rattle.facts.proofs.Sums.{sum_cong, sum_add, sum_const, sum_scale, sum_none, sum_last, sum_stop, sum_more, term_le, bit_le, bit_other, count_cong, count_one, count_none, count_le}
use Rattle.facts.proofs.Bools.{and_l, and_r}
use Rattle.facts.proofs.Blocks.{block_before}
use Rattle.netlist.specs.declared.Capacities.{Capacities}
use Rattle.netlist.specs.Kinds.{top_level, source_limit, mapped_limit, and, or, buffer, is_gate}
use Rattle.netlist.specs.Records.{Netlist}
use Rattle.netlist.specs.Source.{IsSource}
use Rattle.netlist.specs.Counts.{gates}
use Rattle.netlist.proofs.Source.{no_buffer_lem}
use Rattle.fanout.specs.Nets.{up, row, sinks, nodes_at, buffers_at, tree_size}
use Rattle.fanout.proofs.Nets.{up_whole, up_part, le_up, fewest_sum, nodes_at_lem, nodes_none, row_length}
use Rattle.fanout.proofs.Rows.{row_none}
use Rattle.nets.specs.PrivateChains.{slot_end, next_sink, Chained, ShortChain}
use Rattle.nets.proofs.Lines.{line_at, line_nodes}
use Rattle.prices.specs.Prices.{price_of}
use Rattle.prices.specs.PrivatePrices.{AppliedPrices}
use Rattle.prices.proofs.Lists.{no_price}
use Rattle.mapper.specs.PrivateWriting.{Ready}
use Rattle.mapper.specs.PrivatePricing.{rest_price, level_price, distance_price, tree_price, line_price, driver_price, same_buffers, both_are, same_gates, NodesCounted}
use Rattle.mapper.proofs.Nodes.{pos}
use Rattle.mapper.proofs.NetPrices.{tree_small, trees_small, drivers_small}

-- what is left of a distance
module _ (prices : List ℕ) (rest b x : ℕ) (e : b ≡ bit (ltb 0 rest)) where
  pub rest_small : x ≤ 255 → b * x ≤ 255
  rest_small l =
      let one : b ≤ 1 = omega (arith, bit_le (ltb 0 rest)) in
      omega (arith, mul-le-mul_left {m = b} {n = 1} x one, mul_comm b x, mul_comm x 1)

  pub rest_is : x ≡ price_of prices buffer rest → b * x ≡ rest_price prices rest
  unfolding rest_price
  rest_is f =
      elim (ℕ_discrete rest 0) [
        | yes z ↦ (let n : b ≡ 0 = omega (arith, ap bit (le-ltb 0 rest (omega arith))) in rw (n, eq-eqb rest 0 z) (omega arith))
        | no z ↦ (let n : b ≡ 1 = omega (arith, ap bit (lt-ltb 0 rest (omega arith))) in rw (n, ne_eqb rest 0 z) (omega arith))
      ]

-- the buffers one level below n nodes
module _ (s n full : ℕ) (e : full ≡ n / s) where
  whole_part : s * full + n % s ≡ n
  whole_part = ap (λ (x : ℕ). s * x + n % s) e ∙ div-add-mod n s

  pub level_is : (prices : List ℕ) (x y : ℕ) → x ≡ price_of prices buffer s → y ≡ rest_price prices (n - s * full) → full * x + y ≡ level_price prices s n
  unfolding level_price
  level_is prices x y f g =
      let r : n - s * full ≡ n % s = omega (arith, whole_part) in
      ap₂ ◌+◌ (ap₂ ◌*◌ e f) (g ∙ ap (rest_price prices) r)

-- no nodes, one, and two
level_none : (prices : List ℕ) (s : ℕ) → level_price prices s 0 ≡ 0
unfolding level_price rest_price
level_none prices s = rw (zero-div s, zero-mod s) (omega arith)

level_one : (prices : List ℕ) (s : ℕ) → 2 ≤ s → level_price prices s 1 ≡ price_of prices buffer 1
unfolding level_price rest_price
level_one prices s l = rw (div-eq_of_lt {n = 1} {m = s} l, mod-eq_of_lt {n = 1} {m = s} l) (omega arith)

level_two : (prices : List ℕ) (s : ℕ) → 2 ≤ s → level_price prices s 2 ≡ price_of prices buffer 2
unfolding level_price rest_price
level_two prices s l = go (ℕ_discrete s 2)
  where
    go : Dec (s ≡ 2) → level_price prices s 2 ≡ price_of prices buffer 2
    go (yes e) = rw e (omega arith)
    go (no e) = rw (div-eq_of_lt {n = 2} {m = s} (omega arith), mod-eq_of_lt {n = 2} {m = s} (omega arith)) (omega arith)

-- a net without sinks has no buffers to price
pub none_price : (prices : List ℕ) (n : Netlist) (caps : Capacities) (d : ℕ) → Ready n caps → ((k : ℕ) → sinks n d k ≡ 0) → 0 ≡ tree_price prices n caps d
unfolding tree_price
none_price prices n caps d r z =
    sym
    (sum_none _ top_level
    (λ k l.
    ap (level_price prices caps.buffer)
    (nodes_none caps.buffer (drop (suc (suc k)) (row n d)) (pos n caps r)
    (λ x. get_or-drop (suc (suc k)) (row n d) x 0 ∙ row_none n d _ (z (suc (suc k) + x))))
    ∙ level_none prices caps.buffer))

-- a tree's buffers are records of the mapped netlist
tree_few : (n : Netlist) (caps : Capacities) (d : ℕ) → Ready n caps → d < n.size → tree_size n caps d ≤ mapped_limit
tree_few n caps d r l = omega (arith, r.fits, block_before (tree_size n caps) d n.size l)

-- the distances below k are priced
pub record TreePricing (prices : List ℕ) (n : Netlist) (caps : Capacities) (d total k : ℕ) : Type 0 where
  pub i : ℕ
  pub at : k ≡ suc (suc i)
  pub within : i ≤ top_level
  pub so_far : total ≡ sum (distance_price prices n caps d) i

module _ (prices : List ℕ) (n : Netlist) (caps : Capacities) (d top : ℕ) (counts : List ℕ) (h : NodesCounted n caps d counts top) (p : AppliedPrices prices) where
  pub pricing_start : TreePricing prices n caps d 0 2
  unfolding sum
  pricing_start = record { i = 0; at = refl; within = omega arith; so_far = refl }

  module _ (total k : ℕ) (t : TreePricing prices n caps d total k) where
    module _ (l : k < top + 1) where
      counted : get_or counts k 0 ≡ nodes_at caps.buffer (row n d) (suc (suc t.i))
      counted = h.nodes.at k (omega (arith, t.at)) (omega (arith, h.near)) ∙ ap (nodes_at caps.buffer (row n d)) t.at

      pub pricing_nodes : get_or counts k 0 ≤ 4 * mapped_limit
      pricing_nodes =
          let b : ℕ = buffers_at caps.buffer (row n d) (suc t.i) in
          omega (
            arith,
            counted,
            le_up caps.buffer (nodes_at caps.buffer (row n d) (suc (suc t.i))) (pos n caps h.ready),
            mul_comm caps.buffer b,
            mul-le-mul_left {m = caps.buffer} {n = 4} b h.ready.allowed.high,
            mul_comm b 4,
            term_le (λ i. buffers_at caps.buffer (row n d) (suc i)) t.i top_level (omega (arith, t.at, h.near)),
            fewest_sum caps.buffer (row n d) top_level (pos n caps h.ready) (omega (arith, row_length n d)),
            tree_few n caps d h.ready h.driver,
          )

      next : (x : ℕ) → x ≡ level_price prices caps.buffer (get_or counts k 0) → total + x ≡ sum (distance_price prices n caps d) (t.i + 1)
      next x e = ap₂ ◌+◌ t.so_far (e ∙ ap (level_price prices caps.buffer) counted) ∙ sum_last (distance_price prices n caps d) t.i

      pub pricing_fits : (x : ℕ) → x ≡ level_price prices caps.buffer (get_or counts k 0) → Fits w32 (total + x)
      unfolding tree_price
      pricing_fits x e =
          omega (
            arith,
            next x e,
            sum_more (distance_price prices n caps d) (t.i + 1) top_level (omega (arith, t.at, h.near)),
            tree_small prices p n caps d (pos n caps h.ready),
            tree_few n caps d h.ready h.driver,
          )

      pub pricing_more : (x : ℕ) → x ≡ level_price prices caps.buffer (get_or counts k 0) → TreePricing prices n caps d (total + x) (k + 1)
      pricing_more x e =
          record { i = t.i + 1; at = omega (arith, t.at); within = omega (arith, t.at, h.near); so_far = next x e }

    pub pricing_end : top + 1 ≤ k → total ≡ tree_price prices n caps d
    unfolding tree_price
    pricing_end l =
        t.so_far
        ∙ sym (sum_stop (distance_price prices n caps d) t.i top_level t.within (λ i b.
        ap (level_price prices caps.buffer) (h.beyond (suc (suc i)) (omega (arith, t.at))) ∙ level_none prices caps.buffer))

-- where all buffers that feed a slot cost the same, a tree costs that for each
module _ (prices : List ℕ) (h : same_buffers prices ≡ true) where
  abbrev price : ℕ
  price = price_of prices buffer 1

  same_at : (fed : ℕ) → 1 ≤ fed → fed ≤ 4 → price_of prices buffer fed ≡ price
  unfolding same_buffers
  same_at zero a b = absurd (omega arith)
  same_at (suc zero) a b = refl
  same_at (suc (suc zero)) a b = sym (eqb-true _ _ (and_l (eqb price (price_of prices buffer 2)) _ h))
  same_at (suc (suc (suc zero))) a b =
      sym (eqb-true _ _ (and_l (eqb price (price_of prices buffer 3)) _ (and_r (eqb price (price_of prices buffer 2)) _ h)))
  same_at (suc (suc (suc (suc zero)))) a b =
      sym (eqb-true _ _ (and_r (eqb price (price_of prices buffer 3)) _ (and_r (eqb price (price_of prices buffer 2)) _ h)))
  same_at (suc (suc (suc (suc (suc fed))))) a b = absurd (omega arith)

  same_level : (s m : ℕ) → 2 ≤ s → s ≤ 4 → level_price prices s m ≡ price * up s m
  unfolding level_price rest_price
  same_level s m a b = rw (same_at s (omega arith) b) (go (ℕ_discrete (m % s) 0))
    where
      go : Dec (m % s ≡ 0) → m / s * price + cond (eqb (m % s) 0) 0 (price_of prices buffer (m % s)) ≡ price * up s m
      go (yes e) = rw (eq-eqb (m % s) 0 e, up_whole s m (omega arith) e) (omega (arith, mul_comm (m / s) price))
      go (no e) =
          rw (ne_eqb (m % s) 0 e, up_part s m (omega arith) (omega arith), same_at (m % s) (omega arith) (omega (arith, mod-lt m {m = s} (omega arith))), add-one (m / s))
          (omega (arith, mul-suc price (m / s), mul_comm (m / s) price))

  same_tree : (n : Netlist) (caps : Capacities) (d : ℕ) → Ready n caps → tree_price prices n caps d ≡ price * tree_size n caps d
  unfolding tree_price
  same_tree n caps d r =
      sum_cong _ _ top_level (λ k l. same_level caps.buffer (nodes_at caps.buffer (row n d) (suc (suc k))) r.allowed.low r.allowed.high)
      ∙ sum_scale price (λ k. buffers_at caps.buffer (row n d) (suc k)) top_level
      ∙ ap (λ (x : ℕ). price * x) (sym (fewest_sum caps.buffer (row n d) top_level (pos n caps r) (omega (arith, row_length n d))))

module _ (prices : List ℕ) (n : Netlist) (caps : Capacities) (d top : ℕ) (counts : List ℕ) (h : NodesCounted n caps d counts top) (size : ℕ)
    (e : size ≡ tree_size n caps d) where
  few : size ≤ mapped_limit
  few = omega (arith, tree_few n caps d h.ready h.driver)

  pub size_fits : Fits w32 size
  size_fits = omega (arith, few)

  pub same_fits : (x : ℕ) → x ≤ 255 → Fits w32 (size * x)
  same_fits x l = omega (arith, few, mul-le-mul_left {m = x} {n = 255} size l, mul_comm size 255)

  pub same_is : (b : Bool) (x : ℕ) → b ≡ same_buffers prices → b ≡ true → x ≡ price_of prices buffer 1 → size * x ≡ tree_price prices n caps d
  same_is b x f g k =
      ap₂ ◌*◌ e k ∙ mul_comm (tree_size n caps d) (price_of prices buffer 1) ∙ sym (same_tree prices (sym f ∙ g) n caps d h.ready)

-- a line of buffers
pub line_is : (prices : List ℕ) (n other pairs x y : ℕ) → pairs ≡ bit (ltb 1 other) → x ≡ price_of prices buffer 1 → y ≡ price_of prices buffer 2 →
    (n - pairs) * x + pairs * y ≡ line_price prices n other
unfolding line_price
line_is prices n other pairs x y e f g = rw (e, f, g) refl

-- it is the tree of a net with one or two sinks
module _ (prices : List ℕ) (n : Netlist) (caps : Capacities) (d top other : ℕ) (two : 2 ≤ caps.buffer) (h : ShortChain n d top other) where
  abbrev one : ℕ
  one = price_of prices buffer 1

  abbrev pair : ℕ
  pair = price_of prices buffer 2

  abbrev here : ℕ → ℕ
  here i = bit (eqb other (suc (suc i)))

  -- beyond the farther sink stands nothing
  none_beyond : (k : ℕ) → top < k → nodes_at caps.buffer (row n d) k ≡ 0
  none_beyond k l =
      omega (
        arith,
        nodes_at_lem caps.buffer (row n d) k (omega arith),
        line_at n caps d top other two h k (omega (arith, h.above)),
        ap bit (le-ltb k top (omega arith)),
        row_none n d k
            (omega (arith, h.at k (omega (arith, h.above)), bit_other top k (λ e. omega arith), bit_other other k (λ e. omega (arith, h.no_farther)))),
      )

  pub line_near : top - 1 < top_level
  line_near = omega (arith, h.above, h.near)

  pub line_behind : other ≤ top - 1 + 1
  line_behind = omega (arith, h.above, h.no_farther)

  -- each buffer is paid for one slot, the one below the other sink for two
  each : (i : ℕ) → i < top - 1 → distance_price prices n caps d i + one * here i ≡ one + pair * here i
  each i l = go (eqb other (suc (suc i))) refl
    where
      nodes : nodes_at caps.buffer (row n d) (suc (suc i)) ≡ 1 + bit (eqb other (suc (suc i)))
      nodes = line_nodes n caps d top other two h (suc (suc i)) (omega arith) (omega arith)

      go : (b : Bool) → eqb other (suc (suc i)) ≡ b → distance_price prices n caps d i + one * bit b ≡ one + pair * bit b
      go true e = omega (arith, ap (level_price prices caps.buffer) (nodes ∙ ap (λ (b : Bool). 1 + bit b) e), level_two prices caps.buffer two)
      go false e = omega (arith, ap (level_price prices caps.buffer) (nodes ∙ ap (λ (b : Bool). 1 + bit b) e), level_one prices caps.buffer two)

  -- so all of them, with as many times two slots as the other sink stands among them
  all : sum (distance_price prices n caps d) (top - 1) + one * sum here (top - 1) ≡ one * (top - 1) + pair * sum here (top - 1)
  all =
      omega (
        arith,
        sum_cong _ _ (top - 1) each,
        sum_add (distance_price prices n caps d) (λ i. one * here i) (top - 1),
        sum_add (λ i. one) (λ i. pair * here i) (top - 1),
        sum_scale one here (top - 1),
        sum_scale pair here (top - 1),
        sum_const one (top - 1),
      )

  pub line_price_lem : line_price prices (top - 1) other ≡ tree_price prices n caps d
  unfolding line_price tree_price count
  line_price_lem = go (dec_lt 1 other) ∙ sym (sum_stop (distance_price prices n caps d) (top - 1) top_level (omega (arith, h.near)) past)
    where
      past : (i : ℕ) → top - 1 ≤ i → distance_price prices n caps d i ≡ 0
      past i l = ap (level_price prices caps.buffer) (none_beyond (suc (suc i)) (omega (arith, h.above))) ∙ level_none prices caps.buffer

      same : 1 < other → (i : ℕ) → eqb other (suc (suc i)) ≡ eqb (other - 2) i
      same l i =
          elim (ℕ_discrete (other - 2) i) [
            | yes e ↦ eq-eqb other (suc (suc i)) (omega arith) ∙ sym (eq-eqb (other - 2) i e)
            | no e ↦ ne_eqb other (suc (suc i)) (λ f. e (omega arith)) ∙ sym (ne_eqb (other - 2) i e)
          ]

      go : Dec (1 < other) → (top - 1 - bit (ltb 1 other)) * one + bit (ltb 1 other) * pair ≡ sum (distance_price prices n caps d) (top - 1)
      go (yes l) =
          let met : sum here (top - 1) ≡ 1 =
          count_cong _ _ (top - 1) (λ i b. same l i) ∙ count_one (other - 2) (top - 1) (omega (arith, h.no_farther)) in
          let more : suc (top - 1 - 1) ≡ top - 1 = omega (arith, h.no_farther) in
          rw (lt-ltb 1 other l)
          (omega (
            arith,
            rw met at all,
            mul_comm (top - 1 - 1) one,
            mul-suc one (top - 1 - 1),
            ap (λ (m : ℕ). one * m) more,
          ))
      go (no l) =
          let met : sum here (top - 1) ≡ 0 = count_none (λ i. eqb other (suc (suc i))) (top - 1) (λ i b e. omega (arith, eqb-true other (suc (suc i)) e)) in
          let same : top - 1 - 0 ≡ top - 1 = omega arith in
          rw (le-ltb 1 other (omega arith)) (omega (arith, rw met at all, mul_comm (top - 1 - 0) one, ap (λ (m : ℕ). one * m) same))

-- a driver
pub driver_is : (prices : List ℕ) (n : Netlist) (first next : List ℕ) (end d p kind fed x : ℕ) → Chained n first next 0 end → d < n.size →
    p ≡ get_or first d 0 → fed ≡ bit (ltb p end) → kind ≡ (n.at d).kind → x ≡ price_of prices kind fed → x ≡ driver_price prices n d
unfolding driver_price
driver_is prices n first next end d p kind fed x h l e f g k =
    k ∙ ap₂ (price_of prices) g (f ∙ ap₂ (λ (a b : ℕ). bit (ltb a b)) (e ∙ h.firsts d l) h.stop)

-- where all gates cost the same, a source's records cost that for each gate
module _ (prices : List ℕ) (p : ℕ) (h : same_gates prices p ≡ true) where
  both_prices : (kind fed : ℕ) → both_are prices p kind ≡ true → fed ≤ 1 → price_of prices kind fed ≡ p
  unfolding both_are
  both_prices kind zero b l = sym (eqb-true _ _ (and_l (eqb p (price_of prices kind 0)) _ b))
  both_prices kind (suc zero) b l = sym (eqb-true _ _ (and_r (eqb p (price_of prices kind 0)) _ b))
  both_prices kind (suc (suc fed)) b l = absurd (omega arith)

  gate_both : (kind : ℕ) → 1 ≤ kind → kind ≤ 3 → both_are prices p kind ≡ true
  unfolding same_gates
  gate_both zero a b = absurd (omega arith)
  gate_both (suc zero) a b = and_l (both_are prices p and) _ h
  gate_both (suc (suc zero)) a b = and_l (both_are prices p or) _ (and_r (both_are prices p and) _ h)
  gate_both (suc (suc (suc zero))) a b = and_r (both_are prices p or) _ (and_r (both_are prices p and) _ h)
  gate_both (suc (suc (suc (suc kind)))) a b = absurd (omega arith)

  same_driver : (n : Netlist) (d : ℕ) → IsSource n → d < n.size → driver_price prices n d ≡ p * bit (is_gate (n.at d).kind)
  unfolding driver_price
  same_driver n d s l = go (is_gate (n.at d).kind) refl
    where
      kind : ℕ
      kind = (n.at d).kind

      go : (b : Bool) → is_gate kind ≡ b → price_of prices kind (bit (ltb (next_sink n d 0) (slot_end n))) ≡ p * bit b
      go true g =
          both_prices kind _ (gate_both kind (leb-true 1 kind (and_l (leb 1 kind) _ g)) (leb-true kind 3 (and_r (leb 1 kind) _ g))) (bit_le (ltb (next_sink n d 0) (slot_end n))) ∙ omega arith
      go false g = no_price prices kind _ g (ne_eqb kind buffer (no_buffer_lem n s d l refl)) ∙ omega (arith, mul-zero p)

pub gates_same : (prices : List ℕ) (n : Netlist) (N p g : ℕ) (b : Bool) → IsSource n → N ≡ n.size → b ≡ same_gates prices p → b ≡ true →
    g ≡ gates n → g * p ≡ sum (driver_price prices n) N
unfolding gates count
gates_same prices n N p g b s e f t k =
    ap (λ (x : ℕ). x * p) k
    ∙ mul_comm _ p
    ∙ sym (sum_scale p (λ d. bit (is_gate (n.at d).kind)) n.size)
    ∙ sym (sum_cong _ _ n.size (λ d l. same_driver prices p (sym f ∙ t) n d s l))
    ∙ ap (sum (driver_price prices n)) (sym e)

module _ (n : Netlist) (s : IsSource n) (g : ℕ) (e : g ≡ gates n) where
  few_gates : g ≤ source_limit
  unfolding gates
  few_gates = omega (arith, count_le (λ k. is_gate (n.at k).kind) n.size, s.few)

  pub gates_cast : Fits w32 g
  gates_cast = omega (arith, few_gates)

  pub gates_fits : (p : ℕ) → p ≤ 255 → Fits w32 (g * p)
  gates_fits p l = omega (arith, few_gates, mul-le-mul_left {m = p} {n = 255} g l, mul_comm g 255)

-- the drivers below d are priced
pub record DriversPriced (prices : List ℕ) (n : Netlist) (total d : ℕ) : Type 0 where
  pub within : d ≤ n.size
  pub so_far : total ≡ sum (driver_price prices n) d

module _ (prices : List ℕ) (n : Netlist) where
  pub drivers_start : DriversPriced prices n 0 0
  unfolding sum
  drivers_start = record { within = omega arith; so_far = refl }

  module _ (N total d : ℕ) (size : N ≡ n.size) (t : DriversPriced prices n total d) where
    pub drivers_fits : (x : ℕ) → AppliedPrices prices → IsSource n → d < N → x ≤ 255 → Fits w32 (total + x)
    drivers_fits x p s l b = omega (arith, t.so_far, drivers_small prices p n d, s.few)

    pub drivers_more : (x : ℕ) → d < N → x ≡ driver_price prices n d → DriversPriced prices n (total + x) (d + 1)
    drivers_more x l e = record { within = omega arith; so_far = ap₂ ◌+◌ t.so_far e ∙ sum_last (driver_price prices n) d }

-- the nets below d: none
pub nets_price_start : (prices : List ℕ) (n : Netlist) (caps : Capacities) → 0 ≡ sum (tree_price prices n caps) 0
unfolding sum
nets_price_start prices n caps = refl

-- one more
module _ (prices : List ℕ) (p : AppliedPrices prices) (n : Netlist) (caps : Capacities) (r : Ready n caps) (total d : ℕ)
    (t : total ≡ sum (tree_price prices n caps) d) (l : d < n.size) (x : ℕ) (e : x ≡ tree_price prices n caps d) where
  pub nets_price : total + x ≡ sum (tree_price prices n caps) (d + 1)
  nets_price = ap₂ ◌+◌ t e ∙ sum_last (tree_price prices n caps) d

  pub nets_price_fits : Fits w32 (total + x)
  nets_price_fits =
      omega (
        arith,
        nets_price,
        trees_small prices p n caps r.allowed.low (d + 1),
        sum_more (tree_size n caps) (d + 1) n.size (omega arith),
        r.fits,
      )
