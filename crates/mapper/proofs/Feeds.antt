-- How many slots each record of the mapped netlist feeds: a driver the nodes at distance 1 of its tree, a buffer its s of those one
-- level further on, the last one of a distance the rest; and so at most as many as its kind may.
use Prim.Native.Nat.{ℕ, zero, suc, ◌+◌, ◌≤◌, ◌<◌, ◌/◌}
use mathlib.Core.Path.{◌≡◌, refl, sym, ◌∙◌, ap, ap₂, subst⁻¹, subst₂}
use mathlib.Core.Bool.{Bool, true, false, ◌&&◌}
use native.Mathlib.Omega.{arith}
use native.Mathlib.Decide.{dec_lt}
use native.Mathlib.Nat.{add_assoc}
use lib.Dec.{eqb}
use borrow.Author.Tests.{lt-ltb, ltb-true, leb-true, eq-eqb, eqb-true}
use Rattle.facts.specs.Sums.{bit, sum, count, count₂}
use Rattle.facts.proofs.Bools.{and_l, and_r, and_i}
use Rattle.facts.proofs.Sums.{sum_none, sum_single, sum_cong, sum_add, sum_append, count_append, count₂_cong, count_none, count_all, count_cong, count₂_none, count_div, fibres}
use Rattle.netlist.specs.declared.Capacities.{Capacities}
use Rattle.netlist.specs.Kinds.{slots, top_level, buffer, arity}
use Rattle.netlist.specs.Records.{Netlist, slot, used, fanin, names, feeds}
use Rattle.netlist.specs.Capacities.{capacity_of}
use Rattle.netlist.proofs.Source.{no_buffer_lem}
use Rattle.fanout.specs.Nets.{sinks, sink_at, nodes_at, tree_size, row}
use Rattle.fanout.proofs.Nets.{buffers_past, row_length}
use Rattle.mapper.specs.Mapped.{buffers_of, mapped_size, place, parent, buffer_record, rank, distance, sink_number, sink_parent, mapped_at, mapped}
use Rattle.mapper.specs.PrivateWriting.{Ready}
use Rattle.mapper.proofs.Blocks.{sum_blocks, count₂_rank}
use Rattle.mapper.proofs.Mapped.{tree_sum, at_place, place_driver, place_distance}
use Rattle.mapper.proofs.Nodes.{IsNode, nodes_split, hangs, IsSink, sink_facts, is_sink, pos, kind_kept, slot_used, source_sink, buffer_kind}

-- tests that imply one another are one
both : (a b : Bool) → (a ≡ true → b ≡ true) → (b ≡ true → a ≡ true) → a ≡ b
both true b f g = sym (f refl)
both false true f g = g refl
both false false f g = refl

-- what is summed over all buffers, net by net and distance by distance
pub sum_places : (n : Netlist) (caps : Capacities) → 0 < caps.buffer → (f : ℕ → ℕ) →
    sum (λ y. f (n.size + y)) (sum (tree_size n caps) n.size)
    ≡ sum (λ d. sum (λ k. sum (λ j. f (place n caps d k j)) (buffers_of n caps d k)) (suc top_level)) n.size
sum_places n caps p f =
    sum_blocks g (tree_size n caps) n.size
    ∙ sum_cong _ _ n.size (λ d ld.
    ap (sum (λ z. g (sum (tree_size n caps) d + z))) (tree_sum n caps p d)
    ∙ sum_blocks (λ z. g (sum (tree_size n caps) d + z)) (buffers_of n caps d) (suc top_level)
    ∙ sum_cong _ _ (suc top_level) (λ k lk.
    sum_cong _ _ (buffers_of n caps d k) (λ j b. ap f (sym (add_assoc n.size (sum (tree_size n caps) d) _)))))
  where
    g : ℕ → ℕ
    g y = f (n.size + y)

-- the nodes of d's tree at distance k that hang on x
abbrev pub hangs_on : Netlist → Capacities → ℕ → ℕ → ℕ → ℕ → Bool
hangs_on n caps x d k q = eqb (parent n caps d k q) x

module _ (n : Netlist) (caps : Capacities) (r : Ready n caps) (x : ℕ) where
  -- the slots of one buffer
  buffer_names : (d k j : ℕ) → d < n.size → k ≤ top_level → j < buffers_of n caps d k →
      count (names (mapped n caps) x (place n caps d k j)) slots ≡ bit (hangs_on n caps x d k j)
  unfolding count sum buffer_record
  buffer_names d k j ld l b = rw (at_place n caps (pos n caps r) d k j ld l b) (omega arith)

  -- the slots of all buffers
  buffers_name : sum (λ y. count (names (mapped n caps) x (n.size + y)) slots) (sum (tree_size n caps) n.size)
      ≡ sum (λ d. sum (λ k. count (hangs_on n caps x d k) (buffers_of n caps d k)) (suc top_level)) n.size
  unfolding count
  buffers_name =
      sum_places n caps (pos n caps r) (λ i. count (names (mapped n caps) x i) slots)
      ∙ sum_cong _ _ n.size (λ d ld.
      sum_cong _ _ (suc top_level) (λ k lk.
      sum_cong _ _ (buffers_of n caps d k) (λ j b. buffer_names d k j ld (omega arith) b)))

  -- a used slot of the source hangs on x
  abbrev goes : ℕ → ℕ → Bool
  goes i j = used n i j && eqb (sink_parent n caps i j) x

  source_goes : (i j : ℕ) → i < n.size → names (mapped n caps) x i j ≡ goes i j
  source_goes i j l = rw (kind_kept n caps r i l) (go (used n i j) refl)
    where
      go : (u : Bool) → used n i j ≡ u → (u && eqb (slot (mapped_at n caps i) j) x) ≡ (u && eqb (sink_parent n caps i j) x)
      go true e = rw (slot_used n caps r i j l (ltb-true j _ e)) refl
      go false e = refl

  -- those of d's net
  abbrev of_net : ℕ → ℕ → ℕ → Bool
  of_net d i j = goes i j && eqb (fanin n i j) d

  -- those of d's net at distance k
  source_hangs : (d k i j : ℕ) → i < n.size →
      (of_net d i j && eqb (distance n i j) k)
      ≡ (sink_at n d k i j && hangs_on n caps x d k (buffers_of n caps d k + rank (sink_at n d k) i j))
  unfolding sink_number
  source_hangs d k i j l =
      both _ _
      (λ e.
      let g : goes i j ≡ true = and_l (goes i j) _ (and_l (of_net d i j) _ e) in
      let u : j < arity (n.at i).kind = ltb-true j _ (and_l (used n i j) _ g) in
      let a : fanin n i j ≡ d = eqb-true _ d (and_r (goes i j) _ (and_l (of_net d i j) _ e)) in
      let b : distance n i j ≡ k = eqb-true _ k (and_r (of_net d i j) _ e) in
      and_i (sink_at n d k i j) _ (is_sink n d k i j (subst₂ (λ (d k : ℕ). IsSink n d k i j) a b (source_sink n caps r i j l u)))
      (eq-eqb _ x (sym (ap₂ hangs_on a b) ∙ eqb-true _ x (and_r (used n i j) _ g))))
      (λ e.
      let h = sink_facts n d k i j (and_l (sink_at n d k i j) _ e) in
      let b : distance n i j ≡ k = omega (arith, h.level, ap (λ (x : ℕ). (n.at x).level) h.driver) in
      and_i (of_net d i j) _
      (and_i (goes i j) _
      (and_i (used n i j) _ (lt-ltb j _ h.in_use)
      (eq-eqb _ x (ap₂ hangs_on h.driver b ∙ eqb-true _ x (and_r (sink_at n d k i j) _ e))))
      (eq-eqb _ d h.driver)) (eq-eqb _ k b))
    where
      hangs_on : ℕ → ℕ → ℕ
      hangs_on d k = parent n caps d k (buffers_of n caps d k + rank (sink_at n d k) i j)

  -- the slots of the source's records
  sources_name : count₂ (names (mapped n caps) x) slots n.size
      ≡ sum (λ d. sum (λ k. count (λ y. hangs_on n caps x d k (buffers_of n caps d k + y)) (sinks n d k)) (suc top_level)) n.size
  unfolding sinks
  sources_name =
      count₂_cong _ goes slots n.size (λ i j l b. source_goes i j l)
      ∙ fibres goes (fanin n) slots n.size n.size
      (λ i j l b e. omega (arith, r.source.earlier i j l (ltb-true j _ (and_l (used n i j) _ e))))
      ∙ sum_cong _ _ n.size (λ d ld.
      fibres (of_net d) (distance n) slots n.size (suc top_level) (λ i j l b e. omega (arith, r.source.levels i l))
      ∙ sum_cong _ _ (suc top_level) (λ k lk.
      count₂_cong _ _ slots n.size (λ i j l b. source_hangs d k i j l)
      ∙ count₂_rank (sink_at n d k) (λ y. hangs_on n caps x d k (buffers_of n caps d k + y)) n.size))

  -- a record feeds the nodes that hang on it, buffers and sinks of each net at each distance
  pub feeds_nodes : feeds (mapped n caps) x
      ≡ sum (λ d. sum (λ k. count (hangs_on n caps x d k) (buffers_of n caps d k + sinks n d k)) (suc top_level)) n.size
  unfolding feeds count₂
  feeds_nodes =
      sum_append (λ i. count (names (mapped n caps) x i) slots) n.size (sum (tree_size n caps) n.size)
      ∙ ap₂ ◌+◌ sources_name buffers_name
      ∙ sym (sum_add _ _ n.size)
      ∙ sum_cong _ _ n.size (λ d ld.
      sym (sum_add _ _ (suc top_level))
      ∙ sum_cong _ _ (suc top_level) (λ k lk.
      omega (arith, count_append (hangs_on n caps x d k) (buffers_of n caps d k) (sinks n d k))))

-- how many slots a record may feed
module _ (n : Netlist) (caps : Capacities) (r : Ready n caps) where
  -- a sink stands above its driver
  none_level : (d : ℕ) → sinks n d 0 ≡ 0
  unfolding sinks
  none_level d =
      count₂_none (sink_at n d 0) slots n.size
      (λ i j l b e.
      let h = sink_facts n d 0 i j e in
      omega (arith, h.level, r.source.lower i j l h.in_use, ap (λ (x : ℕ). (n.at x).level) h.driver))

  -- what is counted of a net at a distance are nodes
  counted_node : (d k q : ℕ) → d < n.size → k ≤ top_level → q < buffers_of n caps d k + sinks n d k → IsNode n caps r d k q
  unfolding buffers_of
  counted_node d zero q ld l b = absurd (omega (arith, none_level d))
  counted_node d (suc k) q ld l b = omega (arith, nodes_split n caps r d (suc k) (omega arith) l)

  -- only the nodes at distance 1 of x's own net hang on a driver x
  on_driver : (x d k q : ℕ) → x < n.size → IsNode n caps r d k q → parent n caps d k q ≡ x → (d ≡ x) × (k ≡ 1)
  unfolding parent
  on_driver x d zero q l h e = absurd (omega (arith, h.above))
  on_driver x d (suc zero) q l h e = (e, refl)
  on_driver x d (suc (suc k)) q l h e = absurd (omega arith)

  -- where all nodes that hang on x are of one net and distance, x feeds those
  feeds_single : (x d₀ k₀ : ℕ) → d₀ < n.size → 1 ≤ k₀ → k₀ ≤ top_level →
      ((d k q : ℕ) → IsNode n caps r d k q → parent n caps d k q ≡ x → (d ≡ d₀) × (k ≡ k₀)) →
      feeds (mapped n caps) x ≡ count (hangs_on n caps x d₀ k₀) (nodes_at caps.buffer (row n d₀) k₀)
  feeds_single x d₀ k₀ ld₀ a l only =
      feeds_nodes n caps r x
      ∙ sum_single (λ d. sum (λ k. at d k) (suc top_level)) d₀ n.size ld₀
      (λ d ld ne.
      sum_none _ (suc top_level)
      (λ k lk.
      count_none (hangs_on n caps x d k) _
      (λ q b e. ne (only d k q (counted_node d k q ld (omega arith) b) (eqb-true _ x e)).0)))
      ∙ sum_single (at d₀) k₀ (suc top_level) (omega arith)
      (λ k lk ne.
      count_none (hangs_on n caps x d₀ k) _
      (λ q b e. ne (only d₀ k q (counted_node d₀ k q ld₀ (omega arith) b) (eqb-true _ x e)).1))
      ∙ ap (count (hangs_on n caps x d₀ k₀)) (sym (nodes_split n caps r d₀ k₀ a l))
    where
      at : ℕ → ℕ → ℕ
      at d k = count (hangs_on n caps x d k) (buffers_of n caps d k + sinks n d k)

  -- a driver feeds the nodes at distance 1 of its tree
  pub driver_feeds : (x : ℕ) → x < n.size → feeds (mapped n caps) x ≡ nodes_at caps.buffer (row n x) 1
  unfolding parent
  driver_feeds x l =
      feeds_single x x 1 l (omega arith) (omega arith) (λ d k q h e. on_driver x d k q l h e)
      ∙ count_all (hangs_on n caps x x 1) _ (λ q b. eq-eqb x x refl)

  pub driver_branches : (x : ℕ) → x < n.size → feeds (mapped n caps) x ≤ capacity_of caps (n.at x).kind
  driver_branches x l =
      omega (arith, driver_feeds x l, leb-true (nodes_at caps.buffer (row n x) 1) (capacity_of caps (n.at x).kind) (r.trees x l))

  -- a buffer at distance k carries nodes of its own net at distance k + 1, s at most
  on_buffer : (d₀ k₀ j₀ d k q : ℕ) → d₀ < n.size → k₀ ≤ top_level → j₀ < buffers_of n caps d₀ k₀ → IsNode n caps r d k q →
      parent n caps d k q ≡ place n caps d₀ k₀ j₀ → (d ≡ d₀) × (k ≡ suc k₀)
  unfolding parent
  on_buffer d₀ k₀ j₀ d zero q ld l b h e = absurd (omega (arith, h.above))
  on_buffer d₀ k₀ j₀ d (suc zero) q ld l b h e = absurd (omega (arith, h.driver))
  on_buffer d₀ k₀ j₀ d (suc (suc k)) q ld l b h e =
      let f =
      place_driver n caps (pos n caps r) d (suc k) (q / caps.buffer) d₀ k₀ j₀ h.driver (omega (arith, h.near)) (hangs n caps r d k q h) ld l b e in (
        f,
        ap suc
            (place_distance n caps (pos n caps r) d (suc k) (q / caps.buffer) k₀ j₀ (omega (arith, h.near)) (hangs n caps r d k q h) l
            (subst⁻¹ (λ (y : ℕ). j₀ < buffers_of n caps y k₀) f b) (e ∙ ap (λ (y : ℕ). place n caps y k₀ j₀) (sym f))),
      )

  -- beyond a buffer stands a node
  buffer_near : (d k j : ℕ) → j < buffers_of n caps d (suc k) → suc (suc k) ≤ top_level
  unfolding buffers_of
  buffer_near d k j b =
      elim (dec_lt top_level (suc (suc k))) [
        | yes h ↦ absurd (omega (arith, buffers_past caps.buffer (row n d) (suc k) (pos n caps r) (omega (arith, row_length n d))))
        | no h ↦ omega arith
      ]

  -- buffer j of a distance feeds those nodes one level further on whose number, divided by s, is j
  pub buffer_feeds : (d k j : ℕ) → d < n.size → suc k ≤ top_level → j < buffers_of n caps d (suc k) →
      feeds (mapped n caps) (place n caps d (suc k) j)
      ≡ count (λ q. eqb (q / caps.buffer) j) (nodes_at caps.buffer (row n d) (suc (suc k)))
  unfolding parent
  buffer_feeds d k j ld l b =
      feeds_single (place n caps d (suc k) j) d (suc (suc k)) ld (omega arith) (buffer_near d k j b)
      (λ d' k' q h e. on_buffer d (suc k) j d' k' q ld l b h e)
      ∙ count_cong _ _ _ (λ q m.
      both _ _
      (λ e. eq-eqb (q / caps.buffer) j (omega (arith, eqb-true _ (place n caps d (suc k) j) e)))
      (λ e. eq-eqb _ _ (ap (place n caps d (suc k)) (eqb-true (q / caps.buffer) j e))))

  pub buffer_branches : (d k j : ℕ) → d < n.size → k ≤ top_level → j < buffers_of n caps d k → feeds (mapped n caps) (place n caps d k j) ≤ caps.buffer
  unfolding buffers_of
  buffer_branches d zero j ld l b = absurd (omega arith)
  buffer_branches d (suc k) j ld l b =
      omega (arith, buffer_feeds d k j ld l b, count_div caps.buffer j (nodes_at caps.buffer (row n d) (suc (suc k))) (pos n caps r))

  -- the records of kind 5 are the M - N buffers of all trees
  pub buffer_count_lem : count (λ i. eqb (mapped_at n caps i).kind buffer) (mapped_size n caps) ≡ sum (tree_size n caps) n.size
  buffer_count_lem =
      count_append is_buffer n.size (sum (tree_size n caps) n.size)
      ∙ omega (
        arith,
        count_none is_buffer n.size
            (λ i l e. no_buffer_lem n r.source i l (kind_kept n caps r i l) (eqb-true (mapped_at n caps i).kind buffer e)),
        count_all (λ y. is_buffer (n.size + y)) (sum (tree_size n caps) n.size)
            (λ y l. eq-eqb _ buffer (buffer_kind n caps r (n.size + y) (omega arith) (omega arith))),
      )
    where
      is_buffer : ℕ → Bool
      is_buffer i = eqb (mapped_at n caps i).kind buffer
