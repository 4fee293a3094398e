-- No legal mapped netlist has fewer buffers: the slots that hang on a net at a level carry its buffers and sinks there, and the
-- buffers one level lower feed them, so that the counts by distance carry as those of a tree, of which `fanout` has the least.
use Prim.Native.Nat.{ℕ, suc, ◌+◌, ◌*◌, ◌-◌, ◌≤◌, ◌<◌}
use mathlib.Core.Path.{◌≡◌, refl, sym, ◌∙◌, ap, subst}
use mathlib.Core.Logic.{◌≢◌, ◌↔◌}
use mathlib.Core.Bool.{Bool, true, false, ◌&&◌}
use lib.Dec.{eqb, lit<}
use lib.ListN.{get_or, get_or-eq_default}
use borrow.Author.Tests.{eqb-true, le-leb}
use native.Mathlib.Omega.{arith}
use native.Mathlib.Nat.{add-suc, add-sub_of_le}
use native.Mathlib.Numerals.{add-one}
use native.Mathlib.Decide.{ℕ_discrete, dec_le, dec_lt}
use Rattle.facts.specs.Sums.{sum, count, count₂}
use Rattle.facts.proofs.Bools.{eqb_same}
use Rattle.facts.proofs.Reflect.{holds}
use Rattle.facts.proofs.Sums.{sum_cong, sum_mono, count_cong, count_mono, count₂_mono, double_count, fibres₁, count_some, count_above}
use Rattle.netlist.specs.declared.Capacities.{Capacities}
use Rattle.netlist.specs.Kinds.{slots, top_level, buffer, arity}
use Rattle.netlist.specs.Records.{Netlist, netlist, used, fanin, names, feeds}
use Rattle.netlist.specs.Source.{IsSource}
use Rattle.netlist.specs.Capacities.{capacity_of}
use Rattle.netlist.specs.Counts.{is_buffer, buffer_count}
use Rattle.netlist.proofs.Source.{no_buffer_lem}
use Rattle.netlist.proofs.Balance.{buffer_slot, buffer_named_lem}
use Rattle.fanout.specs.Nets.{sink_at, sinks, row, nodes_at, buffers_at, net_has_tree, tree_size, fewest_in_all}
use Rattle.fanout.proofs.Nets.{minimal, minimal_nodes, fewest_sum, row_length, row_at_lem}
use Rattle.verifier.specs.Legal.{Legal, Traces}
use Rattle.verifier.specs.Trace.{driver}
use Rattle.verifier.specs.Fewest.{on_net, on_net_at, buffers_on, buffers_on_at, OnNetExactly, NoneFewer, NoneAcceptedFewer}
use Rattle.verifier.proofs.Accepted.{buffers_all, accepted_exactly}
use Rattle.verifier.proofs.Trace.{driver_traces, traces_driver, driver_end, driver_here, driver_back, driver_under}

-- slot j of record i hangs on d's net at a level: it is used, traces back to d, and its record stands there
hangs : Netlist → ℕ → ℕ → ℕ → ℕ → Bool
hangs m d level i j = used m i j && (eqb (driver m (fanin m i j)) d && eqb (m.at i).level level)

-- a row's entry is the number of sinks, or 0 past its end
row_le : (n : Netlist) (d x : ℕ) → get_or (row n d) x 0 ≤ sinks n d x
row_le n d x =
    elim (dec_le x top_level) [
      | yes l ↦ omega (arith, row_at_lem n d x l)
      | no g ↦ omega (arith, get_or-eq_default (row n d) 0 {n = x} (rw (row_length n d) (omega arith)))
    ]

-- what it says that a slot hangs, and that a buffer is on a net, at a level
record Hangs (m : Netlist) (d level i j : ℕ) : Type 0 where
  is_used : j < arity (m.at i).kind
  ends : driver m (fanin m i j) ≡ d
  stands : (m.at i).level ≡ level

hangs_is : (m : Netlist) (d level i j : ℕ) → (hangs m d level i j ≡ true) ↔ Hangs m d level i j
unfolding hangs
hangs_is m d level i j =
    simp holds (λ f. record { is_used = f.0; ends = f.1.0; stands = f.1.1 }, λ h. (h.is_used, (h.ends, h.stands)))

record OnNetAt (m : Netlist) (d level x : ℕ) : Type 0 where
  is_buffer : (m.at x).kind ≡ buffer
  ends : driver m (fanin m x 0) ≡ d
  stands : (m.at x).level ≡ level

on_net_is : (m : Netlist) (d level x : ℕ) → (on_net_at m d level x ≡ true) ↔ OnNetAt m d level x
on_net_is m d level x =
    simp holds (λ f. record { is_buffer = f.0.0; ends = f.0.1; stands = f.1 }, λ h. ((h.is_buffer, h.ends), h.stands))

module _ (n : Netlist) (caps : Capacities) (m : Netlist) (source : IsSource n) (legal : Legal n caps m) where
  -- a source record is no buffer
  kept_no_buffer : (k : ℕ) → k < n.size → (m.at k).kind ≢ buffer
  kept_no_buffer k h = no_buffer_lem n source k h (legal.kept k h).kind

  -- the sinks of d and the buffers of its net hang on it
  sink_hangs :
      (d x i j : ℕ) → i < n.size → sink_at n d x i j ≡ true → hangs m d ((n.at d).level + x) i j ≡ true
  sink_hangs d x i j l h =
      let f = simp holds at h in
      let uses : j < arity (m.at i).kind = rw (legal.kept i l).kind f.0.0 in
      let named = legal.named i j (omega (arith, legal.whole)) uses in
      (hangs_is m d ((n.at d).level + x) i j).1
      (record {
        is_used = uses;
        ends = traces_driver m legal.named legal.balanced (fanin n i j) (fanin m i j) named (legal.traced i j l f.0.0) ∙ f.0.1;
        stands = (legal.kept i l).level ∙ f.1;
      })

  buffer_hangs : (d level x : ℕ) → on_net_at m d level x ≡ true → hangs m d level x 0 ≡ true
  buffer_hangs d level x h =
      let f = (on_net_is m d level x).0 h in
      (hangs_is m d level x 0).1 (record { is_used = buffer_slot m x f.is_buffer; ends = f.ends; stands = f.stands })

  -- (a) the buffers and sinks of d at a level are at most the slots that hang there
  carried :
      (d x : ℕ) →
      buffers_on_at m d ((n.at d).level + x) + sinks n d x ≤ count₂ (hangs m d ((n.at d).level + x)) slots m.size
  unfolding buffers_on_at sinks count₂
  carried d x =
      subst
      (λ (size : ℕ).
      count (on_net_at m d level) size + sum (λ i. count (sink_at n d x i) slots) n.size
      ≤ sum (λ i. count (hangs m d level i) slots) size)
      (add-sub_of_le legal.whole)
      (count_above
      (λ i. count (sink_at n d x i) slots)
      (λ i. count (hangs m d level i) slots)
      (on_net_at m d level)
      n.size
      (m.size - n.size)
      (λ i l. count_mono (sink_at n d x i) (hangs m d level i) slots (λ j b h. sink_hangs d x i j l h))
      (λ i l h. kept_no_buffer i l ((on_net_is m d level i).0 h).is_buffer)
      (λ i l h. count_some (hangs m d level (n.size + i)) 0 slots (lit< tt) (buffer_hangs d level (n.size + i) h)))
    where
      level : ℕ
      level = (n.at d).level + x

  -- what a slot that hangs on d's net names: a record one level lower, whose driver is d
  record Below (d level y : ℕ) : Type 0 where
    named : y < m.size
    ends : driver m y ≡ d
    stands : (m.at y).level ≡ level

  below : (d level i j : ℕ) → i < m.size → hangs m d (suc level) i j ≡ true → Below d level (fanin m i j)
  below d level i j l h =
      let f = (hangs_is m d (suc level) i j).0 h in
      record {
        named = legal.named i j l f.is_used;
        ends = f.ends;
        stands = omega (arith, legal.balanced i j l f.is_used, f.stands);
      }

  -- above d's level that is a buffer, at d's level d itself
  net_buffer : (d level y : ℕ) → d < n.size → (n.at d).level < level → Below d level y → (m.at y).kind ≡ buffer
  net_buffer d level y l above b =
      elim (ℕ_discrete (m.at y).kind buffer) [
        | yes e ↦ e
        | no e ↦
            let own : (m.at y).level ≡ (m.at d).level = ap (λ (z : ℕ). (m.at z).level) (sym (driver_here m legal.named legal.balanced y e) ∙ b.ends) in
            absurd (omega (arith, own, b.stands, (legal.kept d l).level))
      ]

  net_driver : (d y : ℕ) → d < n.size → Below d (n.at d).level y → y ≡ d
  net_driver d y l b =
      elim (ℕ_discrete (m.at y).kind buffer) [
        | yes e ↦
            let under : (m.at d).level < (m.at y).level = rw b.ends at (driver_under m legal.named legal.balanced y b.named e) in
            absurd (omega (arith, under, b.stands, (legal.kept d l).level))
        | no e ↦ sym (driver_here m legal.named legal.balanced y e) ∙ b.ends
      ]

  -- (b) above d's own level plus one, they name buffers of the net, which feed at most s slots each
  fed :
      (d level : ℕ) →
      d < n.size →
      (n.at d).level < level →
      count₂ (hangs m d (suc level)) slots m.size ≤ caps.buffer * buffers_on_at m d level
  unfolding buffers_on_at feeds
  fed d level l above =
      double_count
      (hangs m d (suc level))
      (fanin m)
      (on_net_at m d level)
      caps.buffer
      slots
      m.size
      m.size
      (λ i j a b h. ((below d level i j a h).named, on (fanin m i j) (below d level i j a h)))
      (λ y a h.
      let b = ((on_net_is m d level y).0 h).is_buffer in
      let few : feeds m y ≤ caps.buffer = rw b at (legal.branched y a) in
      let all = count₂_mono (λ i j. hangs m d (suc level) i j && eqb (fanin m i j) y) (names m y) slots m.size (names_there y) in
      omega arith)
    where
      on : (y : ℕ) → Below d level y → on_net_at m d level y ≡ true
      on y b =
          let e = net_buffer d level y l above b in
          (on_net_is m d level y).1
          (record {
            is_buffer = e;
            ends = sym (driver_back m legal.named legal.balanced y b.named e) ∙ b.ends;
            stands = b.stands;
          })

      names_there :
          (y i j : ℕ) → i < m.size → j < slots → (hangs m d (suc level) i j && eqb (fanin m i j) y) ≡ true → names m y i j ≡ true
      names_there y i j a b h = let f = simp holds at h in simp holds (((hangs_is m d (suc level) i j).0 f.0).is_used, f.1)

  -- (c) one level above d they name d itself
  fed_first :
      (d : ℕ) → d < n.size → count₂ (hangs m d (suc (n.at d).level)) slots m.size ≤ feeds m d
  unfolding feeds
  fed_first d l =
      count₂_mono
      (hangs m d (suc (n.at d).level))
      (names m d)
      slots
      m.size
      (λ i j a b h.
      simp holds
      (((hangs_is m d (suc (n.at d).level) i j).0 h).is_used, net_driver d (fanin m i j) l (below d (n.at d).level i j a h)))

  -- the counts of buffers by distance carry as those of a tree
  carries :
      (d : ℕ) →
      d < n.size →
      (k : ℕ) →
      1 ≤ k →
      buffers_on_at m d ((n.at d).level + suc k) + get_or (row n d) (suc k) 0 ≤ caps.buffer * buffers_on_at m d ((n.at d).level + k)
  carries d l k g =
      rw (add-suc (n.at d).level k)
      (omega (
        arith,
        row_le n d (suc k),
        rw (add-suc (n.at d).level k) at (carried d (suc k)),
        fed d ((n.at d).level + k) l (omega arith),
      ))

  -- the nodes left at distance 1 are at most the slots that d feeds
  pub nodes_fed : (d : ℕ) → 0 < caps.buffer → d < n.size → nodes_at caps.buffer (row n d) 1 ≤ feeds m d
  nodes_fed d p l =
      omega (
        arith,
        minimal_nodes caps.buffer (row n d) (λ x. buffers_on_at m d ((n.at d).level + x)) p (carries d l),
        row_le n d 1,
        carried d 1,
        rw (← (add-one (n.at d).level)) at (fed_first d l),
      )

  pub at_levels_lem :
      (d k : ℕ) → 0 < caps.buffer → d < n.size → 1 ≤ k → buffers_at caps.buffer (row n d) k ≤ buffers_on_at m d ((n.at d).level + k)
  at_levels_lem d k p l g = minimal caps.buffer (row n d) (λ x. buffers_on_at m d ((n.at d).level + x)) p (carries d l) k g

  -- buffers stand from the source's size on
  buffer_place : (x : ℕ) → (m.at x).kind ≡ buffer → n.size ≤ x
  buffer_place x b = elim (dec_le n.size x) [ yes l ↦ l | no g ↦ absurd (kept_no_buffer x (omega arith) b) ]

  -- a buffer on d's net stands above d, at most at the largest level
  pub above : (d x : ℕ) → d < n.size → x < m.size → on_net m d x ≡ true →
      ((n.at d).level < (m.at x).level) × ((m.at x).level ≤ top_level)
  above d x l a h =
      let f = simp holds at h in
      let ends : driver m x ≡ d = driver_back m legal.named legal.balanced x a f.0 ∙ f.1 in
      let under : (m.at d).level < (m.at x).level = rw ends at (driver_under m legal.named legal.balanced x a f.0) in
      (omega (arith, (legal.kept d l).level), (legal.buffers x (buffer_place x f.0) a).level)

  -- the buffers on a net are those at its levels
  pub levels_sum :
      (d : ℕ) → d < n.size → buffers_on m d ≡ sum (λ k. buffers_on_at m d ((n.at d).level + suc k)) top_level
  unfolding buffers_on buffers_on_at
  levels_sum d l =
      fibres₁ (on_net m d) (λ x. (m.at x).level - suc (n.at d).level) m.size top_level
      (λ x a h. omega (arith, above d x l a h))
      ∙ sum_cong _ _ top_level (λ k g. count_cong _ _ m.size (λ x a. same k x a (on_net m d x) refl))
    where
      same : (k x : ℕ) → x < m.size → (b : Bool) → on_net m d x ≡ b →
          (on_net m d x && eqb ((m.at x).level - suc (n.at d).level) k) ≡ on_net_at m d ((n.at d).level + suc k) x
      same k x a true e =
          ap (λ (c : Bool). on_net m d x && c)
          (eqb_same ((m.at x).level - suc (n.at d).level) k (m.at x).level ((n.at d).level + suc k)
          (λ h. omega (arith, above d x l a e))
          (λ h. omega arith))
      same k x a false e = rw e

  pub on_nets_lem : (d : ℕ) → 0 < caps.buffer → d < n.size → tree_size n caps d ≤ buffers_on m d
  on_nets_lem d p l =
      omega (
        arith,
        fewest_sum caps.buffer (row n d) top_level p (rw (row_length n d) (omega arith)),
        sum_mono
            (λ k. buffers_at caps.buffer (row n d) (suc k))
            (λ k. buffers_on_at m d ((n.at d).level + suc k))
            top_level
            (λ k g. at_levels_lem d (suc k) p l (omega arith)),
        levels_sum d l,
      )

  -- a buffer's driver is a source record
  driver_place : (x : ℕ) → x < m.size → driver m x < n.size
  driver_place x a =
      elim (dec_lt (driver m x) n.size) [
        | yes l ↦ l
        | no g ↦
            let end = driver_end m legal.named legal.balanced x a in
            absurd (end.1 (legal.buffers (driver m x) (omega arith) end.0).kind)
      ]

  -- all buffers are those on the source's nets
  pub nets_sum : buffer_count m ≡ sum (buffers_on m) n.size
  unfolding buffers_on buffer_count
  nets_sum =
      fibres₁
      (is_buffer m)
      (λ x. driver m (fanin m x 0))
      m.size
      n.size
      (λ x a h. driver_place (fanin m x 0) (buffer_named_lem m legal.named x a (eqb-true _ buffer h)))

  pub in_all_lem : 0 < caps.buffer → fewest_in_all n caps ≤ buffer_count m
  in_all_lem p =
      omega (
        arith,
        sum_mono (tree_size n caps) (buffers_on m) n.size (λ d l. on_nets_lem d p l),
        nets_sum,
      )

  -- a source record feeds at most as many slots as its kind may
  pub has_tree_lem : (d : ℕ) → 0 < caps.buffer → d < n.size → net_has_tree n caps d ≡ true
  has_tree_lem d p l =
      let most : feeds m d ≤ capacity_of caps (n.at d).kind =
      rw (legal.kept d l).kind at (legal.branched d (omega (arith, legal.whole))) in
      le-leb (nodes_at caps.buffer (row n d) 1) (capacity_of caps (n.at d).kind) (omega (arith, nodes_fed d p l))

-- a buffer is on the net of d exactly if its slot, traced back through buffers, ends there
pub on_net_exactly : OnNetExactly
on_net_exactly n caps m legal d x l =
    simp holds (
      λ f. (f.0, subst (λ (e : ℕ). Traces m e (fanin m x 0)) f.1 (driver_traces m legal.named legal.balanced (fanin m x 0) (named f.0))),
      λ t. (t.0, traces_driver m legal.named legal.balanced d (fanin m x 0) (named t.0) t.1),
    )
  where
    named : (m.at x).kind ≡ buffer → fanin m x 0 < m.size
    named b = buffer_named_lem m legal.named x l b

-- demand 3's first half, over netlists
pub none_fewer : NoneFewer
none_fewer n caps m p source legal =
    record {
      trees = λ d l. has_tree_lem n caps m source legal d p l;
      at_levels = λ d k l g. at_levels_lem n caps m source legal d k p l g;
      on_nets = λ d l. on_nets_lem n caps m source legal d p l;
      in_all = in_all_lem n caps m source legal p;
      fits = omega (arith, in_all_lem n caps m source legal p, buffers_all n caps m source legal, legal.whole);
    }

-- and over the bytes that the verifier accepts
pub none_accepted_fewer : NoneAcceptedFewer
none_accepted_fewer source caps mapped buffers e =
    let a = ((accepted_exactly source caps mapped buffers).0 e).0 in
    none_fewer (netlist source) caps (netlist mapped) (omega (arith, a.allowed.low)) a.is_source.is_source a.legal
