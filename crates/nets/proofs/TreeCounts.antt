-- Laws of counting trees: of one net, of each net in turn, and of the sum of their numbers.
use Prim.Native.Nat.{ℕ, zero, suc, min, ◌+◌, ◌*◌, ◌^◌, ◌≤◌, ◌<◌}
use mathlib.Core.Path.{◌≡◌, refl, sym, ◌∙◌, ap, ap₂, subst}
use mathlib.Core.Logic.{◌⊎◌, inl, inr}
use mathlib.Core.Bool.{Bool, true, false, cond, not}
use mathlib.Core.List.{List}
use native.Mathlib.Omega.{arith}
use native.Mathlib.Numerals.{add-one}
use mir.Val.{Fits}
use mir.Syntax.{w32, w64}
use native.Mathlib.Decide.{ℕ_discrete}
use lib.ListN.{length, replicate, get_or, take, drop, set, length-set}
use lib.Dec.{ltb, leb}
use borrow.Author.Tests.{lt-ltb, le-ltb, not-false}
use Rattle.facts.specs.Answers.{Passed, Refused}
use Rattle.std.specs.List.{sum_by}
use Rattle.std.proofs.lemmas.List.Sums.{sum_by_more}
use Rattle.facts.specs.Checks.{check, ◌and_then◌, scan}
use Rattle.facts.specs.Sums.{sum}
use Rattle.facts.proofs.Reflect.{check_passed, scan_passed}
use Rattle.facts.proofs.Sums.{sum_mono, sum_const, sum_last, sum_cong}
use Rattle.facts.proofs.Loops.{scan_last}
use Rattle.netlist.specs.declared.Capacities.{Capacities}
use Rattle.netlist.specs.Kinds.{top_level, slots, source_limit}
use Rattle.netlist.specs.Records.{Netlist, netlist, record_count}
use Rattle.netlist.specs.Source.{IsSource}
use Rattle.netlist.specs.Capacities.{capacity_of, Allowed}
use Rattle.fanout.specs.Nets.{net_has_tree, tree_size, row, fewest_in_all, sinks}
use Rattle.fanout.specs.Answer.{no_tree, count_numbers}
use Rattle.fanout.specs.declared.TreeTotals.{TreeTotals}
use Rattle.nets.specs.Checks.{tree_check, trees_below, tree_checks}
use Rattle.nets.specs.PrivateChains.{Chained, Measured, Linked}
use Rattle.nets.specs.PrivateCounts.{net_number, NetNumbers}
use Rattle.fanout.proofs.Walking.{buffer_limit, fewest_small}
use lib.Seq.{get_or-drop, get_or-set_same, get_or-set_other}
use Rattle.fanout.specs.PrivateWalk.{Filled, Walked}
use Rattle.fanout.proofs.Nets.{nodes_none, buffers_none}
use Rattle.fanout.proofs.Rows.{row_none}
use Rattle.netlist.specs.Checks.{input_checks}
use Rattle.netlist.proofs.Source.{input_passed}
use Rattle.nets.proofs.Chains.{chained_all}

-- no sink: no node and no buffer
pub measured_none : (n : Netlist) (caps : Capacities) (d : ℕ) → 2 ≤ caps.buffer → ((k : ℕ) → sinks n d k ≡ 0) →
    Measured n caps d (record { nodes = 0; buffers = 0 })
measured_none n caps d p z =
    record {
      nodes = sym (nodes_none caps.buffer (drop 1 (row n d)) (omega arith) none);
      buffers = sym (buffers_none caps.buffer (drop 1 (row n d)) (omega arith) none);
    }
  where
    none : (x : ℕ) → get_or (drop 1 (row n d)) x 0 ≡ 0
    none x = get_or-drop 1 (row n d) x 0 ∙ row_none n d (1 + x) (z (1 + x))

pub measured : (n : Netlist) (caps : Capacities) (d top : ℕ) (counts : List ℕ) → Filled n d counts top → (after : List ℕ) (t : TreeTotals) →
    Walked caps.buffer counts false after t → Measured n caps d t
measured n caps d top counts f after t w = record { nodes = cc; buffers = cc }

-- the number of a net, from its tree
number_is : (n : Netlist) (caps : Capacities) (d : ℕ) (t : TreeTotals) → Measured n caps d t → (b : Bool) (v : ℕ) →
    b ≡ leb t.nodes (capacity_of caps (n.at d).kind) → v ≡ cond b t.buffers no_tree → v ≡ net_number n caps d
unfolding count_numbers
number_is n caps d t m b v e f = f ∙ go b refl
  where
    go : (x : Bool) → b ≡ x → cond x t.buffers no_tree ≡ net_number n caps d
    go true g = m.buffers ∙ rw (← m.nodes, ← e, g) refl
    go false g = rw (← m.nodes, ← e, g) refl

-- 8 of driver d after those before it, of which `stop` is the first without a tree, if one is
stop_more : (N stop d : ℕ) (b : Bool) (next : ℕ) → d < N → (stop < d) ⊎ (N ≤ stop) → next ≡ cond b stop (min stop d) →
    ((check 8 stop (ltb stop d) and_then check 8 d (not b)) ≡ check 8 next (ltb next (d + 1))) × ((next < d + 1) ⊎ (N ≤ next))
stop_more N stop d true next l (inl k) e =
    (rw (e, lt-ltb stop d k, lt-ltb stop (d + 1) (omega arith)) refl, inl (omega arith))
stop_more N stop d true next l (inr k) e =
    (rw (e, le-ltb stop d (omega arith), le-ltb stop (d + 1) (omega arith)) refl, inr (omega arith))
stop_more N stop d false next l (inl k) e =
    let q : next ≡ stop = omega arith in
    (rw (q, lt-ltb stop d k, lt-ltb stop (d + 1) (omega arith)) refl, inl (omega arith))
stop_more N stop d false next l (inr k) e =
    let q : next ≡ d = omega arith in
    (rw (q, le-ltb stop d (omega arith), lt-ltb d (d + 1) (omega arith)) refl, inl (omega arith))

-- the nets of the records before d are counted: their numbers stand, `stop` is the first of them without a tree, if one is, and the
-- total is that of their buffers
pub record Counting (n : Netlist) (caps : Capacities) (N : ℕ) (counts totals : List ℕ) (stop total d : ℕ) : Type 0 where
  pub within : d ≤ N
  pub room : N ≤ length totals
  pub numbers : NetNumbers n caps d totals
  pub checks : trees_below n caps d ≡ check 8 stop (ltb stop d)
  pub apart : (stop < d) ⊎ (N ≤ stop)
  pub before : total ≡ sum (tree_size n caps) d
  pub small : total ≤ buffer_limit * d
  pub clear : counts ≡ replicate (suc top_level) 0

module _ (n : Netlist) (caps : Capacities) (N : ℕ) where
  pub count_start : (counts totals : List ℕ) → N ≤ length totals → counts ≡ replicate (suc top_level) 0 → Counting n caps N counts totals N 0 0
  unfolding scan sum
  count_start counts totals l e =
      record {
        within = omega arith;
        room = l;
        numbers = record { at = λ d b. absurd (omega arith) };
        checks = rw (le-ltb N 0 (omega arith)) refl;
        apart = inr (omega arith);
        before = refl;
        small = omega arith;
        clear = e;
      }

  module _ (counts totals : List ℕ) (stop total d : ℕ) (h : Counting n caps N counts totals stop total d) where
    pub count_inside : d < N → d < length totals
    count_inside l = omega (arith, h.room)

    module _ (size : N ≡ n.size) where
      ended : N ≤ d → trees_below n caps d ≡ tree_checks n caps
      ended l = let e : d ≡ n.size = omega (arith, h.within) in ap (trees_below n caps) e

      -- some driver has no tree, or all have one
      pub count_stop : stop < N → N ≤ d → Refused 8 stop ≡ tree_checks n caps
      count_stop k l = sym (sym (ended l) ∙ h.checks ∙ ap (check 8 stop) (lt-ltb stop d (omega arith)))

      pub count_end : N ≤ stop → N ≤ d → Passed ≡ tree_checks n caps
      count_end k l = sym (sym (ended l) ∙ h.checks ∙ ap (check 8 stop) (le-ltb stop d (omega (arith, h.within))))

      pub count_total : N ≤ d → total ≡ fewest_in_all n caps
      count_total l = let e : d ≡ n.size = omega (arith, h.within) in h.before ∙ ap (sum (tree_size n caps)) e

      module _ (first next : List ℕ) (end : ℕ) (t : TreeTotals) (chained : Chained n first next 0 end) (a : Allowed caps) (l : d < N)
          (g : Measured n caps d t) where
        few : t.buffers ≤ buffer_limit
        few = omega (arith, g.buffers, fewest_small n caps.buffer d chained.source a.low)

        -- a net's buffers are few enough to add
        pub count_fits : Fits w64 (total + t.buffers)
        count_fits = omega (arith, h.small, few, chained.source.few)

        pub count_more : (after totals' : List ℕ) (b : Bool) (stop' : ℕ) → after ≡ replicate (suc top_level) 0 →
            b ≡ leb t.nodes (capacity_of caps (n.at d).kind) → stop' ≡ cond b stop (min stop d) →
            totals' ≡ set totals d (cond b t.buffers no_tree) → Counting n caps N after totals' stop' (total + t.buffers) (d + 1)
        count_more after totals' b stop' z e p q =
            record {
              within = omega arith;
              room = omega (arith, ap length q, length-set totals d v, h.room);
              numbers = record { at = λ x k. number x k (ℕ_discrete x d) };
              checks = scan_last (tree_check n caps) d ∙ ap₂ ◌and_then◌ h.checks (rw (e, g.nodes) refl) ∙ moved.0;
              apart = moved.1;
              before = omega (arith, h.before, g.buffers, sum_last (tree_size n caps) d);
              small = omega (arith, h.small, few);
              clear = z;
            }
          where
            v : ℕ
            v = cond b t.buffers no_tree

            moved : ((check 8 stop (ltb stop d) and_then check 8 d (not b)) ≡ check 8 stop' (ltb stop' (d + 1))) × ((stop' < d + 1) ⊎ (N ≤ stop'))
            moved = stop_more N stop d b stop' l h.apart p

            number : (x : ℕ) → x < d + 1 → Dec (x ≡ d) → get_or totals' x 0 ≡ net_number n caps x
            number x k (yes f) =
                rw (f, q) (get_or-set_same totals d v 0 (omega (arith, h.room)) ∙ number_is n caps d t g b v e refl)
            number x k (no f) = ap (λ (s : List ℕ). get_or s x 0) q ∙ get_or-set_other totals d x v 0 f ∙ h.numbers.at x (omega (arith, f))

    pub count_numbers_lem : N ≤ d → NetNumbers n caps N totals
    count_numbers_lem l = let e : d ≡ N = omega (arith, h.within) in subst (λ (x : ℕ). NetNumbers n caps x totals) e h.numbers

-- the number of a net that has a tree
tree_number : (n : Netlist) (caps : Capacities) (d : ℕ) → net_has_tree n caps d ≡ true → net_number n caps d ≡ tree_size n caps d
unfolding count_numbers
tree_number n caps d e = rw e refl

-- the first m numbers of a list, summed
module _ (totals : List ℕ) where
  pub sum_listed : (m : ℕ) → m ≤ length totals → sum_by (λ (x : ℕ). x) (take m totals) ≡ sum (λ d. get_or totals d 0) m
  unfolding sum
  sum_listed zero l = refl
  sum_listed (suc m) l = rw (← add-one m) (sum_by_more (λ (x : ℕ). x) totals m 0 (omega arith)) ∙ ap (λ (x : ℕ). x + get_or totals m 0) (sum_listed m (omega arith))

  -- a few numbers of four bytes do not overflow eight
  pub sum_fits : (m : ℕ) → (m ≤ length totals) × (m ≤ source_limit) → ((d : ℕ) → Fits w32 (get_or totals d 0)) → sum_by (λ (x : ℕ). x) (take m totals) < 2 ^ 64
  sum_fits m l f =
      omega (
        arith,
        sum_listed m l.0,
        sum_mono (λ d. get_or totals d 0) (λ d. no_tree) m (λ d b. omega (arith, f d)),
        sum_const no_tree m,
      )

-- the sum of all trees cannot overflow
pub total_small : (n : Netlist) (caps : Capacities) → IsSource n → 2 ≤ caps.buffer → fewest_in_all n caps ≤ buffer_limit * n.size
total_small n caps i l =
    omega (
      arith,
      sum_mono (tree_size n caps) (λ d. buffer_limit) n.size (λ d b. fewest_small n caps.buffer d i l),
      sum_const buffer_limit n.size,
    )

-- where all nets have trees, their numbers sum up to their buffers
pub numbers_sum : (bytes : List ℕ) (caps : Capacities) (N : ℕ) (totals : List ℕ) (m : ℕ) →
    tree_checks (netlist bytes) caps ≡ Passed → NetNumbers (netlist bytes) caps N totals → N ≡ record_count bytes → m ≤ N →
    sum (λ d. get_or totals d 0) m ≡ sum (tree_size (netlist bytes) caps) m
numbers_sum bytes caps N totals m c t e k =
    sum_cong _ _ m
    (λ d l.
    t.at d (omega arith) ∙ tree_number (netlist bytes) caps d
    (not-false _ ((check_passed 8 d _).0 ((scan_passed (tree_check (netlist bytes) caps) (record_count bytes)).0 c d (omega arith)))))

-- what 1, 26 and 2 to 7 show
module _ (bytes : List ℕ) (caps : Capacities) (i : input_checks bytes caps ≡ Passed) where
  pub input_source : IsSource (netlist bytes)
  input_source = (input_passed bytes caps i).is_source.is_source

  pub input_allowed : Allowed caps
  input_allowed = (input_passed bytes caps i).allowed

  -- the chains once all slots are linked
  module _ (N : ℕ) (size : N ≡ record_count bytes) where
    pub input_chained : (first next : List ℕ) (end : ℕ) → end ≡ slots * N → Linked (netlist bytes) first next 0 →
        Chained (netlist bytes) first next 0 end
    input_chained first next end e l =
        chained_all (netlist bytes) first next end input_source l (e ∙ ap (λ (k : ℕ). slots * k) size)
