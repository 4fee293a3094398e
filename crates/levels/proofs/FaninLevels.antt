-- Laws of levels worked out in arrays: how low a record may stand is the largest entry of its slots.
use Prim.Native.Nat.{ℕ, suc, ◌+◌, max, ◌≤◌, ◌<◌}
use native.Mathlib.Decide.{dec_lt, ℕ_discrete}
use native.Mathlib.Numerals.{add-one}
use native.Mathlib.Omega.{arith}
use mathlib.Core.Path.{◌≡◌, refl, sym, ap, ap₂, ◌∙◌}
use mathlib.Core.Bool.{cond}
use mathlib.Core.List.{List}
use lib.ListN.{length, get_or, set, length-set}
use lib.Seq.{get_or-set_same, get_or-set_other}
use lib.Dec.{eqb}
use borrow.Author.Tests.{ltb-true, eqb-true, eq-eqb, ne_eqb}
use Rattle.facts.specs.Sums.{largest}
use Rattle.facts.proofs.Lists.{get_d_any}
use Rattle.facts.proofs.Bools.{and_l, and_r}
use Rattle.facts.proofs.Sums.{count₂_none, largest_cong, largest_used}
use Rattle.netlist.specs.declared.Record.{Record}
use Rattle.netlist.specs.Kinds.{slots, unused, output, arity}
use Rattle.netlist.specs.Records.{Netlist, netlist, record_count, record_at, slot, used, fanin, names, feeds, is_output}
use Rattle.netlist.specs.Source.{Structured}
use Rattle.netlist.proofs.Checks.{arity_slots}
use Rattle.fanout.specs.Nets.{sink_limit}
use Rattle.levels.specs.Levels.{height, sink_level, lowest, output_lowest, least_level}
use Rattle.levels.specs.HeightTable.{height_row, height_in}
use Rattle.levels.specs.PrivateLevels.{entries, entry_place, fanin_entry, EntriesInside, Raised, Unraised, WorkedOut, WithOutputs}
use Rattle.levels.proofs.HeightRows.{looked_up}
use Rattle.levels.proofs.Lowest.{lowest_over, sinks_few, sink_small}

-- the entry of a slot stands within
module _ (reach : List ℕ) (n : ℕ) (r : Record) (i : EntriesInside reach n r) (long : length r.slots ≡ slots) where
  module _ (j y : ℕ) (h : j < slots) (q : y ≡ entry_place n (get_or r.slots j 0)) where
    place : y ≡ entry_place n (slot r j)
    place = q ∙ ap (entry_place n) (get_d_any r.slots j 0 unused (omega (arith, long)))

    pub entry_is : get_or reach y 0 ≡ fanin_entry reach n r j
    entry_is = ap (entries reach) place

  -- an output has one used slot
  pub output_level_lem : (y : ℕ) → r.kind ≡ output → y ≡ entry_place n (get_or r.slots 0 0) → get_or reach y 0 ≡ largest (fanin_entry reach n r) slots
  unfolding largest
  output_level_lem y o q =
      let one : arity r.kind ≡ 1 = ap arity o in
      sym (largest_used (fanin_entry reach n r) 1 slots (omega arith) (λ j a b. i.zero j (omega arith) b)
      ∙ omega (arith, entry_is 0 y (omega arith) q))

-- no slot names what stands past the end
past_none : (m : Netlist) → Structured m → feeds m m.size ≡ 0
unfolding feeds
past_none m structured =
    count₂_none (names m m.size) slots m.size
    (λ i j l h e.
    omega (
      arith,
      structured.earlier i j l (ltb-true j (arity (m.at i).kind) (and_l (used m i j) _ e)),
      eqb-true (fanin m i j) m.size (and_r (used m i j) _ e),
    ))

module _ (s : ℕ) (m : Netlist) (structured : Structured m) (i : ℕ) (reach : List ℕ) (c : Raised s m i reach) (within : i ≤ m.size)
    (k : ℕ) (a : k ≤ i) (l : k < m.size) where
  unused_place : (j : ℕ) → arity (m.at k).kind ≤ j → j < slots → entry_place m.size (slot (m.at k) j) ≡ m.size
  unused_place j u v = rw (eq-eqb (slot (m.at k) j) unused (structured.empty k j l u v))

  used_place : (j : ℕ) → j < arity (m.at k).kind → entry_place m.size (slot (m.at k) j) ≡ fanin m k j
  used_place j u = rw (ne_eqb (slot (m.at k) j) unused (λ e. omega (arith, structured.earlier k j l u, structured.few)))

  -- every slot of record k has an entry, an unused one a 0
  entries_inside : EntriesInside reach m.size (m.at k)
  entries_inside =
      record {
        inside = λ j v. elim (dec_lt j (arity (m.at k).kind)) [
          | yes u ↦ rw (used_place j u) (omega (arith, structured.earlier k j l u, c.room))
          | no u ↦ rw (unused_place j (omega arith) v) c.room
        ];
        near = λ j v. elim (dec_lt j (arity (m.at k).kind)) [
          | yes u ↦ rw (used_place j u) (omega (arith, structured.earlier k j l u, structured.few))
          | no u ↦ rw (unused_place j (omega arith) v) structured.few
        ];
        zero = λ j u v. ap (entries reach) (unused_place j u v) ∙ c.rest m.size within c.room ∙ past_none m structured;
      }

  -- how low it may stand is the largest of them
  lowest_read : largest (fanin_entry reach m.size (m.at k)) slots ≡ lowest s m k
  lowest_read =
      largest_used (fanin_entry reach m.size (m.at k)) (arity (m.at k).kind) slots (arity_slots (m.at k).kind) entries_inside.zero
      ∙ largest_cong _ _ (arity (m.at k).kind)
      (λ j u. ap (entries reach) (used_place j u) ∙ c.below (fanin m k j) (omega (arith, structured.earlier k j l u)))
      ∙ sym (lowest_over s m structured k l)

-- levels are worked out below k
pub record Levelling (source : List ℕ) (s : ℕ) (reach levels : List ℕ) (top k : ℕ) : Type 0 where
  pub raised : Raised s (netlist source) k reach
  pub own : (d : ℕ) → d < k → get_or levels d 0 ≡ lowest s (netlist source) d
  pub outputs : top ≡ largest (output_lowest s (netlist source)) k

module _ (source : List ℕ) (s : ℕ) (reach₀ levels₀ : List ℕ) (u : Unraised source s reach₀ levels₀) where
  pub levelling_start : Levelling source s reach₀ levels₀ 0 0
  unfolding largest
  levelling_start = record { raised = u.raised; own = λ d l. absurd (omega arith); outputs = refl }

  structured : Structured (netlist source)
  structured = u.unlevelled.source.structured

  -- record k next
  module _ (n : ℕ) (all : n ≡ record_count source) (reach levels : List ℕ) (top k : ℕ) (c : Levelling source s reach levels top k) (h : k < n) where
    present : k < record_count source
    present = omega (arith, all)

    pub slots_inside : (r : Record) → r ≡ record_at source k → EntriesInside reach n r
    slots_inside r e = rw (all, e) (entries_inside s (netlist source) structured k reach c.raised (omega (arith, present)) k (omega arith) present)

    reach_inside : k < length reach
    reach_inside = omega (arith, present, c.raised.room)

    sinks_are : get_or reach k 0 ≡ feeds (netlist source) k
    sinks_are = c.raised.rest k (omega arith) reach_inside

    sinks_within : get_or reach k 0 ≤ sink_limit
    sinks_within = omega (arith, sinks_are, sinks_few s (netlist source) structured k)

    module _ (row : List ℕ) (i : row ≡ height_row s) (r : Record) (e : r ≡ record_at source k) (level : ℕ) (f : level ≡ largest (fanin_entry reach n r) slots)
        (rise : ℕ) (g : rise ≡ suc (height_in row (get_or reach k 0))) where
      level_is : level ≡ lowest s (netlist source) k
      level_is =
          f
          ∙ ap₂ (λ (a : ℕ) (x : Record). largest (fanin_entry reach a x) slots) all e
          ∙ lowest_read s (netlist source) structured k reach c.raised (omega (arith, present)) k (omega arith) present

      here : level + rise ≡ sink_level s (netlist source) (lowest s (netlist source)) k
      here = rw (g, i) (omega (arith, level_is, looked_up s (get_or reach k 0) u.unlevelled.low sinks_within, ap (height s) sinks_are))

      pub entry_fits : level + rise < 65536
      entry_fits = omega (arith, here, sink_small s (netlist source) structured k present)

      pub levelling_more : (own next : ℕ) → length levels ≡ length levels₀ → own ≡ cond (eqb r.kind output) level 0 → next ≡ max top own →
          Levelling source s (set reach k (level + rise)) (set levels k level) next (k + 1)
      unfolding largest
      levelling_more own next long p q =
          record {
            raised =
                record {
                  room = omega (arith, length-set reach k (level + rise), c.raised.room);
                  below = λ d l. elim (ℕ_discrete d k) [
                    | yes same ↦ rw same (get_or-set_same reach k (level + rise) 0 reach_inside ∙ here)
                    | no other ↦ get_or-set_other reach k d (level + rise) 0 other ∙ c.raised.below d (omega arith)
                  ];
                  rest = λ d a l.
                      get_or-set_other reach k d (level + rise) 0 (λ x. omega arith) ∙ c.raised.rest d (omega arith) (omega (arith, length-set reach k (level + rise)));
                };
            own = λ d l. elim (ℕ_discrete d k) [
              | yes same ↦ rw same (get_or-set_same levels k level 0 (omega (arith, present, u.enough, long)) ∙ level_is)
              | no other ↦ get_or-set_other levels k d level 0 other ∙ c.own d (omega arith)
            ];
            outputs = q ∙ rw (add-one k, c.outputs, p, e, level_is) refl;
          }

-- the outputs below k have their common level
pub record SettingOutputs (source : List ℕ) (top : ℕ) (before levels : List ℕ) (k : ℕ) : Type 0 where
  pub set_below : (d : ℕ) → d < k → get_or levels d 0 ≡ cond (is_output (netlist source) d) top (get_or before d 0)
  pub rest : (d : ℕ) → k ≤ d → get_or levels d 0 ≡ get_or before d 0

-- so each record has its least level
pub levels_are : (source : List ℕ) (s : ℕ) (first second third : List ℕ) (top : ℕ) → WorkedOut source s first second top →
    WithOutputs (netlist source) top second third → (k : ℕ) → k < record_count source → entries third k ≡ least_level s (netlist source) k
levels_are source s first second third top w o k l =
    o.at k l ∙ ap₂ (λ (a b : ℕ). cond (is_output (netlist source) k) a b) w.outputs (w.own k l)
