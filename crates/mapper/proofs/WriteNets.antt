-- Laws of writing one net: what each step leaves is what the next one asks.
use Prim.Native.Nat.{ℕ, zero, suc, ◌+◌, ◌-◌, ◌*◌, ◌≤◌, ◌<◌}
use mathlib.Core.Path.{◌≡◌, refl, sym, ◌∙◌, ap, subst}
use mathlib.Core.Bool.{true}
use mathlib.Core.List.{List}
use native.Mathlib.Omega.{arith}
use native.Mathlib.Decide.{dec_lt}
use mir.Val.{Fits}
use mir.Syntax.{w64}
use lib.ListN.{length, get_or, drop, replicate, get_or-eq_default}
use lib.Seq.{get_or-drop}
use Rattle.facts.specs.Sums.{sum}
use Rattle.facts.specs.Areas.{put}
use Rattle.facts.proofs.Sums.{sum_last}
use Rattle.netlist.specs.declared.Capacities.{Capacities}
use Rattle.netlist.specs.Kinds.{width, top_level, mapped_limit}
use Rattle.netlist.specs.Records.{Netlist}
use Rattle.netlist.specs.Bytes.{encoded}
use Rattle.netlist.specs.PrivateBytes.{with_records}
use Rattle.netlist.proofs.Bytes.{records_none, records_more, records_length}
use Rattle.fanout.specs.Nets.{row, sinks, buffers_at, tree_size}
use Rattle.fanout.specs.declared.TreeTotals.{TreeTotals}
use Rattle.mapper.specs.Mapped.{buffers_of, block_start, mapped_size, mapped}
use Rattle.mapper.specs.PrivateWriting.{Ready, Stale, CountedNet, ParentsSet, ParentsWritten, on_parent, on_line, line_record, Writable, Wrote}
use Rattle.mapper.specs.PrivatePricing.{NodesCounted}
use Rattle.nets.specs.PrivateChains.{slot_end, names_slot, slot_distance, ShortChain}
use Rattle.nets.proofs.Lines.{line_size}
use Rattle.nets.proofs.TreeCounts.{measured_none}
use Rattle.facts.proofs.Blocks.{block_before}
use Rattle.fanout.specs.PrivateWalk.{Filled, Walked}
use Rattle.fanout.proofs.Nets.{nodes_none}
use borrow.Author.Rules.{rules}
use Rattle.mapper.proofs.Nodes.{pos}
use Rattle.mapper.proofs.SinkParents.{named_sink}
use Rattle.mapper.proofs.Lines.{line_written, line_parents}
use Rattle.mapper.proofs.ChainParents.{parents_next_driver}

module _ (n : Netlist) (caps : Capacities) (d top : ℕ) (counts : List ℕ) (r : Ready n caps) (f : Filled n d counts top) where
  -- after the walk the row holds the tree's buffers
  buffer_counts : (after : List ℕ) (t : TreeTotals) (w : Walked caps.buffer counts true after t) → d < n.size →
      (k : ℕ) → 1 ≤ k → k ≤ top_level → get_or after k 0 ≡ buffers_of n caps d k
  unfolding buffers_of
  buffer_counts after t w ld zero a b = absurd (omega arith)
  buffer_counts after t w ld (suc k) a b =
      w.at (suc k) a
      ∙ ap (λ (r : List ℕ). buffers_at caps.buffer r (suc k)) f.counted

  pub net_counted : (after : List ℕ) (t : TreeTotals) → Walked caps.buffer counts true after t → d < n.size → CountedNet n caps d after top
  net_counted after t w ld =
      record {
        ready = r;
        driver = ld;
        buffers = record { size = w.size; at = buffer_counts after t w ld };
        near = f.near;
        beyond = λ k l.
            nodes_none caps.buffer (drop k (row n d)) (pos n caps r)
            (λ x.
            get_or-drop k (row n d) x 0
            ∙ ap (λ (r : List ℕ). get_or r (k + x) 0) (sym f.counted)
            ∙ f.beyond (k + x) (omega arith));
      }

-- a row of nodes can be cleared up to top
pub net_stale : (n : Netlist) (caps : Capacities) (d top : ℕ) (counts : List ℕ) → NodesCounted n caps d counts top → Stale counts top
net_stale n caps d top counts g =
    record {
      size = g.nodes.size;
      near = g.near;
      beyond = λ k l.
          elim (dec_lt top_level k) [
            | yes m ↦ get_or-eq_default counts 0 {n = k} (omega (arith, g.nodes.size))
            | no m ↦ g.nodes.at k (omega arith) (omega arith) ∙ g.beyond k l
          ];
    }

-- the net of d, by its sinks
module _ (n : Netlist) (caps : Capacities) (d at : ℕ) (first next : List ℕ) (end : ℕ) (counts base area : List ℕ)
    (w : Writable n caps d at first next end counts base area) where
  -- the next net begins where this one ends
  next_start : at + tree_size n caps d ≡ block_start n caps (d + 1)
  next_start = omega (arith, w.start, sum_last (tree_size n caps) d)

  -- the buffers between two blocks' starts are its own
  pub net_behind : (after : ℕ) → after ≡ block_start n caps (d + 1) → at ≤ after
  net_behind after e = omega (arith, next_start)

  pub net_size : (after : ℕ) → after ≡ block_start n caps (d + 1) → after - at ≡ tree_size n caps d
  net_size after e = omega (arith, next_start)

  pub wrote : (after : ℕ) (next' counts' base' area' : List ℕ) → after ≡ block_start n caps (d + 1) → counts' ≡ replicate (suc top_level) 0 →
      length base' ≡ suc top_level → ParentsWritten n d (on_parent n caps) next next' → area' ≡ with_records (mapped n caps) at (tree_size n caps d) area →
      Wrote n caps d at first next' end counts' base' area area' after
  wrote after next' counts' base' area' e c b k a =
      search (rules, parents_next_driver)

  -- without sinks it has no buffers, and no slot names d
  pub net_none : ((k : ℕ) → sinks n d k ≡ 0) → Wrote n caps d at first next end counts base area area at
  net_none z =
      wrote at next counts base area (omega (arith, none, next_start)) w.clear w.room
      record { size = refl; at = λ y l c. absurd (unnamed y l c); others = λ y c. refl }
      (sym (ap (λ (c : ℕ). with_records (mapped n caps) at c area) (sym none) ∙ records_none (mapped n caps) at area))
    where
      none : 0 ≡ tree_size n caps d
      none = (measured_none n caps d w.ready.allowed.low z).buffers

      unnamed : (y : ℕ) → y < slot_end n → names_slot n d y ≡ true → ⊥
      unnamed y l c = omega (arith, z (slot_distance n d y), named_sink n caps w.ready d y l c)

  pub line_start : at ≤ mapped_limit
  line_start = omega (arith, w.start, w.ready.fits, block_before (tree_size n caps) d n.size w.driver)

  -- of one or two it is a line
  module _ (top other : ℕ) (f : ShortChain n d top other) where
    size : tree_size n caps d ≡ top - 1
    size = line_size n caps d top other w.ready.allowed.low f

    inside : at + (top - 1) ≤ mapped_size n caps
    inside = omega (arith, w.start, size, block_before (tree_size n caps) d n.size w.driver)

    pub line_room : width * (at + (top - 1)) ≤ length area
    line_room = omega (arith, inside, w.long)

    pub line_fits : at + (top - 1) < 65536
    line_fits = omega (arith, inside, w.ready.fits)

    pub line_levels : (low : ℕ) → low ≡ (n.at d).level → low + (top - 1) < 65536
    line_levels low e = omega (arith, f.near, w.ready.source.levels d w.driver)

    pub line_next : Fits w64 (at + (top - 1))
    line_next = omega (arith, line_fits)

    pub net_line : (low : ℕ) (next' area' : List ℕ) → low ≡ (n.at d).level → ParentsWritten n d (on_line n d at) next next' →
        area' ≡ put area (width * at) (encoded (line_record d at low) (top - 1)) →
        Wrote n caps d at first next' end counts base area area' (at + (top - 1))
    net_line low next' area' e k a =
        wrote (at + (top - 1)) next' counts base area'
        (omega (arith, size, next_start))
        w.clear w.room
        (line_parents n caps d top other w.ready w.driver f next next' (subst (λ (x : ℕ). ParentsWritten n d (on_line n d x) next next') w.start k))
        (a ∙ rw (e, w.start) (line_written n caps d top other w.ready w.driver f area))

-- the nets of the drivers below d are written
pub record NetsWritten (n : Netlist) (caps : Capacities) (first : List ℕ) (end : ℕ) (area₀ : List ℕ) (d at : ℕ) (next counts base area : List ℕ) : Type 0 where
  pub within : d ≤ n.size
  pub start : at ≡ block_start n caps d
  pub clear : counts ≡ replicate (suc top_level) 0
  pub room : length base ≡ suc top_level
  pub parents : ParentsSet n caps first next d end
  pub long : length area ≡ length area₀
  pub bytes : area ≡ with_records (mapped n caps) n.size (sum (tree_size n caps) d) area₀

module _ (n : Netlist) (caps : Capacities) (first : List ℕ) (end : ℕ) (area₀ : List ℕ) (r : Ready n caps) (fits : width * mapped_size n caps ≤ length area₀) where
  pub nets_start : (N : ℕ) (next counts base : List ℕ) → N ≡ n.size → counts ≡ replicate (suc top_level) 0 → length base ≡ suc top_level →
      ParentsSet n caps first next 0 end → NetsWritten n caps first end area₀ 0 N next counts base area₀
  unfolding sum
  nets_start N next counts base e c b h =
      let bytes = sym (records_none (mapped n caps) n.size area₀) in search arith

  module _ (d at N : ℕ) (next counts base area : List ℕ) (h : NetsWritten n caps first end area₀ d at next counts base area) (size : N ≡ n.size) where
    pub nets_more : (after : ℕ) (next' counts' base' area' : List ℕ) → d < N →
        Wrote n caps d at first next' end counts' base' area area' after → NetsWritten n caps first end area₀ (d + 1) after next' counts' base' area'
    nets_more after next' counts' base' area' l w =
        record {
          within = omega arith;
          start = w.start;
          clear = w.clear;
          room = w.room;
          parents = w.parents;
          long = ap length w.bytes ∙ records_length (mapped n caps) at (tree_size n caps d) area (omega (arith, inside, h.long)) ∙ h.long;
          bytes =
              rw (w.bytes, h.bytes, h.start, ← sum_last (tree_size n caps) d)
              (records_more (mapped n caps) n.size (sum (tree_size n caps) d) area₀ (tree_size n caps d) (omega (arith, inside, h.start)));
        }
      where
        inside : at + tree_size n caps d ≤ mapped_size n caps
        inside = omega (arith, h.start, block_before (tree_size n caps) d n.size (omega arith))
