-- Laws of writing the net of one or two sinks: its line of buffers, and what its sinks hang on.
use Prim.Native.Nat.{ℕ, zero, suc, ◌+◌, ◌-◌, ◌*◌, ◌≤◌, ◌<◌, ◌/◌}
use mathlib.Core.Path.{◌≡◌, refl, sym, ◌∙◌, ap}
use mathlib.Core.List.{List}
use native.Mathlib.Omega.{arith}
use native.Mathlib.Decide.{dec_lt}
use lib.Dec.{ltb}
use borrow.Author.Tests.{lt-ltb, le-ltb}
use Rattle.facts.specs.Sums.{bit, sum}
use Rattle.facts.specs.Areas.{put}
use Rattle.facts.proofs.Sums.{sum_first}
use Rattle.netlist.specs.declared.Capacities.{Capacities}
use Rattle.netlist.specs.Kinds.{width, top_level}
use Rattle.netlist.specs.Records.{Netlist}
use Rattle.netlist.specs.Bytes.{encoded}
use Rattle.netlist.specs.PrivateBytes.{with_records}
use Rattle.netlist.proofs.Bytes.{encoded_cong}
use Rattle.fanout.specs.Nets.{tree_size}
use Rattle.mapper.specs.Mapped.{buffers_of, block_start, place, parent, buffer_of, buffer_record, mapped_at, mapped}
use Rattle.mapper.specs.PrivateWriting.{Ready, line_parent, line_record, ParentsWritten, on_parent, on_line}
use Rattle.nets.proofs.Lines.{line_at, line_below, line_size}
use Rattle.nets.specs.PrivateChains.{slot_distance, ShortChain}
use Rattle.mapper.proofs.Mapped.{at_place}
use Rattle.mapper.proofs.Nodes.{pos, IsNode, hangs, buffer_node}
use Rattle.mapper.proofs.SinkParents.{sink_node_lem, sink_parent_lem, flat_numbered}

-- d's line as it is written
module _ (n : Netlist) (caps : Capacities) (d top other : ℕ) (r : Ready n caps) (ld : d < n.size) (h : ShortChain n d top other) where
  at : (k : ℕ) → buffers_of n caps d (suc k) ≡ bit (ltb (suc k) top)
  unfolding buffers_of
  at k = line_at n caps d top other r.allowed.low h (suc k) (omega arith)

  below : (k : ℕ) → k < top → sum (buffers_of n caps d) (suc k) ≡ k
  unfolding buffers_of
  below k l = omega (arith, sum_first (buffers_of n caps d) k, line_below n caps d top other r.allowed.low h k l)

  -- what a node hangs on
  line_node : (k q : ℕ) → IsNode n caps r d k q → parent n caps d k q ≡ line_parent d (block_start n caps d) k
  unfolding parent line_parent
  line_node zero q a = refl
  line_node (suc zero) q a = refl
  line_node (suc (suc k)) q a = go (dec_lt (suc k) top)
    where
      go : Dec (suc k < top) → place n caps d (suc k) (q / caps.buffer) ≡ block_start n caps d + k
      go (yes b) = omega (arith, hangs n caps r d k q a, at k, ap bit (lt-ltb (suc k) top b), below k (omega arith))
      go (no b) = absurd (omega (arith, hangs n caps r d k q a, at k, ap bit (le-ltb (suc k) top (omega arith))))

  line_record_lem : (j : ℕ) → j < top - 1 → line_record d (block_start n caps d) (n.at d).level j ≡ mapped_at n caps (block_start n caps d + j)
  unfolding line_record buffer_record
  line_record_lem j l =
      ap (buffer_of ((n.at d).level + suc j)) (sym (line_node (suc j) 0 (buffer_node n caps r d (suc j) 0 ld near_top one)))
      ∙ sym (at_place n caps (pos n caps r) d (suc j) 0 ld near_top one)
      ∙ ap (mapped_at n caps) place_is
    where
      near_top : suc j ≤ top_level
      near_top = omega (arith, h.near)

      one : 0 < buffers_of n caps d (suc j)
      one = omega (arith, at j, ap bit (lt-ltb (suc j) top (omega arith)))

      place_is : place n caps d (suc j) 0 ≡ block_start n caps d + j
      place_is = omega (arith, below j (omega arith))

  pub line_written : (area : List ℕ) → put area (width * block_start n caps d) (encoded (line_record d (block_start n caps d) (n.at d).level) (top - 1))
      ≡ with_records (mapped n caps) (block_start n caps d) (tree_size n caps d) area
  line_written area =
      ap (put area (width * block_start n caps d))
      (encoded_cong _ _ (top - 1) line_record_lem
      ∙ ap (encoded (λ j. mapped_at n caps (block_start n caps d + j))) (sym (line_size n caps d top other r.allowed.low h)))

  pub line_parents : (before after : List ℕ) → ParentsWritten n d (on_line n d (block_start n caps d)) before after → ParentsWritten n d (on_parent n caps) before after
  unfolding on_line
  line_parents before after k =
      record {
        size = k.size;
        at = λ y l c.
            k.at y l c
            ∙ sym (sink_parent_lem n caps r d y l c ∙ line_node (slot_distance n d y) (flat_numbered n caps y d) (sink_node_lem n caps r d y l c));
        others = k.others;
      }
