-- Specification 2.4, 2.5: the mapped netlist of a source, by index.
use Rattle.std.specs.Prelude.{ℕ, zero, suc, ◌+◌, ◌-◌, ◌/◌, Bool, cond, ◌∷◌, replicate, ltb}
use Rattle.facts.specs.Sums.{sum, count, count₂}
use Rattle.facts.specs.Blocks.{block}
use Rattle.facts.specs.Lists.{tabulate}
use Rattle.netlist.specs.declared.Capacities.{Capacities}
use Rattle.netlist.specs.declared.Record.{Record}
use Rattle.netlist.specs.Kinds.{slots, unused, top_level, buffer}
use Rattle.netlist.specs.Records.{Netlist, blank, used, fanin}
use Rattle.fanout.specs.Nets.{row, sink_at, buffers_at, tree_size, fewest_in_all}

-- the buffers of d's tree at distance k; at 0 stands the driver
unfoldable pub buffers_of : Netlist → Capacities → ℕ → ℕ → ℕ
buffers_of n caps d zero = 0
buffers_of n caps d (suc k) = buffers_at caps.buffer (row n d) (suc k)

-- the index of the first buffer of d's block: the source and the trees of all drivers before d stand before it
abbrev pub block_start : Netlist → Capacities → ℕ → ℕ
block_start n caps d = n.size + sum (tree_size n caps) d

-- M, the number of records
abbrev pub mapped_size : Netlist → Capacities → ℕ
mapped_size n caps = n.size + fewest_in_all n caps

-- the index of buffer j of d's tree at distance k
abbrev pub place : Netlist → Capacities → ℕ → ℕ → ℕ → ℕ
place n caps d k j = block_start n caps d + (sum (buffers_of n caps d) k + j)

-- what node q of d's tree at distance k hangs on: the driver at distance 1, else buffer q / s one level nearer, s a buffer's capacity
unfoldable pub parent : Netlist → Capacities → ℕ → ℕ → ℕ → ℕ
parent n caps d zero q = d
parent n caps d (suc zero) q = d
parent n caps d (suc (suc k)) q = place n caps d (suc k) (q / caps.buffer)

-- a buffer at a level, on its fanin
abbrev pub buffer_of : ℕ → ℕ → Record
buffer_of level fanin =
    record { kind = buffer; inversion = 0; level = level; slots = fanin ∷ replicate (slots - 1) unused }

-- buffer j of d's tree at distance k
unfoldable pub buffer_record : Netlist → Capacities → ℕ → ℕ → ℕ → Record
buffer_record n caps d k j = buffer_of ((n.at d).level + k) (parent n caps d k j)

-- how many pairs (i', j') with p stand before (i, j), by record and slot
unfoldable pub rank : (ℕ → ℕ → Bool) → ℕ → ℕ → ℕ
rank p i j = count₂ p slots i + count (p i) j

-- how far slot j of record i stands above its fanin
abbrev pub distance : Netlist → ℕ → ℕ → ℕ
distance n i j = (n.at i).level - (n.at (fanin n i j)).level

-- the number of a sink among the nodes of its distance: buffers come first, then sinks by record and slot
unfoldable pub sink_number : Netlist → Capacities → ℕ → ℕ → ℕ
sink_number n caps i j =
    buffers_of n caps (fanin n i j) (distance n i j) + rank (sink_at n (fanin n i j) (distance n i j)) i j

-- what the sink at slot j of record i hangs on
abbrev pub sink_parent : Netlist → Capacities → ℕ → ℕ → ℕ
sink_parent n caps i j = parent n caps (fanin n i j) (distance n i j) (sink_number n caps i j)

-- source record i with its used slots replaced
unfoldable pub rewired : Netlist → Capacities → ℕ → Record
rewired n caps i =
    record {
      kind = (n.at i).kind;
      inversion = (n.at i).inversion;
      level = (n.at i).level;
      slots = tabulate (λ j. cond (used n i j) (sink_parent n caps i j) (fanin n i j)) slots;
    }

-- the buffer that stands y places behind the source
unfoldable pub buffer_at : Netlist → Capacities → ℕ → Record
buffer_at n caps y =
    let d : ℕ = block (tree_size n caps) y n.size in
    let z : ℕ = y - sum (tree_size n caps) d in
    let k : ℕ = block (buffers_of n caps d) z (suc top_level) in
    buffer_record n caps d k (z - sum (buffers_of n caps d) k)

-- record x: the source's records, then the buffers
unfoldable pub mapped_at : Netlist → Capacities → ℕ → Record
mapped_at n caps x =
    cond (ltb x n.size) (rewired n caps x) (cond (ltb x (mapped_size n caps)) (buffer_at n caps (x - n.size)) blank)

-- the mapped netlist
abbrev pub mapped : Netlist → Capacities → Netlist
mapped n caps = record { size = mapped_size n caps; at = mapped_at n caps }
