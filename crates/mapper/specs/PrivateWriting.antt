-- For private functions alone: what the mapper's local arrays and its area hold while nets are written.
use Rattle.std.specs.Prelude.{ℕ, zero, suc, ◌+◌, ◌*◌, ◌≤◌, ◌<◌, ◌/◌, ◌%◌, ◌≡◌, true, false, List, length, get_or, replicate}
use Rattle.facts.specs.Answers.{Passed}
use Rattle.facts.specs.Lists.{tabulate}
use Rattle.netlist.specs.declared.Capacities.{Capacities}
use Rattle.netlist.specs.declared.Record.{Record}
use Rattle.netlist.specs.Kinds.{width, slots, top_level, mapped_limit}
use Rattle.netlist.specs.Records.{Netlist, netlist, record_count, record_at}
use Rattle.netlist.specs.Source.{IsSource}
use Rattle.netlist.specs.Capacities.{Allowed}
use Rattle.nets.specs.Checks.{tree_checks}
use Rattle.nets.specs.PrivateChains.{slot_end, used_slot, fanin_slot, names_slot, slot_distance, Chained}
use Rattle.nets.specs.PrivateCounts.{NetNumbers}
use Rattle.netlist.specs.Checks.{input_checks}
use Rattle.netlist.specs.PrivateBytes.{with_records}
use Rattle.fanout.specs.Nets.{row, nodes_at, net_has_tree, tree_size, fewest_in_all}
use Rattle.mapper.specs.Answer.{source_maps}
use Rattle.mapper.specs.Mapped.{buffers_of, block_start, mapped_size, parent, buffer_of, sink_parent, mapped}

-- what 1, 26 and 2 to 9 show: a source, capacities, a tree for every net, and not too many records
pub record Ready (n : Netlist) (caps : Capacities) : Type 0 where
  pub source : IsSource n
  pub allowed : Allowed caps
  pub trees : (d : ℕ) → d < n.size → net_has_tree n caps d ≡ true
  pub fits : mapped_size n caps ≤ mapped_limit

-- a row to be cleared up to distance top
pub record Stale (counts : List ℕ) (top : ℕ) : Type 0 where
  pub size : length counts ≡ suc top_level
  pub near : top ≤ top_level
  pub beyond : (k : ℕ) → top < k → get_or counts k 0 ≡ 0

-- the row of d's net after the walk: the buffers at each distance
pub record BufferCounts (n : Netlist) (caps : Capacities) (d : ℕ) (counts : List ℕ) : Type 0 where
  pub size : length counts ≡ suc top_level
  pub at : (k : ℕ) → 1 ≤ k → k ≤ top_level → get_or counts k 0 ≡ buffers_of n caps d k

-- d's net to be written: no node stands beyond top
pub record CountedNet (n : Netlist) (caps : Capacities) (d : ℕ) (counts : List ℕ) (top : ℕ) : Type 0 where
  pub ready : Ready n caps
  pub driver : d < n.size
  pub buffers : BufferCounts n caps d counts
  pub near : top ≤ top_level
  pub beyond : (k : ℕ) → top < k → nodes_at caps.buffer (row n d) k ≡ 0

-- what the first node of each distance of d's tree hangs on
pub record FirstParents (n : Netlist) (caps : Capacities) (d : ℕ) (base : List ℕ) : Type 0 where
  pub size : length base ≡ suc top_level
  pub at : (k : ℕ) → 1 ≤ k → 0 < nodes_at caps.buffer (row n d) k → get_or base k 0 ≡ parent n caps d k 0

-- what slot y hangs on
abbrev pub on_parent : Netlist → Capacities → ℕ → ℕ
on_parent n caps y = sink_parent n caps (y / slots) (y % slots)

-- the chains of the drivers from d on, and in the same array what each sink of those before hangs on
pub record ParentsSet (n : Netlist) (caps : Capacities) (first next : List ℕ) (d end : ℕ) : Type 0 where
  pub chained : Chained n first next d end
  pub at : (y : ℕ) → y < slot_end n → used_slot n y ≡ true → fanin_slot n y < d → get_or next y 0 ≡ on_parent n caps y

-- the sinks of d hang where f says, and the slots of other drivers hold what they held
pub record ParentsWritten (n : Netlist) (d : ℕ) (f : ℕ → ℕ) (before after : List ℕ) : Type 0 where
  pub size : length after ≡ length before
  pub at : (y : ℕ) → y < slot_end n → names_slot n d y ≡ true → get_or after y 0 ≡ f y
  pub others : (y : ℕ) → names_slot n d y ≡ false → get_or after y 0 ≡ get_or before y 0

-- what a node at distance k of d's line hangs on: d, or the buffer one level nearer; the line begins at record start
unfoldable pub line_parent : ℕ → ℕ → ℕ → ℕ
line_parent d start zero = d
line_parent d start (suc zero) = d
line_parent d start (suc (suc k)) = start + k

-- what slot y hangs on, if it is a sink of d and d's tree is a line
unfoldable pub on_line : Netlist → ℕ → ℕ → ℕ → ℕ
on_line n d start y = line_parent d start (slot_distance n d y)

-- buffer j of a line above d, whose level is low
unfoldable pub line_record : ℕ → ℕ → ℕ → ℕ → Record
line_record d start low j = buffer_of (low + suc j) (line_parent d start (suc j))

-- what stands before d's sinks get their parents
pub record ParentsDue (n : Netlist) (caps : Capacities) (d : ℕ) (first next : List ℕ) (end : ℕ) (counts base : List ℕ) : Type 0 where
  pub ready : Ready n caps
  pub driver : d < n.size
  pub buffers : BufferCounts n caps d counts
  pub first_parents : FirstParents n caps d base
  pub parents : ParentsSet n caps first next d end

-- the row of d's net once its sinks have their parents: the nodes at each distance
pub record NodeCounts (n : Netlist) (caps : Capacities) (d : ℕ) (counts : List ℕ) : Type 0 where
  pub size : length counts ≡ suc top_level
  pub at : (k : ℕ) → 1 ≤ k → k ≤ top_level → get_or counts k 0 ≡ nodes_at caps.buffer (row n d) k

-- how far behind the parent of the first node of distance k that of node q stands: at distance 1 all hang on the driver
unfoldable pub behind : ℕ → ℕ → ℕ → ℕ
behind s zero q = 0
behind s (suc zero) q = 0
behind s (suc (suc k)) q = q / s

-- buffer j of distance k at its level, where the first one hangs on base
unfoldable pub level_record : ℕ → ℕ → ℕ → ℕ → ℕ → Record
level_record s k level base j = buffer_of level (base + behind s k j)

-- the arrays and the area before the net of d is written at record at
pub record Writable (n : Netlist) (caps : Capacities) (d at : ℕ) (first next : List ℕ) (end : ℕ) (counts base area : List ℕ) : Type 0 where
  pub ready : Ready n caps
  pub driver : d < n.size
  pub start : at ≡ block_start n caps d
  pub clear : counts ≡ replicate (suc top_level) 0
  pub room : length base ≡ suc top_level
  pub parents : ParentsSet n caps first next d end
  pub long : width * mapped_size n caps ≤ length area

-- and after it
pub record Wrote (n : Netlist) (caps : Capacities) (d at : ℕ) (first next : List ℕ) (end : ℕ) (counts base area₀ area : List ℕ) (after : ℕ) : Type 0 where
  pub start : after ≡ block_start n caps (d + 1)
  pub clear : counts ≡ replicate (suc top_level) 0
  pub room : length base ≡ suc top_level
  pub parents : ParentsSet n caps first next (d + 1) end
  pub bytes : area ≡ with_records (mapped n caps) at (tree_size n caps d) area₀

-- record r of index i, its slots as the array of parents has them
abbrev pub relinked : Record → List ℕ → ℕ → Record
relinked r parents i =
    record {
      kind = r.kind;
      inversion = r.inversion;
      level = r.level;
      slots = tabulate (λ j. get_or parents (slots * i + j) 0) slots;
    }

-- record i of the source so
unfoldable pub relinked_at : List ℕ → List ℕ → ℕ → Record
relinked_at bytes parents i = relinked (record_at bytes i) parents i

-- a source that passes 1, 26 and 2 to 8, its chains, and the buffers of all trees
pub record Counted (bytes : List ℕ) (caps : Capacities) (size : ℕ) (first next : List ℕ) (end total : ℕ) : Type 0 where
  pub input : input_checks bytes caps ≡ Passed
  pub trees : tree_checks (netlist bytes) caps ≡ Passed
  pub chained : Chained (netlist bytes) first next 0 end
  pub records : size ≡ record_count bytes
  pub buffers : total ≡ fewest_in_all (netlist bytes) caps

-- a source that passes 1, 26 and 2 to 8, the numbers of its nets, and the buffers of all trees
pub record Sized (bytes : List ℕ) (caps : Capacities) (size : ℕ) (totals : List ℕ) (total : ℕ) : Type 0 where
  pub input : input_checks bytes caps ≡ Passed
  pub trees : tree_checks (netlist bytes) caps ≡ Passed
  pub records : size ≡ record_count bytes
  pub numbers : NetNumbers (netlist bytes) caps size totals
  pub room : size ≤ length totals
  pub buffers : total ≡ fewest_in_all (netlist bytes) caps

-- a source that passes 1, 26 and 2 to 9, and the numbers of its nets; `input` and `trees` follow from `maps`
pub record Mappable (bytes : List ℕ) (caps : Capacities) (size : ℕ) (totals : List ℕ) : Type 0 where
  pub maps : source_maps bytes caps ≡ Passed
  pub input : input_checks bytes caps ≡ Passed
  pub trees : tree_checks (netlist bytes) caps ≡ Passed
  pub records : size ≡ record_count bytes
  pub numbers : NetNumbers (netlist bytes) caps size totals
  pub room : size ≤ length totals
