-- For functions inside the engine alone: what the local arrays of the chains hold, and what is counted along them. Slots go by
-- number: slot y is slot y % slots of record y / slots.
use Rattle.std.specs.Prelude.{ℕ, suc, ◌+◌, ◌-◌, ◌*◌, ◌≤◌, ◌<◌, ◌/◌, ◌%◌, ◌≡◌, Bool, true, false, List, length, get_or, eqb}
use Rattle.facts.specs.Sums.{bit, count, seek}
use Rattle.netlist.specs.declared.Capacities.{Capacities}
use Rattle.netlist.specs.Kinds.{slots, unused, top_level}
use Rattle.netlist.specs.Records.{Netlist, used, fanin, names}
use Rattle.netlist.specs.Source.{IsSource}
use Rattle.fanout.specs.Nets.{row, sinks, sink_at, nodes_at, tree_size}
use Rattle.fanout.specs.declared.TreeTotals.{TreeTotals}
use Rattle.nets.specs.declared.sinks.Chain.{Chain}
use Rattle.nets.specs.declared.sinks.Chain.TheVariants.{Empty, Short, Long}

-- one past the last slot
abbrev pub slot_end : Netlist → ℕ
slot_end n = slots * n.size

-- slot y is used; the record that it names; whether it is used and names d
abbrev pub used_slot : Netlist → ℕ → Bool
used_slot n y = used n (y / slots) (y % slots)

abbrev pub fanin_slot : Netlist → ℕ → ℕ
fanin_slot n y = fanin n (y / slots) (y % slots)

abbrev pub names_slot : Netlist → ℕ → ℕ → Bool
names_slot n d y = names n d (y / slots) (y % slots)

-- the first slot from y on that names d, or the end
unfoldable pub next_sink : Netlist → ℕ → ℕ → ℕ
next_sink n d y = seek (names_slot n d) y (slot_end n - y)

-- slot y's record stands at level low or above
pub record Above (n : Netlist) (low y : ℕ) : Type 0 where
  pub higher : low ≤ (n.at (y / slots)).level

-- how far slot y's record stands above record d
unfoldable pub slot_distance : Netlist → ℕ → ℕ → ℕ
slot_distance n d y = (n.at (y / slots)).level - (n.at d).level

-- how many sinks of d at distance k stand below slot y
unfoldable pub sinks_below : Netlist → ℕ → ℕ → ℕ → ℕ
sinks_below n d k y = count (λ z. sink_at n d k (z / slots) (z % slots)) y

-- the chains of the first n records, all empty: each begins at the end
pub record Emptied (n end : ℕ) (first : List ℕ) : Type 0 where
  pub long : n ≤ length first
  pub at : (d : ℕ) → d < n → get_or first d 0 ≡ end

-- an array of slots, all unused
pub record AllUnused (next : List ℕ) : Type 0 where
  pub at : (y : ℕ) → y < length next → get_or next y 0 ≡ unused

-- the chains of the slots from x on: each driver's first sink, and after each sink its driver's next; unused slots are unused here too
pub record Linked (n : Netlist) (first next : List ℕ) (x : ℕ) : Type 0 where
  pub firsts : (d : ℕ) → d < n.size → get_or first d 0 ≡ next_sink n d x
  pub nexts : (y : ℕ) → x ≤ y → y < slot_end n → used_slot n y ≡ true →
      get_or next y 0 ≡ next_sink n (fanin_slot n y) (suc y)
  pub rest : (y : ℕ) → y < slot_end n → used_slot n y ≡ false → get_or next y 0 ≡ unused
  pub first_long : n.size ≤ length first
  pub next_long : slot_end n ≤ length next

-- the chains of a source's drivers from d on, with the slot where they end
pub record Chained (n : Netlist) (first next : List ℕ) (d end : ℕ) : Type 0 where
  pub source : IsSource n
  pub firsts : (x : ℕ) → x < n.size → get_or first x 0 ≡ next_sink n x 0
  pub nexts : (y : ℕ) → y < slot_end n → used_slot n y ≡ true → d ≤ fanin_slot n y →
      get_or next y 0 ≡ next_sink n (fanin_slot n y) (suc y)
  pub rest : (y : ℕ) → y < slot_end n → used_slot n y ≡ false → get_or next y 0 ≡ unused
  pub first_long : n.size ≤ length first
  pub next_long : slot_end n ≤ length next
  pub stop : end ≡ slot_end n

-- one or two sinks of d: one at distance top, and another, no farther, at distance other; without another that is 0
pub record ShortChain (n : Netlist) (d top other : ℕ) : Type 0 where
  pub above : 1 ≤ top
  pub near : top ≤ top_level
  pub no_farther : other ≤ top
  pub at : (k : ℕ) → 1 ≤ k → sinks n d k ≡ bit (eqb top k) + bit (eqb other k)

-- what is known of d's sinks; of many, nothing is claimed
unfoldable pub ChainIs : Netlist → ℕ → Chain → Type 0
ChainIs n d Empty = (k : ℕ) → sinks n d k ≡ 0
ChainIs n d (Short top other) = ShortChain n d top other
ChainIs n d Long = Unit {0}

-- d's net: the nodes left at distance 1, and its buffers
pub record Measured (n : Netlist) (caps : Capacities) (d : ℕ) (t : TreeTotals) : Type 0 where
  pub nodes : t.nodes ≡ nodes_at caps.buffer (row n d) 1
  pub buffers : t.buffers ≡ tree_size n caps d
