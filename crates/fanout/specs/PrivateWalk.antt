-- For functions inside the engine alone: what the walk down a driver's row asks of it, and what it leaves.
use Rattle.std.specs.Prelude.{ℕ, suc, ◌*◌, ◌≤◌, ◌<◌, ◌≡◌, Bool, cond, List, length, get_or}
use Rattle.netlist.specs.Kinds.{top_level}
use Rattle.netlist.specs.Records.{Netlist}
use Rattle.fanout.specs.declared.Reach.{Reach}
use Rattle.fanout.specs.declared.TreeTotals.{TreeTotals}
use Rattle.fanout.specs.PrivateStretches.{InStretches}
use Rattle.fanout.specs.Nets.{sink_limit, row, nodes_at, buffers_at, fewest}

-- a number of nodes that no distance reaches
abbrev pub node_limit : ℕ
node_limit = 2 * sink_limit

-- the row of d's net, and a distance beyond which it has no sinks
pub record Filled (n : Netlist) (d : ℕ) (counts : List ℕ) (far : ℕ) : Type 0 where
  pub counted : counts ≡ row n d
  pub near : far ≤ top_level
  pub beyond : (k : ℕ) → far < k → get_or counts k 0 ≡ 0

-- a row that can be walked down from its largest distance to 1: its entries are small, and zero at 0, beyond that distance and in
-- stretches whose bits are not set
pub record Walkable (s : ℕ) (counts : List ℕ) (reach : Reach) : Type 0 where
  pub low : 2 ≤ s
  pub high : s ≤ 4
  pub size : length counts ≡ suc top_level
  pub near : reach.far ≤ top_level
  pub apart : get_or counts 0 0 ≡ 0
  pub small : (k : ℕ) → get_or counts k 0 ≤ sink_limit
  pub beyond : (k : ℕ) → reach.far < k → get_or counts k 0 ≡ 0
  pub within : InStretches counts (suc top_level) reach.stretches

-- after the walk: the nodes left at distance 1, the tree's buffers, and the row, which at each distance from 1 on holds the
-- buffers there, or nothing where they are not kept
pub record Walked (s : ℕ) (counts : List ℕ) (keep : Bool) (after : List ℕ) (t : TreeTotals) : Type 0 where
  pub nodes : t.nodes ≡ nodes_at s counts 1
  pub buffers : t.buffers ≡ fewest s counts
  pub size : length after ≡ suc top_level
  pub apart : get_or after 0 0 ≡ 0
  pub at : (k : ℕ) → 1 ≤ k → get_or after k 0 ≡ cond keep (buffers_at s counts k) 0
