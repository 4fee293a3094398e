-- Specification 2.3 (Lee, Riener, De Micheli, section 3): what a legal mapped netlist m of a source n is, for the capacities of specification 2.2.
use Rattle.std.specs.Prelude.{ℕ, ◌≤◌, ◌<◌, ◌≡◌, ◌≢◌}
use Rattle.netlist.specs.declared.Capacities.{Capacities}
use Rattle.netlist.specs.declared.Record.{Record}
use Rattle.netlist.specs.Kinds.{slots, unused, top_level, output, buffer, arity}
use Rattle.netlist.specs.Records.{Netlist, slot, fanin, feeds}
use Rattle.netlist.specs.Capacities.{capacity_of}
use Rattle.netlist.specs.Balance.{Named, Balanced}

-- record b is a outside a's used slots
pub record Kept (a b : Record) : Type 0 where
  pub kind : b.kind ≡ a.kind
  pub inversion : b.inversion ≡ a.inversion
  pub level : b.level ≡ a.level
  pub empty : (j : ℕ) → j < slots → arity a.kind ≤ j → slot b j ≡ slot a j

-- a buffer's record: it never inverts, has one used slot and stands on a level
pub record IsBuffer (r : Record) : Type 0 where
  pub kind : r.kind ≡ buffer
  pub inversion : r.inversion ≡ 0
  pub level : r.level ≤ top_level
  pub empty : (j : ℕ) → j < slots → arity buffer ≤ j → slot r j ≡ unused

-- record x, traced back through buffers until none stands there, ends at d; in a legal netlist that is a gate or an input, since
-- used slots name no output
pub data Traces (m : Netlist) (d : ℕ) : ℕ → Type 0 where
  here : {x : ℕ} → x ≡ d → (m.at x).kind ≢ buffer → Traces m d x
  back : {x : ℕ} → (m.at x).kind ≡ buffer → Traces m d (fanin m x 0) → Traces m d x

-- m is a legal mapped netlist of the source n
pub record Legal (n : Netlist) (caps : Capacities) (m : Netlist) : Type 0 where
  -- every source record stands at its old index
  pub whole : n.size ≤ m.size
  pub kept : (k : ℕ) → k < n.size → Kept (n.at k) (m.at k)
  -- all others are buffers
  pub buffers : (k : ℕ) → n.size ≤ k → k < m.size → IsBuffer (m.at k)
  pub named : Named m
  -- a used slot names no output
  pub no_output : (k j : ℕ) → k < m.size → j < arity (m.at k).kind → (m.at (fanin m k j)).kind ≢ output
  pub balanced : Balanced m
  -- each slot of a source record, traced back, ends at the fanin that the source names
  pub traced : (k j : ℕ) → k < n.size → j < arity (n.at k).kind → Traces m (fanin n k j) (fanin m k j)
  -- nothing feeds more slots than it may
  pub branched : (k : ℕ) → k < m.size → feeds m k ≤ capacity_of caps (m.at k).kind
