-- Specification 2.3 (Lee, Riener, De Micheli, section 3): what it is for a netlist to be balanced and branched.
use Rattle.std.specs.Prelude.{ℕ, suc, ◌≤◌, ◌<◌, ◌≡◌, true}
use Rattle.netlist.specs.declared.Capacities.{Capacities}
use Rattle.netlist.specs.Kinds.{input, output, buffer, arity, is_gate}
use Rattle.netlist.specs.Records.{Netlist, fanin, feeds}

-- every used slot names a record of the netlist
abbrev pub Named : Netlist → Type 0
Named m = (k j : ℕ) → k < m.size → j < arity (m.at k).kind → fanin m k j < m.size

-- every fanin stands exactly one level lower
abbrev pub Balanced : Netlist → Type 0
Balanced m = (k j : ℕ) → k < m.size → j < arity (m.at k).kind → (m.at k).level ≡ suc (m.at (fanin m k j)).level

-- every fanin stands exactly one level lower, inputs at 0, outputs on one level
pub record PathBalanced (m : Netlist) : Type 0 where
  pub fanins : Balanced m
  pub inputs : (k : ℕ) → k < m.size → (m.at k).kind ≡ input → (m.at k).level ≡ 0
  pub outputs : (k i : ℕ) → k < m.size → i < m.size → (m.at k).kind ≡ output → (m.at i).kind ≡ output →
      (m.at k).level ≡ (m.at i).level

-- a gate feeds at most one slot, an input and a buffer at most their capacities
pub record ProperlyBranched (caps : Capacities) (m : Netlist) : Type 0 where
  pub inputs : (k : ℕ) → k < m.size → (m.at k).kind ≡ input → feeds m k ≤ caps.input
  pub gates : (k : ℕ) → k < m.size → is_gate (m.at k).kind ≡ true → feeds m k ≤ 1
  pub buffers : (k : ℕ) → k < m.size → (m.at k).kind ≡ buffer → feeds m k ≤ caps.buffer
