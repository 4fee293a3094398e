-- Specification 2.7: the height of a number of sinks, and the rules that levels keep. Nothing of how levels are worked out is in it.
use Rattle.std.specs.Prelude.{ℕ, suc, ◌+◌, ◌^◌, ◌≤◌, ◌<◌, ◌≡◌}
use Rattle.netlist.specs.Kinds.{input, output, arity}
use Rattle.netlist.specs.Records.{Netlist, fanin, feeds}

-- h is the height of n sinks: the least whole number for which s to the power h is at least n
pub record Height (s n h : ℕ) : Type 0 where
  pub enough : n ≤ s ^ h
  pub least : (i : ℕ) → n ≤ s ^ i → h ≤ i

-- an assignment, a level for each index, bounded or not, keeps the rules; a driver has as many sinks as it feeds slots
pub record KeepsRules (s : ℕ) (m : Netlist) (level : ℕ → ℕ) : Type 0 where
  -- inputs stand at 0
  pub inputs : (k : ℕ) → k < m.size → (m.at k).kind ≡ input → level k ≡ 0
  -- outputs share one level
  pub outputs : (k i : ℕ) → k < m.size → i < m.size → (m.at k).kind ≡ output → (m.at i).kind ≡ output → level k ≡ level i
  -- a sink stands at least 1 + h levels above its driver, h the height of the driver's sinks
  pub sinks : (k j h : ℕ) → k < m.size → j < arity (m.at k).kind → Height s (feeds m (fanin m k j)) h →
      level (fanin m k j) + suc h ≤ level k
