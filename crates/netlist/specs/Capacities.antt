-- Specification 2.2: the most slots that a record may feed.
use Rattle.std.specs.Prelude.{ℕ, ◌≤◌, cond, eqb}
use Rattle.netlist.specs.declared.Capacities.{Capacities}
use Rattle.netlist.specs.Kinds.{input, buffer}

-- the capacities that a caller's numbers s and b stand for
abbrev pub capacities_of : ℕ → ℕ → Capacities
capacities_of s b = record { buffer = s; input = b }

-- slots that a gate may feed
abbrev pub gate_capacity : ℕ
gate_capacity = 1

-- the largest capacity that an input may be given
abbrev pub most_input_capacity : ℕ
most_input_capacity = 4095

-- the most slots that a record of a kind may feed; no used slot names an output, so what an output has does not matter
abbrev pub capacity_of : Capacities → ℕ → ℕ
capacity_of caps kind = cond (eqb kind buffer) caps.buffer (cond (eqb kind input) caps.input gate_capacity)

-- capacities that pass checks 1 and 26
pub record Allowed (caps : Capacities) : Type 0 where
  pub low : 2 ≤ caps.buffer
  pub high : caps.buffer ≤ 4
  pub input_low : 1 ≤ caps.input
  pub input_high : caps.input ≤ most_input_capacity
