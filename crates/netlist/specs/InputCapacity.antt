-- Specification 2.2 as facts: what each kind may feed, and that with b = 1 the capacities are those of s alone.
use Rattle.std.specs.Prelude.{ℕ, ◌≡◌, cond, ◌≢◌, eqb}
use Rattle.netlist.specs.Kinds.{input, buffer}
use Rattle.netlist.specs.Capacities.{capacities_of, capacity_of}
use Rattle.netlist.specs.Checks.{capacity_check, capacity_checks}

-- an input may feed b slots, a buffer s, every other record one
pub record CapacityTable (s b : ℕ) : Type 0 where
  pub inputs : capacity_of (capacities_of s b) input ≡ b
  pub buffers : capacity_of (capacities_of s b) buffer ≡ s
  pub others : (kind : ℕ) → kind ≢ input → kind ≢ buffer → capacity_of (capacities_of s b) kind ≡ 1

abbrev pub CapacitiesTrue : Type 0
CapacitiesTrue = (s b : ℕ) → CapacityTable s b

-- with b = 1 an input may feed what a gate may, and 26 never refuses
pub record AsOneCapacity (s : ℕ) : Type 0 where
  pub capacities : (kind : ℕ) → capacity_of (capacities_of s 1) kind ≡ cond (eqb kind buffer) s 1
  pub checks : capacity_checks (capacities_of s 1) ≡ capacity_check s

abbrev pub UnbranchedInputs : Type 0
UnbranchedInputs = (s : ℕ) → AsOneCapacity s
