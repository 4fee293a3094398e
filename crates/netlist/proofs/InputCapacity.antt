-- The table of capacities, that they grow with b, and that with b = 1 they are those of s alone.
use Prim.Native.Nat.{ℕ, ◌≤◌}
use native.Mathlib.Omega.{arith}
use mathlib.Core.Path.{◌≡◌, refl}
use mathlib.Core.Bool.{Bool, true, false, cond}
use lib.Dec.{eqb}
use borrow.Author.Tests.{ne_eqb}
use Rattle.facts.proofs.Reflect.{then_none}
use Rattle.netlist.specs.Kinds.{input, buffer}
use Rattle.netlist.specs.Capacities.{capacities_of, gate_capacity, capacity_of}
use Rattle.netlist.specs.Checks.{capacity_check}
use Rattle.netlist.specs.InputCapacity.{CapacitiesTrue, UnbranchedInputs}

pub capacities_true : CapacitiesTrue
capacities_true s b =
    record { inputs = refl; buffers = refl; others = λ kind i o. rw (ne_eqb kind buffer o, ne_eqb kind input i) }

pub capacity_grows : (s b c kind : ℕ) → b ≤ c → capacity_of (capacities_of s b) kind ≤ capacity_of (capacities_of s c) kind
capacity_grows s b c kind l = go (eqb kind buffer) (eqb kind input)
  where
    go : (is_buffer_lem is-input : Bool) → cond is_buffer_lem s (cond is-input b gate_capacity) ≤ cond is_buffer_lem s (cond is-input c gate_capacity)
    go true i = omega arith
    go false true = l
    go false false = omega arith

pub unbranched_inputs : UnbranchedInputs
unbranched_inputs s = record { capacities = λ kind. alike (eqb kind buffer) (eqb kind input); checks = then_none (capacity_check s) }
  where
    alike : (is_buffer_lem is-input : Bool) → cond is_buffer_lem s (cond is-input 1 1) ≡ cond is_buffer_lem s 1
    alike true i = refl
    alike false true = refl
    alike false false = refl
