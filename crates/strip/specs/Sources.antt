-- Specification 4.11: what a source of a mapped netlist is, by the verifier's own answer.
use Rattle.std.specs.Prelude.{ℕ, ◌≡◌, List}
use Rattle.facts.specs.Bytes.{AreBytes}
use Rattle.netlist.specs.declared.Capacities.{Capacities}
use Rattle.verifier.specs.Checks.{Buffers}
use Rattle.verifier.specs.Checks.{verify_answer}

-- bytes that, handed to the verifier as the source, make it accept the mapped netlist
pub record SourceOf (caps : Capacities) (mapped source : List ℕ) : Type 0 where
  pub bytes : AreBytes source
  pub buffers : ℕ
  pub accepted : verify_answer source caps mapped ≡ Buffers buffers
