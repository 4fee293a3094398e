-- Demand 2: the verifier accepts exactly the legal mapped netlists (specification 2.3, 1.3), and answers their number of buffers.
use Rattle.std.specs.Prelude.{ℕ, ◌≤◌, ◌%◌, ◌≡◌, ◌↔◌, List, length}
use Rattle.netlist.specs.declared.Capacities.{Capacities}
use Rattle.netlist.specs.Kinds.{width, mapped_limit}
use Rattle.netlist.specs.Capacities.{Allowed}
use Rattle.netlist.specs.Records.{netlist, record_count}
use Rattle.netlist.specs.Source.{Source}
use Rattle.netlist.specs.Counts.{buffer_count}
use Rattle.verifier.specs.Checks.{Buffers}
use Rattle.verifier.specs.Legal.{Legal}
use Rattle.verifier.specs.Checks.{verify_answer}

-- the mapped bytes are a legal netlist of the source bytes, within the limits of specification 1.3
pub record Accepted (source : List ℕ) (caps : Capacities) (mapped : List ℕ) : Type 0 where
  pub allowed : Allowed caps
  pub is_source : Source source
  pub whole : length mapped % width ≡ 0
  pub fits : record_count mapped ≤ mapped_limit
  pub legal : Legal (netlist source) caps (netlist mapped)

abbrev pub AcceptedExactly : Type 0
AcceptedExactly =
    (source : List ℕ) (caps : Capacities) (mapped : List ℕ) (buffers : ℕ) →
    (verify_answer source caps mapped ≡ Buffers buffers)
    ↔ (Accepted source caps mapped × (buffers ≡ buffer_count (netlist mapped)))
