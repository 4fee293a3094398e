-- Demand 2: every netlist that the verifier accepts is path-balanced and properly branched.
use Rattle.std.specs.Prelude.{ℕ, ◌≡◌, List}
use Rattle.netlist.specs.declared.Capacities.{Capacities}
use Rattle.netlist.specs.Records.{netlist}
use Rattle.netlist.specs.Balance.{PathBalanced, ProperlyBranched}
use Rattle.verifier.specs.Checks.{Buffers}
use Rattle.verifier.specs.Checks.{verify_answer}

-- of every netlist that the verifier accepts
abbrev pub AcceptedBalanced : Type 0
AcceptedBalanced =
    (source : List ℕ) (caps : Capacities) (mapped : List ℕ) (buffers : ℕ) →
    verify_answer source caps mapped ≡ Buffers buffers →
    PathBalanced (netlist mapped) × ProperlyBranched caps (netlist mapped)
