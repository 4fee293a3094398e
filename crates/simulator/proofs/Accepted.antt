-- What it means that the calls accept: their checks as facts.
use Prim.Native.Nat.{ℕ, ◌*◌}
use mathlib.Core.Path.{◌≡◌, sym, ◌∙◌}
use mathlib.Core.Logic.{◌↔◌}
use mathlib.Core.List.{List}
use native.Mathlib.Nat.{one-mul}
use native.Mathlib.Omega.{arith}
use lib.ListN.{length}
use Rattle.facts.specs.Answers.{Passed}
use Rattle.facts.proofs.Reflect.{reflect}
use Rattle.netlist.specs.declared.Capacities.{Capacities}
use Rattle.netlist.specs.Records.{netlist, record_count}
use Rattle.netlist.specs.Source.{Source}
use Rattle.netlist.specs.Counts.{inputs}
use Rattle.netlist.proofs.Source.{source_passed}
use Rattle.verifier.specs.Checks.{verify_checks}
use Rattle.simulator.specs.Evaluate.{bit_checks, evaluate_checks, evaluate_answer}
use Rattle.simulator.specs.Step.{step_checks, step_answer}
use Rattle.simulator.specs.Run.{run_checks, run_answer}
use Rattle.simulator.specs.PrivateRun.{IsRow, IsRun}

module _ (source : List ℕ) (caps : Capacities) (mapped : List ℕ) where
  -- a step is accepted exactly where the verifier accepts, the row is one and the state area has 2 × M bytes
  pub step_passed : (row area : List ℕ) → (step_answer source caps mapped row area ≡ Passed) ↔ ((verify_checks source caps mapped ≡ Passed) × IsRow (netlist source) row × (length area ≡ 2 * record_count mapped))
  unfolding step_answer step_checks bit_checks
  step_passed row area =
      simp reflect (
        λ f. (f.0, record { long = f.1.0.0.1 ∙ one-mul (inputs (netlist source)); bits = f.1.1 }, f.1.0.1),
        λ f. (f.0, (((omega arith, f.1.long ∙ sym (one-mul (inputs (netlist source)))), f.2), f.1.bits)),
      )

  -- a run exactly where the verifier accepts and the areas are a run's
  pub run_passed : (count : ℕ) (rows area outs : List ℕ) → (run_answer source caps mapped count rows area outs ≡ Passed) ↔ ((verify_checks source caps mapped ≡ Passed) × IsRun (netlist source) (netlist mapped) count rows area outs)
  unfolding run_answer run_checks bit_checks
  run_passed count rows area outs =
      simp reflect (
        λ f. (f.0, record { few = f.1.0.0.0; long = f.1.0.0.1; bits = f.1.1.1; state = f.1.0.1; room = f.1.1.0 }),
        λ f. (f.0, (((f.1.few, f.1.long), f.1.state), (f.1.room, f.1.bits))),
      )

-- the evaluator exactly where the source and the row are ones and the area has a byte per record
pub evaluate_passed : (source row area : List ℕ) → (evaluate_answer source row area ≡ Passed) ↔ (Source source × IsRow (netlist source) row × (length area ≡ record_count source))
unfolding evaluate_answer evaluate_checks bit_checks
evaluate_passed source row area =
    simp reflect (
      λ f. ((source_passed source).0 f.0, record { long = f.1.0.0; bits = f.1.1 }, f.1.0.1),
      λ f. ((source_passed source).1 f.0, ((f.1.long, f.2), f.1.bits)),
    )
