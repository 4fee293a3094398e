-- What demand 3 promises of the calls, as statements over the byte lists and numbers that a caller hands in.
use Rattle.std.specs.Prelude.{ℕ, suc, ◌+◌, ◌<◌, ◌≡◌, Bool, List, [], length, get_or}
use Rattle.facts.specs.Answers.{Passed}
use Rattle.facts.specs.Sums.{bit}
use Rattle.facts.specs.Lists.{tabulate}
use Rattle.netlist.specs.declared.Capacities.{Capacities}
use Rattle.netlist.specs.Records.{netlist, record_count, depth}
use Rattle.netlist.specs.Counts.{inputs, outputs}
use Rattle.verifier.specs.Checks.{verify_checks}
use Rattle.simulator.specs.Logic.{next, values, plain, output_row}
use Rattle.simulator.specs.Evaluate.{evaluate_answer, evaluate_area}
use Rattle.simulator.specs.Run.{row_at, zeros, run_answer, run_area, run_outputs}
use Rattle.simulator.specs.Waves.{row_of_step, taken, history, leaves}

-- plain logic's outputs for a row
abbrev pub plain_outputs : List ℕ → List ℕ → List ℕ
plain_outputs source row = output_row (netlist source) (values (netlist source) row (record_count source))

-- the evaluator gives plain logic, the one assignment in which every record has what its rule gives
abbrev pub EvaluatorIsPlain : Type 0
EvaluatorIsPlain =
    (source row area : List ℕ) → evaluate_answer source row area ≡ Passed →
    (evaluate_area source row area ≡ tabulate (λ i. bit (plain (netlist source) row i)) (record_count source))
    × ((i : ℕ) → i < record_count source → plain (netlist source) row i ≡ next (netlist source) row (plain (netlist source) row) i)
    × ((v : ℕ → Bool) → ((i : ℕ) → i < record_count source → v i ≡ next (netlist source) row v i) →
    (i : ℕ) → i < record_count source → v i ≡ plain (netlist source) row i)

-- one claim about a list of one-step calls: whatever the state area holds and whatever the rows are, the outputs after step t + D
-- are plain logic's for the row of step t; steps are the accepted calls, numbered from 0
abbrev pub CallsArePlain : Type 0
CallsArePlain =
    (source : List ℕ) (caps : Capacities) (mapped area : List ℕ) (rows : List (List ℕ)) → verify_checks source caps mapped ≡ Passed →
    (t : ℕ) → t + depth (netlist source) < length (taken source caps mapped area rows) →
    output_row (netlist mapped) (get_or (history source caps mapped area rows) (t + depth (netlist source)) [])
    ≡ plain_outputs source (get_or (taken source caps mapped area rows) t [])

-- in an accepted run output row t is plain logic's for row t
abbrev pub RunIsPlain : Type 0
RunIsPlain =
    (source : List ℕ) (caps : Capacities) (mapped : List ℕ) (r : ℕ) (rows area outs : List ℕ) →
    run_answer source caps mapped r rows area outs ≡ Passed → (t : ℕ) → t < r →
    row_at (outputs (netlist source)) (run_outputs source caps mapped r rows area outs) t
    ≡ plain_outputs source (row_at (inputs (netlist source)) rows t)

-- the rows of the first k steps of a run of r rows
abbrev pub rows_of_steps : List ℕ → List ℕ → ℕ → ℕ → List (List ℕ)
rows_of_steps source rows r k = tabulate (row_of_step (inputs (netlist source)) rows r) k

-- an accepted run of r > 0 rows is r + D one-step calls from zeros: none is refused, the state area ends as they leave it, and
-- output row t is read off the area that the first t + D + 1 of them leave
abbrev pub RunIsSteps : Type 0
RunIsSteps =
    (source : List ℕ) (caps : Capacities) (mapped : List ℕ) (r : ℕ) (rows area outs : List ℕ) →
    run_answer source caps mapped r rows area outs ≡ Passed → 0 < r →
    (taken source caps mapped (zeros (netlist mapped)) (rows_of_steps source rows r (r + depth (netlist source)))
    ≡ rows_of_steps source rows r (r + depth (netlist source)))
    × (run_area source caps mapped r rows area outs
    ≡ leaves source caps mapped (zeros (netlist mapped)) (rows_of_steps source rows r (r + depth (netlist source))))
    × ((t : ℕ) → t < r →
    row_at (outputs (netlist source)) (run_outputs source caps mapped r rows area outs) t
    ≡ output_row (netlist mapped) (leaves source caps mapped (zeros (netlist mapped)) (rows_of_steps source rows r (suc (t + depth (netlist source))))))
