-- Specification 4.5, the phase run: the step over and over from zeros, what the call answers and what its areas hold afterwards.
use Rattle.std.specs.Prelude.{ℕ, zero, suc, ◌+◌, ◌*◌, Bool, cond, not, List, [], ◌++◌, length, take, drop, replicate, eqb}
use Rattle.facts.specs.Answers.{Checked}
use Rattle.facts.specs.Checks.{check, ◌and_then◌, unless_refused}
use Rattle.netlist.specs.declared.Capacities.{Capacities}
use Rattle.netlist.specs.Records.{Netlist, netlist, depth}
use Rattle.netlist.specs.Counts.{inputs, outputs}
use Rattle.verifier.specs.Checks.{verify_checks}
use Rattle.simulator.specs.Logic.{output_row}
use Rattle.simulator.specs.Evaluate.{bit_checks}
use Rattle.simulator.specs.Step.{stepped, bad_rows}

-- row t of rows of w bytes each; empty once they are spent, so that every input takes 0
abbrev pub row_at : ℕ → List ℕ → ℕ → List ℕ
row_at w rows t = take w (drop (t * w) rows)

-- before step 0 every record holds 0
abbrev pub zeros : Netlist → List ℕ
zeros m = replicate (2 * m.size) 0

-- the state area after k steps from zeros; w bytes a row
unfoldable pub after : Netlist → ℕ → List ℕ → ℕ → List ℕ
after m w rows zero = zeros m
after m w rows (suc k) = stepped m (row_at w rows k) (after m w rows k)

-- output rows 0 to r - 1: row t has the outputs of step t + D; n the source, m the mapped netlist
unfoldable pub output_rows : Netlist → Netlist → List ℕ → ℕ → List ℕ
output_rows n m rows zero = []
output_rows n m rows (suc t) = output_rows n m rows t ++ output_row n (after m (inputs n) rows (suc (t + depth n)))

-- the steps of a run of r rows: r + D, none if r is 0
abbrev pub steps : Netlist → ℕ → ℕ
steps n r = cond (eqb r 0) 0 (r + depth n)

-- 18: an output area of another length
abbrev pub bad_outputs : Netlist → ℕ → List ℕ → Bool
bad_outputs n count outs = not (eqb (length outs) (count * outputs n))

-- 18, then 19
unfoldable pub run_checks : Netlist → Netlist → ℕ → List ℕ → List ℕ → List ℕ → Checked
run_checks n m count rows area outs =
    check 18 0 (bad_rows n m count rows area) and_then check 18 0 (bad_outputs n count outs) and_then bit_checks rows

-- the verifier's checks, then 18 and 19: the run's answer
unfoldable pub run_answer : List ℕ → Capacities → List ℕ → ℕ → List ℕ → List ℕ → List ℕ → Checked
run_answer source caps mapped count rows area outs =
    verify_checks source caps mapped and_then run_checks (netlist source) (netlist mapped) count rows area outs

-- the run's state area
unfoldable pub run_area : List ℕ → Capacities → List ℕ → ℕ → List ℕ → List ℕ → List ℕ → List ℕ
run_area source caps mapped count rows area outs =
    unless_refused (run_answer source caps mapped count rows area outs)
    (after (netlist mapped) (inputs (netlist source)) rows (steps (netlist source) count))
    area

-- the run's output area
unfoldable pub run_outputs : List ℕ → Capacities → List ℕ → ℕ → List ℕ → List ℕ → List ℕ → List ℕ
run_outputs source caps mapped count rows area outs =
    unless_refused (run_answer source caps mapped count rows area outs)
    (output_rows (netlist source) (netlist mapped) rows count)
    outs
