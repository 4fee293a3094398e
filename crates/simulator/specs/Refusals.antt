-- The conditions of checks 18 and 19 as facts (specification 3.3), and the theorems that the answers are exact.
use Rattle.std.specs.Prelude.{ℕ, ◌*◌, ◌<◌, ◌⊎◌, ◌≢◌, List, length, get_or}
use Rattle.facts.specs.Refusals.{Conditions, Fails, ◌or◌, Each, Exact}
use Rattle.netlist.specs.declared.Capacities.{Capacities}
use Rattle.netlist.specs.Records.{Netlist, netlist}
use Rattle.netlist.specs.Refusals.{SourceFails}
use Rattle.netlist.specs.Counts.{inputs, outputs}
use Rattle.verifier.specs.Refusals.{VerifyFails}
use Rattle.simulator.specs.Evaluate.{evaluate_answer}
use Rattle.simulator.specs.Step.{row_limit, step_answer}
use Rattle.simulator.specs.Run.{run_answer}

-- 18 of the evaluator: the row has not a byte per input, or the area not a byte per record
abbrev pub BadAreas : Netlist → List ℕ → List ℕ → Type 0
BadAreas n row area = (length row ≢ inputs n) ⊎ (length area ≢ n.size)

-- 18 of step and run: R above 10,000, or rows or a state area not exactly R × inputs, 2 × M
abbrev pub BadRows : Netlist → Netlist → ℕ → List ℕ → List ℕ → Type 0
BadRows n m r rows area = ((row_limit < r) ⊎ (length rows ≢ r * inputs n)) ⊎ (length area ≢ 2 * m.size)

-- 18 of the run: an output area not exactly R × outputs
abbrev pub BadOutputs : Netlist → ℕ → List ℕ → Type 0
BadOutputs n r outs = length outs ≢ r * outputs n

-- 19: byte k is above 1
abbrev pub BitFails : List ℕ → ℕ → Conditions
BitFails row k = Fails 19 k (1 < get_or row k 0)

-- 18, then 19
abbrev pub AreaFails : Type 0 → List ℕ → Conditions
AreaFails Bad row = Fails 18 0 Bad or Each (length row) (BitFails row)

-- 2 to 7, 18, 19
abbrev pub EvaluateFails : List ℕ → List ℕ → List ℕ → Conditions
EvaluateFails source row area = SourceFails source or AreaFails (BadAreas (netlist source) row area) row

-- 1, 26, 2 to 7, 11 to 17, 18, 19, of a run of one row that has no output area
abbrev pub StepFails : List ℕ → Capacities → List ℕ → List ℕ → List ℕ → Conditions
StepFails source caps mapped row area =
    VerifyFails source caps mapped or AreaFails (BadRows (netlist source) (netlist mapped) 1 row area) row

-- 1, 26, 2 to 7, 11 to 17, 18, 19
abbrev pub RunFails : List ℕ → Capacities → List ℕ → ℕ → List ℕ → List ℕ → List ℕ → Conditions
RunFails source caps mapped r rows area outs =
    VerifyFails source caps mapped
    or AreaFails (BadRows (netlist source) (netlist mapped) r rows area ⊎ BadOutputs (netlist source) r outs) rows

-- each number is answered exactly where its condition is the first that holds, and a call is accepted exactly if none does
abbrev pub EvaluateExact : Type 0
EvaluateExact = (source row area : List ℕ) → Exact (EvaluateFails source row area) (evaluate_answer source row area)

abbrev pub StepExact : Type 0
StepExact =
    (source : List ℕ) (caps : Capacities) (mapped row area : List ℕ) →
    Exact (StepFails source caps mapped row area) (step_answer source caps mapped row area)

abbrev pub RunExact : Type 0
RunExact =
    (source : List ℕ) (caps : Capacities) (mapped : List ℕ) (r : ℕ) (rows area outs : List ℕ) →
    Exact (RunFails source caps mapped r rows area outs) (run_answer source caps mapped r rows area outs)
