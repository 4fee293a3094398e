-- Specification 4.6, one step: the state area after it, what the call answers and what its area holds afterwards.
use Rattle.std.specs.Prelude.{ℕ, ◌*◌, Bool, not, ◌||◌, List, ◌++◌, length, take, ltb, eqb}
use Rattle.facts.specs.Answers.{Checked}
use Rattle.facts.specs.Checks.{check, ◌and_then◌, unless_refused}
use Rattle.facts.specs.Sums.{bit}
use Rattle.facts.specs.Lists.{tabulate}
use Rattle.netlist.specs.declared.Capacities.{Capacities}
use Rattle.netlist.specs.Records.{Netlist, netlist}
use Rattle.netlist.specs.Counts.{inputs}
use Rattle.verifier.specs.Checks.{verify_checks}
use Rattle.simulator.specs.Logic.{on, next}
use Rattle.simulator.specs.Evaluate.{bit_checks}

-- the most rows of a run
abbrev pub row_limit : ℕ
row_limit = 10000

-- the new values of the first n records, from what an area holds
unfoldable pub renewed_below : Netlist → List ℕ → List ℕ → ℕ → List ℕ
renewed_below m row held n = tabulate (λ i. bit (next m row (on held) i)) n

-- every record's new value
abbrev pub renewed : Netlist → List ℕ → List ℕ → List ℕ
renewed m row held = renewed_below m row held m.size

-- the values of the first n bytes, as 0 or 1
unfoldable pub older : ℕ → List ℕ → List ℕ
older n area = tabulate (λ i. bit (on area i)) n

-- the state area after one step: the new values, worked out from the first M bytes, then the older ones
unfoldable pub stepped : Netlist → List ℕ → List ℕ → List ℕ
stepped m row area = renewed m row (take m.size area) ++ older m.size area

-- 18: too many rows, or rows or a state area of another length; n the source, m the mapped netlist
abbrev pub bad_rows : Netlist → Netlist → ℕ → List ℕ → List ℕ → Bool
bad_rows n m count rows area =
    ltb row_limit count || not (eqb (length rows) (count * inputs n)) || not (eqb (length area) (2 * m.size))

-- 18, then 19, of a run of one row that has no output area
unfoldable pub step_checks : Netlist → Netlist → List ℕ → List ℕ → Checked
step_checks n m row area = check 18 0 (bad_rows n m 1 row area) and_then bit_checks row

-- the verifier's checks, then 18 and 19: the step's answer
unfoldable pub step_answer : List ℕ → Capacities → List ℕ → List ℕ → List ℕ → Checked
step_answer source caps mapped row area =
    verify_checks source caps mapped and_then step_checks (netlist source) (netlist mapped) row area

-- the step's state area
unfoldable pub step_area : List ℕ → Capacities → List ℕ → List ℕ → List ℕ → List ℕ
step_area source caps mapped row area =
    unless_refused (step_answer source caps mapped row area) (stepped (netlist mapped) row area) area
