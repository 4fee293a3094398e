-- Specification 4.4, the plain evaluator: what it answers and what its area holds afterwards.
use Rattle.std.specs.Prelude.{ℕ, Bool, not, ◌||◌, List, length, get_or, ltb, eqb}
use Rattle.facts.specs.Answers.{Checked}
use Rattle.facts.specs.Checks.{check, ◌and_then◌, unless_refused, scan}
use Rattle.netlist.specs.Records.{Netlist, netlist, record_count}
use Rattle.netlist.specs.Checks.{source_checks}
use Rattle.netlist.specs.Counts.{inputs}
use Rattle.simulator.specs.Logic.{values}

-- 19 of byte k: above 1
abbrev pub bit_check : List ℕ → ℕ → Checked
bit_check row k = check 19 k (ltb 1 (get_or row k 0))

-- 19: the first byte above 1, at its position
unfoldable pub bit_checks : List ℕ → Checked
bit_checks row = scan (bit_check row) 0 (length row)

-- 18: not one row of a byte per input, or not a byte per record
abbrev pub bad_areas : Netlist → List ℕ → List ℕ → Bool
bad_areas m row area = not (eqb (length row) (inputs m)) || not (eqb (length area) m.size)

-- 18, then 19
unfoldable pub evaluate_checks : Netlist → List ℕ → List ℕ → Checked
evaluate_checks m row area = check 18 0 (bad_areas m row area) and_then bit_checks row

-- 2 to 7, 18, 19: the evaluator's answer
unfoldable pub evaluate_answer : List ℕ → List ℕ → List ℕ → Checked
evaluate_answer source row area = source_checks source and_then evaluate_checks (netlist source) row area

-- the evaluator's area: plain logic's values
unfoldable pub evaluate_area : List ℕ → List ℕ → List ℕ → List ℕ
evaluate_area source row area =
    unless_refused (evaluate_answer source row area) (values (netlist source) row (record_count source)) area
