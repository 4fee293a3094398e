-- Specification 4.2, the count of one net: its answer, and the answer's numbers.
use Rattle.std.specs.Prelude.{ℕ, cond, not, List, [], ◌∷◌}
use Rattle.facts.specs.Answers.{Checked}
use Rattle.facts.specs.Checks.{check, ◌and_then◌, outcome}
use Rattle.netlist.specs.declared.Capacities.{Capacities}
use Rattle.netlist.specs.Kinds.{is_driver}
use Rattle.netlist.specs.Capacities.{capacity_of}
use Rattle.netlist.specs.Records.{Netlist, netlist, record_at}
use Rattle.netlist.specs.Checks.{input_checks}
use Rattle.fanout.specs.declared.Count.{Count}
use Rattle.fanout.specs.declared.Count.TheVariants as count
use Rattle.fanout.specs.Nets.{row, has_tree, fewest}

-- what a row of level counts gives: the fewest buffers, or no tree, where the driver may feed c slots
abbrev pub tree_count : ℕ → ℕ → List ℕ → Count
tree_count c s r = cond (has_tree c s r) (count.Fewest (fewest s r)) count.NoTree

-- what the row of d's net gives
abbrev pub net_count : Netlist → Capacities → ℕ → Count
net_count m caps d = tree_count (capacity_of caps (m.at d).kind) caps.buffer (row m d)

-- 1, 26, 2 to 7, then 20: the record is absent or an output
abbrev pub count_checks : List ℕ → Capacities → ℕ → Checked
count_checks source caps d = input_checks source caps and_then check 20 d (not (is_driver (record_at source d).kind))

-- the count of the net that record d drives
unfoldable pub count_answer : List ℕ → Capacities → ℕ → Count
count_answer source caps d = outcome (count_checks source caps d) (net_count (netlist source) caps d) count.Refused

-- what stands for no tree where a number is asked for
abbrev pub no_tree : ℕ
no_tree = 4294967295

-- number, place and fewest buffers
unfoldable pub count_numbers : Count → List ℕ
count_numbers (count.Fewest n) = 0 ∷ 0 ∷ n ∷ []
count_numbers count.NoTree = 0 ∷ 0 ∷ no_tree ∷ []
count_numbers (count.Refused number place) = number ∷ place ∷ 0 ∷ []
