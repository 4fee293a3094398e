-- A source with its least levels, as the other calls take it.
use Rattle.std.specs.Prelude.{ℕ, ◌≤◌, ◌≡◌, List}
use Rattle.facts.specs.Answers.{Passed}
use Rattle.netlist.specs.Capacities.{capacities_of, most_input_capacity}
use Rattle.netlist.specs.Records.{netlist}
use Rattle.netlist.specs.Checks.{input_checks}
use Rattle.nets.specs.Checks.{tree_checks}
use Rattle.levels.specs.Levels.{levels_answer, levels_area}

-- with the same s and any b from 1 to 4,095 none of 1, 26 and 2 to 8 refuses it
abbrev pub LevelledMaps : Type 0
LevelledMaps =
    (source : List ℕ) (s b : ℕ) (area : List ℕ) → levels_answer source s area ≡ Passed → 1 ≤ b → b ≤ most_input_capacity →
    (input_checks (levels_area source s area) (capacities_of s b) ≡ Passed)
    × (tree_checks (netlist (levels_area source s area)) (capacities_of s b) ≡ Passed)
