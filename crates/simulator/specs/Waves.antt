-- Specification 6.3: rows, and a list of one-step calls on one state area.
use Rattle.std.specs.Prelude.{ℕ, cond, List, [], ◌∷◌, replicate, ltb}
use Rattle.facts.specs.Answers.{Checked}
use Rattle.facts.specs.Checks.{unless_refused}
use Rattle.netlist.specs.declared.Capacities.{Capacities}
use Rattle.simulator.specs.Step.{step_answer, step_area}
use Rattle.simulator.specs.Run.{row_at}

-- the row of step k of a run of r rows of w bytes each: row k, and zeros once they are spent
abbrev pub row_of_step : ℕ → List ℕ → ℕ → ℕ → List ℕ
row_of_step w rows r k = cond (ltb k r) (row_at w rows k) (replicate w 0)

-- one more of an accepted call; a refused call is no step
abbrev pub counted : Checked → List ℕ → List (List ℕ) → List (List ℕ)
counted answer x xs = unless_refused answer (x ∷ xs) xs

-- the rows of the accepted calls, in order; each call gets the area as the last one left it
unfoldable pub taken : List ℕ → Capacities → List ℕ → List ℕ → List (List ℕ) → List (List ℕ)
taken source caps mapped area [] = []
taken source caps mapped area (row ∷ rows) =
    counted (step_answer source caps mapped row area) row (taken source caps mapped (step_area source caps mapped row area) rows)

-- the areas after the accepted calls, in order
unfoldable pub history : List ℕ → Capacities → List ℕ → List ℕ → List (List ℕ) → List (List ℕ)
history source caps mapped area [] = []
history source caps mapped area (row ∷ rows) =
    counted (step_answer source caps mapped row area) (step_area source caps mapped row area)
    (history source caps mapped (step_area source caps mapped row area) rows)

-- the area after all calls
unfoldable pub leaves : List ℕ → Capacities → List ℕ → List ℕ → List (List ℕ) → List ℕ
leaves source caps mapped area [] = area
leaves source caps mapped area (row ∷ rows) = leaves source caps mapped (step_area source caps mapped row area) rows
