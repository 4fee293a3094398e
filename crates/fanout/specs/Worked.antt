-- Specification 8.1: nets worked through, P1 to P12 as s, distances and answer, nets of inputs that branch as b, s, distances and answer.
use Rattle.std.specs.Prelude.{ℕ, suc, List, [], ◌∷◌, replicate}
use Rattle.netlist.specs.Kinds.{top_level}
use Rattle.netlist.specs.Capacities.{gate_capacity}
use Rattle.fanout.specs.declared.Count.{Count}
use Rattle.fanout.specs.declared.Count.TheVariants.{Fewest, NoTree}
use Rattle.fanout.specs.Nets.{added}

-- a row with one more sink for each distance of a list
abbrev pub added_all : List ℕ → List ℕ → List ℕ
added_all r [] = r
added_all r (distance ∷ distances) = added_all (added r distance) distances

-- the row of level counts, 4,096 entries, of a net with these distances
abbrev pub row_at : List ℕ → List ℕ
row_at distances = added_all (replicate (suc top_level) 0) distances

-- a net worked through: what its driver and a buffer may feed, its distances, and the answer
pub record Case : Type 0 where
  pub driver_capacity : ℕ
  pub capacity : ℕ
  pub distances : List ℕ
  pub answer : Count

-- a net whose driver may feed c slots
abbrev pub case_of : ℕ → ℕ → List ℕ → Count → Case
case_of c s distances answer = record { driver_capacity = c; capacity = s; distances = distances; answer = answer }

-- a net of a gate, or of an input with b = 1
abbrev pub case : ℕ → List ℕ → Count → Case
case s distances answer = case_of gate_capacity s distances answer

-- P1 to P12
abbrev pub worked : List Case
worked =
    case 2 [] (Fewest 0)
    ∷ case 2 (1 ∷ []) (Fewest 0)
    ∷ case 2 (1 ∷ 1 ∷ []) NoTree
    ∷ case 2 (2 ∷ 2 ∷ []) (Fewest 1)
    ∷ case 2 (2 ∷ 2 ∷ 2 ∷ []) NoTree
    ∷ case 3 (2 ∷ 2 ∷ 2 ∷ []) (Fewest 1)
    ∷ case 2 (3 ∷ 3 ∷ 3 ∷ []) (Fewest 3)
    ∷ case 2 (2 ∷ 5 ∷ 5 ∷ 5 ∷ []) (Fewest 5)
    ∷ case 2 (1 ∷ 2 ∷ []) NoTree
    ∷ case 2 (2 ∷ 3 ∷ 3 ∷ []) (Fewest 2)
    ∷ case 2 (2 ∷ 3 ∷ 3 ∷ 3 ∷ []) NoTree
    ∷ case 4 (2 ∷ 2 ∷ 2 ∷ 2 ∷ 2 ∷ []) NoTree
    ∷ []

-- inputs that branch
abbrev pub branching : List Case
branching =
    case_of 2 2 (1 ∷ 1 ∷ []) (Fewest 0)
    ∷ case_of 2 2 (1 ∷ 1 ∷ 1 ∷ []) NoTree
    ∷ case_of 2 2 (2 ∷ 2 ∷ []) (Fewest 1)
    ∷ case_of 2 2 (2 ∷ 2 ∷ 2 ∷ []) (Fewest 2)
    ∷ case_of 2 2 (1 ∷ 2 ∷ []) (Fewest 1)
    ∷ case_of 2 2 (2 ∷ 3 ∷ 3 ∷ 3 ∷ []) (Fewest 4)
    ∷ case_of 2 4 (2 ∷ 2 ∷ 2 ∷ 2 ∷ 2 ∷ []) (Fewest 2)
    ∷ case_of 3 2 (1 ∷ 1 ∷ 3 ∷ []) (Fewest 2)
    ∷ []
