-- Demands 2 and 3 of what the mapper writes, through the definitions that the calls' contracts cite.
use Rattle.std.specs.Prelude.{ℕ, ◌+◌, ◌*◌, ◌≤◌, ◌≡◌, List, take, drop}
use Rattle.facts.specs.Answers.{Passed}
use Rattle.facts.specs.Checks.{check}
use Rattle.netlist.specs.declared.Capacities.{Capacities}
use Rattle.netlist.specs.Kinds.{width}
use Rattle.netlist.specs.Records.{netlist, record_count}
use Rattle.netlist.specs.Balance.{PathBalanced, ProperlyBranched}
use Rattle.netlist.specs.Counts.{buffer_count}
use Rattle.fanout.specs.Nets.{fewest_in_all}
use Rattle.prices.specs.Checks.{price_list_checks}
use Rattle.mapper.specs.Answer.{too_short, map_checks, map_answer, map_area}
use Rattle.verifier.specs.Checks.{Buffers}
use Rattle.verifier.specs.Checks.{verify_answer}
use Rattle.verifier.specs.Accepted.{Accepted}
use Rattle.verifier.specs.Fewest.{NoMore}

-- the mapper accepts source, capacities, price list and area
abbrev pub Maps : List ℕ → Capacities → List ℕ → List ℕ → Type 0
Maps source caps list area = (map_answer source caps list area).number ≡ 0

-- what it writes: the first M records of the area
abbrev pub written : List ℕ → Capacities → List ℕ → List ℕ → List ℕ
written source caps list area = take (width * (map_answer source caps list area).size) (map_area source caps list area)

-- demand 2: what the mapper writes is legal and keeps every gate, level and fanin
abbrev pub WrittenLegal : Type 0
WrittenLegal = (source : List ℕ) (caps : Capacities) (list area : List ℕ) → Maps source caps list area → Accepted source caps (written source caps list area)

-- demand 2, in the words of Lee, Riener and De Micheli: path-balanced and properly branched
abbrev pub WrittenBalanced : Type 0
WrittenBalanced =
    (source : List ℕ) (caps : Capacities) (list area : List ℕ) → Maps source caps list area →
    PathBalanced (netlist (written source caps list area)) × ProperlyBranched caps (netlist (written source caps list area))

-- demand 2: the verifier accepts it, with the mapper's number of buffers
abbrev pub WrittenAccepted : Type 0
WrittenAccepted =
    (source : List ℕ) (caps : Capacities) (list area : List ℕ) → Maps source caps list area →
    verify_answer source caps (written source caps list area) ≡ Buffers (map_answer source caps list area).buffers

-- accepted, bytes beyond 10 × M stay as they were
abbrev pub BeyondKept : Type 0
BeyondKept =
    (source : List ℕ) (caps : Capacities) (list area : List ℕ) → Maps source caps list area →
    drop (width * (map_answer source caps list area).size) (map_area source caps list area) ≡ drop (width * (map_answer source caps list area).size) area

-- demand 3: no netlist that the verifier accepts has fewer buffers, in all, on a net, or at a level of a net
abbrev pub WrittenLeast : Type 0
WrittenLeast =
    (source : List ℕ) (caps : Capacities) (list area other : List ℕ) (buffers : ℕ) → Maps source caps list area →
    verify_answer source caps other ≡ Buffers buffers →
    ((map_answer source caps list area).buffers ≤ buffers)
    × NoMore (netlist source) (netlist (written source caps list area)) (netlist other)

-- M less N, the answered buffers, the records of kind 5 written and the sum of the counts of all nets are one number
pub record OneNumber (source : List ℕ) (caps : Capacities) (list area : List ℕ) : Type 0 where
  pub added : (map_answer source caps list area).size ≡ record_count source + (map_answer source caps list area).buffers
  pub kinds : buffer_count (netlist (written source caps list area)) ≡ (map_answer source caps list area).buffers
  pub counts : fewest_in_all (netlist source) caps ≡ (map_answer source caps list area).buffers

abbrev pub BuffersOneNumber : Type 0
BuffersOneNumber = (source : List ℕ) (caps : Capacities) (list area : List ℕ) → Maps source caps list area → OneNumber source caps list area

-- where the verifier accepts any mapped netlist, the mapper, with a price list that 27 and 28 pass, refuses by nothing but 10
abbrev pub MapsWhereAccepted : Type 0
MapsWhereAccepted =
    (source : List ℕ) (caps : Capacities) (other list area : List ℕ) (buffers : ℕ) →
    verify_answer source caps other ≡ Buffers buffers → price_list_checks list ≡ Passed →
    map_checks source caps list area ≡ check 10 0 (too_short (netlist source) caps area)
