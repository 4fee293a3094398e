-- What is promised of stripping, over any bytes.
use Rattle.std.specs.Prelude.{ℕ, ◌≤◌, ◌<◌, ◌≡◌, ◌↔◌, List, length}
use Rattle.facts.specs.Areas.{onto}
use Rattle.facts.specs.Refusals.{Conditions, Fails, ◌or◌, Exact}
use Rattle.netlist.specs.declared.Capacities.{Capacities}
use Rattle.netlist.specs.Records.{record_count}
use Rattle.netlist.specs.Refusals.{CapacityFails}
use Rattle.strip.specs.Answer.{Records, Refused}
use Rattle.strip.specs.Sources.{SourceOf}
use Rattle.strip.specs.Answer.{strip_checks, strip_answer, strip_area}

-- two sources of one mapped netlist have the same bytes
abbrev pub OneSource : Type 0
OneSource = (caps : Capacities) (mapped a b : List ℕ) → SourceOf caps mapped a → SourceOf caps mapped b → a ≡ b

-- 24: there is no source
abbrev pub NoSource : Capacities → List ℕ → Type 0
NoSource caps mapped = (source : List ℕ) → SourceOf caps mapped source → ⊥

-- 25: the area is shorter than the source
abbrev pub NoRoom : Capacities → List ℕ → List ℕ → Type 0
NoRoom caps mapped area = (source : List ℕ) × SourceOf caps mapped source × (length area < length source)

-- 1, 26, 24, 25
abbrev pub StripFails : Capacities → List ℕ → List ℕ → Conditions
StripFails caps mapped area =
    CapacityFails caps or Fails 24 0 (NoSource caps mapped) or Fails 25 0 (NoRoom caps mapped area)

-- each number is answered exactly where its condition is the first that holds, and a call is accepted exactly if none does
abbrev pub StripExact : Type 0
StripExact = (caps : Capacities) (mapped area : List ℕ) → Exact (StripFails caps mapped area) (strip_checks caps mapped area)

-- there is a source, of so many records, and the area has room for it
abbrev pub HasSource : Capacities → List ℕ → List ℕ → ℕ → Type 0
HasSource caps mapped area size =
    (source : List ℕ) × SourceOf caps mapped source × (length source ≤ length area) × (size ≡ record_count source)

-- then N is answered, and only then
abbrev pub StripAccepts : Type 0
StripAccepts =
    (caps : Capacities) (mapped area : List ℕ) (size : ℕ) →
    (strip_answer caps mapped area ≡ Records size) ↔ HasSource caps mapped area size

-- where there is one and the area has room for it, it is written at the area's start, and the bytes beyond it stay
abbrev pub StripWrites : Type 0
StripWrites =
    (caps : Capacities) (mapped area source : List ℕ) → SourceOf caps mapped source → length source ≤ length area →
    strip_area caps mapped area ≡ onto source area

-- a refused call leaves the area
abbrev pub StripKeeps : Type 0
StripKeeps =
    (caps : Capacities) (mapped area : List ℕ) (number place : ℕ) →
    strip_answer caps mapped area ≡ Refused number place → strip_area caps mapped area ≡ area
