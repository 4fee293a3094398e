-- Specification 4.11: a mapped netlist without its buffers, the call's answer, and what its area holds afterwards.
use Rattle.std.specs.Prelude.{ℕ, cond, List, [], ◌∷◌, length, ltb}
use Rattle.facts.specs.Answers.{Checked}
use Rattle.facts.specs.Areas.{onto}
use Rattle.facts.specs.Checks.{check, ◌and_then◌, outcome, unless_refused, refuses}
use Rattle.facts.specs.Lists.{tabulate}
use Rattle.facts.specs.Sums.{seek}
use Rattle.netlist.specs.declared.Capacities.{Capacities}
use Rattle.netlist.specs.declared.Record.{Record}
use Rattle.netlist.specs.Kinds.{slots, arity}
use Rattle.netlist.specs.Records.{Netlist, netlist, slot}
use Rattle.netlist.specs.Bytes.{bytes_of}
use Rattle.netlist.specs.Checks.{capacity_checks}
use Rattle.netlist.specs.Counts.{is_buffer}
use Rattle.verifier.specs.Trace.{driver}
use Rattle.verifier.specs.Checks.{verify_checks}

-- N: how many records stand before the first buffer
unfoldable pub source_size : Netlist → ℕ
source_size m = seek (is_buffer m) 0 m.size

-- slot j of a record; a used one, traced back
abbrev pub traced_slot : Netlist → Record → ℕ → ℕ
traced_slot m r j = cond (ltb j (arity r.kind)) (driver m (slot r j)) (slot r j)

-- a record with its used slots traced back
unfoldable pub traced_record : Netlist → Record → Record
traced_record m r =
    record {
      kind = r.kind;
      inversion = r.inversion;
      level = r.level;
      slots = tabulate (traced_slot m r) slots;
    }

-- a mapped netlist without its buffers
abbrev pub stripped : Netlist → Netlist
stripped m = record { size = source_size m; at = λ k. traced_record m (m.at k) }

-- its bytes: if the mapped netlist has a source, this is it
unfoldable pub stripped_bytes : List ℕ → List ℕ
stripped_bytes mapped = bytes_of (stripped (netlist mapped))

-- 24: the verifier does not accept the mapped netlist for what is left of it
abbrev pub sourceless_check : Capacities → List ℕ → Checked
sourceless_check caps mapped = check 24 0 (refuses (verify_checks (stripped_bytes mapped) caps mapped))

-- 25: the area is shorter than a source
abbrev pub room_check : List ℕ → List ℕ → Checked
room_check source area = check 25 0 (ltb (length area) (length source))

-- 24, then 25
unfoldable pub stripping_checks : Capacities → List ℕ → List ℕ → Checked
stripping_checks caps mapped area = sourceless_check caps mapped and_then room_check (stripped_bytes mapped) area

-- 1, 26, 24, 25
unfoldable pub strip_checks : Capacities → List ℕ → List ℕ → Checked
strip_checks caps mapped area = capacity_checks caps and_then stripping_checks caps mapped area

-- the number of records of a mapped netlist's source, or the number of the first failing check and its place
pub data Stripped : Type 0 where
  Records : (size : ℕ) → Stripped
  Refused : (number place : ℕ) → Stripped

-- the call's answer
abbrev pub strip_answer : Capacities → List ℕ → List ℕ → Stripped
strip_answer caps mapped area = outcome (strip_checks caps mapped area) (Records (source_size (netlist mapped))) Refused

-- the area: the source at its start; a refusal leaves it
abbrev pub strip_area : Capacities → List ℕ → List ℕ → List ℕ
strip_area caps mapped area = unless_refused (strip_checks caps mapped area) (onto (stripped_bytes mapped) area) area

-- the numbers of an answer (specification 4.11): number, place, N
unfoldable pub stripped_numbers : Stripped → List ℕ
stripped_numbers (Records size) = 0 ∷ 0 ∷ size ∷ []
stripped_numbers (Refused number place) = number ∷ place ∷ 0 ∷ []
