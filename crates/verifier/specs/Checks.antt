-- Checks 11 to 17 (specification 3.3), each a condition with a name, their order, and the verifier's answer.
use Rattle.std.specs.Prelude.{ℕ, suc, Bool, not, ◌&&◌, ◌||◌, List, [], ◌∷◌, ltb, leb, eqb}
use Rattle.facts.specs.Answers.{Checked}
use Rattle.facts.specs.Checks.{check, ◌and_then◌, outcome, scan}
use Rattle.facts.specs.Sums.{any}
use Rattle.netlist.specs.declared.Capacities.{Capacities}
use Rattle.netlist.specs.declared.Record.{Record}
use Rattle.netlist.specs.Kinds.{slots, top_level, mapped_limit, output, buffer, arity}
use Rattle.netlist.specs.Records.{Netlist, netlist, record_count, blank, slot, feeds}
use Rattle.netlist.specs.Counts.{buffer_count}
use Rattle.netlist.specs.Checks.{ragged, input_checks}
use Rattle.netlist.specs.Capacities.{capacity_of}
use Rattle.verifier.specs.Trace.{driver}

-- 11: no whole records, fewer than the source's, or too many
abbrev pub bad_length : ℕ → List ℕ → Bool
bad_length records bytes = ragged bytes || (ltb (record_count bytes) records || ltb mapped_limit (record_count bytes))

-- a slot j that a kind does not use, in which r differs from a
abbrev pub bad_empty : ℕ → Record → Record → ℕ → Bool
bad_empty kind a r j = leb (arity kind) j && not (eqb (slot r j) (slot a j))

-- 12: r differs from the source record a outside a's used slots
abbrev pub differs : Record → Record → Bool
differs a r =
    not (eqb r.kind a.kind)
    || (not (eqb r.inversion a.inversion)
    || (not (eqb r.level a.level) || any (bad_empty a.kind a r) slots))

-- 13: r is no buffer's record; a blank record's slots are all unused
abbrev pub no_buffer : Record → Bool
no_buffer r =
    not (eqb r.kind buffer)
    || (not (eqb r.inversion 0) || (ltb top_level r.level || any (bad_empty buffer blank r) slots))

-- 14, one used slot: it names no record or an output
abbrev pub bad_name : Netlist → Record → ℕ → Bool
bad_name m r j = leb m.size (slot r j) || eqb (m.at (slot r j)).kind output

-- 15, one used slot: its fanin is not one level lower
abbrev pub not_one_lower : Netlist → Record → ℕ → Bool
not_one_lower m r j = not (eqb r.level (suc (m.at (slot r j)).level))

-- 16, one used slot of a source record a that stands mapped as r: traced to another driver
abbrev pub strays : Netlist → Record → Record → ℕ → Bool
strays m a r j = not (eqb (driver m (slot r j)) (slot a j))

-- 17: record k feeds too many slots
abbrev pub overfed : Capacities → Netlist → ℕ → Bool
overfed caps m k = ltb (capacity_of caps (m.at k).kind) (feeds m k)

-- 12 of record k, if it stands below the source's size
abbrev pub changed : Netlist → ℕ → Record → Bool
changed n k r = ltb k n.size && differs (n.at k) r

-- 13 of record k, if it stands from there on
abbrev pub foreign : Netlist → ℕ → Record → Bool
foreign n k r = leb n.size k && no_buffer r

-- 12 and 13 of record k
abbrev pub keep_checks : Netlist → ℕ → Record → Checked
keep_checks n k r = check 12 k (changed n k r) and_then check 13 k (foreign n k r)

-- 14 and 15 of record k
abbrev pub slot_checks : Netlist → ℕ → Record → Checked
slot_checks m k r =
    check 14 k (any (bad_name m r) (arity r.kind)) and_then check 15 k (any (not_one_lower m r) (arity r.kind))

-- 12 to 15 of record k
abbrev pub place_checks : Netlist → Netlist → ℕ → Checked
place_checks n m k = keep_checks n k (m.at k) and_then slot_checks m k (m.at k)

-- 16 of source record k
abbrev pub trace_check : Netlist → Netlist → ℕ → Checked
trace_check n m k = check 16 k (any (strays m (n.at k) (m.at k)) (arity (n.at k).kind))

-- 17 of record k
abbrev pub feed_check : Capacities → Netlist → ℕ → Checked
feed_check caps m k = check 17 k (overfed caps m k)

-- 12 to 17
unfoldable pub legal_checks : Netlist → Capacities → Netlist → Checked
legal_checks n caps m =
    scan (place_checks n m) 0 m.size
    and_then scan (trace_check n m) 0 n.size
    and_then scan (feed_check caps m) 0 m.size

-- 11 to 17
unfoldable pub mapped_checks : Netlist → Capacities → List ℕ → Checked
mapped_checks n caps bytes = check 11 0 (bad_length n.size bytes) and_then legal_checks n caps (netlist bytes)

-- 1, 26, 2 to 7, then 11 to 17
unfoldable pub verify_checks : List ℕ → Capacities → List ℕ → Checked
verify_checks source caps mapped = input_checks source caps and_then mapped_checks (netlist source) caps mapped

-- a legal mapped netlist's number of buffers, or the number of the first failing check and its place
pub data Verified : Type 0 where
  Buffers : (buffers : ℕ) → Verified
  Refused : (number place : ℕ) → Verified

-- the verifier's answer
abbrev pub verify_answer : List ℕ → Capacities → List ℕ → Verified
verify_answer source caps mapped = outcome (verify_checks source caps mapped) (Buffers (buffer_count (netlist mapped))) Refused

-- the numbers of an answer (specification 4.3): number, place, buffers
unfoldable pub verified_numbers : Verified → List ℕ
verified_numbers (Buffers buffers) = 0 ∷ 0 ∷ buffers ∷ []
verified_numbers (Refused number place) = number ∷ place ∷ 0 ∷ []
