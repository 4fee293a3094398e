-- Checks 1, 26 and 2 to 7 (specification 3.3), each a condition with a name, and their order.
use Rattle.std.specs.Prelude.{ℕ, ◌%◌, ◌^◌, Bool, cond, not, ◌&&◌, ◌||◌, List, length, ltb, leb, eqb}
use Rattle.facts.specs.Answers.{Checked}
use Rattle.facts.specs.Checks.{check, ◌and_then◌, scan}
use Rattle.facts.specs.Sums.{any}
use Rattle.netlist.specs.declared.Capacities.{Capacities}
use Rattle.netlist.specs.declared.Record.{Record}
use Rattle.netlist.specs.Kinds.{width, slots, unused, top_level, source_limit, input, output, arity, invertible}
use Rattle.netlist.specs.Capacities.{most_input_capacity}
use Rattle.netlist.specs.Records.{Netlist, netlist, record_count, slot, depth}

-- a number below the least or above the most
abbrev pub outside : ℕ → ℕ → ℕ → Bool
outside least most x = ltb x least || ltb most x

-- 1: no capacity of a buffer
abbrev pub bad_capacity : ℕ → Bool
bad_capacity s = outside 2 4 s

-- 26: no capacity of an input
abbrev pub bad_input_capacity : ℕ → Bool
bad_input_capacity b = outside 1 most_input_capacity b

-- 2: the length is no multiple of a record's
abbrev pub ragged : List ℕ → Bool
ragged bytes = not (eqb (length bytes % width) 0)

-- 3: too many records
abbrev pub too_many : List ℕ → Bool
too_many bytes = ltb source_limit (record_count bytes)

-- 4: no kind of a source
abbrev pub bad_kind : Record → Bool
bad_kind r = ltb output r.kind

-- 5: an inversion bit beyond those that the kind may set
abbrev pub bad_inversion : Record → Bool
bad_inversion r = leb (2 ^ invertible r.kind) r.inversion

-- 6, one slot of record k: used and naming no earlier record or an output, or unused and not saying so
abbrev pub bad_slot : Netlist → ℕ → Record → ℕ → Bool
bad_slot m k r j =
    cond (ltb j (arity r.kind))
    (leb k (slot r j) || eqb (m.at (slot r j)).kind output)
    (not (eqb (slot r j) unused))

-- 6: some slot of record k is bad
abbrev pub bad_slots : Netlist → ℕ → Record → Bool
bad_slots m k r = any (bad_slot m k r) slots

-- 7, one slot: a fanin that does not stand below the record
abbrev pub not_below : Netlist → Record → ℕ → Bool
not_below m r j = ltb j (arity r.kind) && leb r.level (m.at (slot r j)).level

-- 7, the record's own level: too large, an input not at 0, or an output not at the first output's level
abbrev pub misplaced : ℕ → Record → Bool
misplaced deep r =
    ltb top_level r.level
    || ((eqb r.kind input && not (eqb r.level 0)) || (eqb r.kind output && not (eqb r.level deep)))

-- 7: the record's own level or a fanin's is wrong
abbrev pub bad_level : Netlist → Record → Bool
bad_level m r = misplaced (depth m) r || any (not_below m r) slots

-- 1
abbrev pub capacity_check : ℕ → Checked
capacity_check s = check 1 0 (bad_capacity s)

-- 26
abbrev pub input_capacity_check : ℕ → Checked
input_capacity_check b = check 26 0 (bad_input_capacity b)

-- 1 and 26
abbrev pub capacity_checks : Capacities → Checked
capacity_checks caps = capacity_check caps.buffer and_then input_capacity_check caps.input

-- 2 and 3
abbrev pub size_checks : List ℕ → Checked
size_checks bytes = check 2 0 (ragged bytes) and_then check 3 0 (too_many bytes)

-- 4 to 6 of record k
abbrev pub structure_of : Netlist → ℕ → Record → Checked
structure_of m k r = check 4 k (bad_kind r) and_then check 5 k (bad_inversion r) and_then check 6 k (bad_slots m k r)

-- 7 of record k
abbrev pub level_of : Netlist → ℕ → Record → Checked
level_of m k r = check 7 k (bad_level m r)

-- 4 to 7 of record k
abbrev pub record_checks : Netlist → ℕ → Checked
record_checks m k = structure_of m k (m.at k) and_then level_of m k (m.at k)

-- 2 to 7: the source reader's answer
unfoldable pub source_checks : List ℕ → Checked
source_checks bytes = size_checks bytes and_then scan (record_checks (netlist bytes)) 0 (record_count bytes)

-- 4 to 6 of record k as it stands
abbrev pub structure_at : Netlist → ℕ → Checked
structure_at m k = structure_of m k (m.at k)

-- 2 to 6: the source reader's answer where levels are not looked at
unfoldable pub structure_checks : List ℕ → Checked
structure_checks bytes = size_checks bytes and_then scan (structure_at (netlist bytes)) 0 (record_count bytes)

-- 1, 26 and 2 to 7: what every call with capacities and a source checks first
abbrev pub input_checks : List ℕ → Capacities → Checked
input_checks bytes caps = capacity_checks caps and_then source_checks bytes
