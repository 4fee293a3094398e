-- The conditions of checks 11 to 17 as facts (specification 3.3), and the theorem that the refusals are exact.
use Rattle.std.specs.Prelude.{ℕ, suc, ◌<◌, ◌≤◌, ◌≡◌, ◌⊎◌, ◌↔◌, ◌≢◌, List}
use Rattle.facts.specs.Refusals.{Conditions, Fails, ◌or◌, Each, FirstAt}
use Rattle.netlist.specs.declared.Capacities.{Capacities}
use Rattle.netlist.specs.declared.Record.{Record}
use Rattle.netlist.specs.Kinds.{slots, unused, top_level, mapped_limit, output, buffer, arity}
use Rattle.netlist.specs.Records.{Netlist, netlist, record_count, slot, fanin, feeds}
use Rattle.netlist.specs.Refusals.{Ragged, InputFails}
use Rattle.netlist.specs.Capacities.{capacity_of}
use Rattle.verifier.specs.Checks.{Refused}
use Rattle.verifier.specs.Legal.{Traces}
use Rattle.verifier.specs.Checks.{verify_answer}

-- 11: the length is no multiple of 10, or there are fewer records than the source's or over 60,000
abbrev pub BadLength : ℕ → List ℕ → Type 0
BadLength records bytes = Ragged bytes ⊎ ((record_count bytes < records) ⊎ (mapped_limit < record_count bytes))

-- 12: a record below the source's size differs from the source's outside its used slots
abbrev pub Changed : Netlist → ℕ → Record → Type 0
Changed n k r =
    (k < n.size)
    × ((r.kind ≢ (n.at k).kind)
    ⊎ ((r.inversion ≢ (n.at k).inversion)
    ⊎ ((r.level ≢ (n.at k).level)
    ⊎ ((j : ℕ) × (j < slots) × ((arity (n.at k).kind ≤ j) × (slot r j ≢ slot (n.at k) j))))))

-- 13: a record from there on has kind not 5, inversion not 0, level above 4,095, or an unused slot not 65,535
abbrev pub Foreign : Netlist → ℕ → Record → Type 0
Foreign n k r =
    (n.size ≤ k)
    × ((r.kind ≢ buffer)
    ⊎ ((r.inversion ≢ 0)
    ⊎ ((top_level < r.level)
    ⊎ ((j : ℕ) × (j < slots) × ((arity buffer ≤ j) × (slot r j ≢ unused))))))

-- 14: a used slot names no record or an output
abbrev pub BadNames : Netlist → Record → Type 0
BadNames m r =
    (j : ℕ) × (j < arity r.kind) × ((m.size ≤ slot r j) ⊎ ((m.at (slot r j)).kind ≡ output))

-- 15: a fanin is not one level lower
abbrev pub Unbalanced : Netlist → Record → Type 0
Unbalanced m r = (j : ℕ) × (j < arity r.kind) × (r.level ≢ suc (m.at (slot r j)).level)

-- 16: a slot of source record k is traced to another driver
abbrev pub Strays : Netlist → Netlist → ℕ → Type 0
Strays n m k =
    (j : ℕ) × (j < arity (n.at k).kind) × ((d : ℕ) × Traces m d (fanin m k j) × (d ≢ fanin n k j))

-- 17: record k feeds too many slots
abbrev pub Overfed : Capacities → Netlist → ℕ → Type 0
Overfed caps m k = capacity_of caps (m.at k).kind < feeds m k

-- 12 and 13, and 14 and 15, of record k
abbrev pub KeepFails : Netlist → Netlist → ℕ → Conditions
KeepFails n m k = Fails 12 k (Changed n k (m.at k)) or Fails 13 k (Foreign n k (m.at k))

abbrev pub SlotsFail : Netlist → ℕ → Conditions
SlotsFail m k = Fails 14 k (BadNames m (m.at k)) or Fails 15 k (Unbalanced m (m.at k))

-- 12 to 15 of record k
abbrev pub PlaceFails : Netlist → Netlist → ℕ → Conditions
PlaceFails n m k = KeepFails n m k or SlotsFail m k

-- 16 and 17 of record k
abbrev pub TraceFails : Netlist → Netlist → ℕ → Conditions
TraceFails n m k = Fails 16 k (Strays n m k)

abbrev pub FeedFails : Capacities → Netlist → ℕ → Conditions
FeedFails caps m k = Fails 17 k (Overfed caps m k)

-- 12 to 17
abbrev pub LegalFails : Netlist → Capacities → Netlist → Conditions
LegalFails n caps m =
    Each m.size (PlaceFails n m) or (Each n.size (TraceFails n m) or Each m.size (FeedFails caps m))

-- 11 to 17
abbrev pub MappedFails : Netlist → Capacities → List ℕ → Conditions
MappedFails n caps bytes = Fails 11 0 (BadLength n.size bytes) or LegalFails n caps (netlist bytes)

-- 1, 26, 2 to 7, then 11 to 17
abbrev pub VerifyFails : List ℕ → Capacities → List ℕ → Conditions
VerifyFails source caps mapped = InputFails source caps or MappedFails (netlist source) caps mapped

-- the verifier refuses exactly by the first of 1, 26, 2 to 7 and 11 to 17 whose condition holds
abbrev pub RefusedExactly : Type 0
RefusedExactly =
    (source : List ℕ) (caps : Capacities) (mapped : List ℕ) (number place : ℕ) →
    (verify_answer source caps mapped ≡ Refused number place) ↔ FirstAt (VerifyFails source caps mapped) number place
