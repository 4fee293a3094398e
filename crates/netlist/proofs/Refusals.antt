-- The answers of checks 1, 26 and 2 to 7 are exact: each test is its condition, and the checks stand in the table's order.
use Prim.Native.Nat.{ℕ, ◌%◌, ◌^◌, ◌<◌, ◌≤◌}
use native.Mathlib.Omega.{arith}
use mathlib.Core.Path.{◌≡◌}
use mathlib.Core.Logic.{◌⊎◌, ⊎_elim, ◌↔◌, ◌≢◌}
use mathlib.Core.Bool.{true, not, ◌&&◌, ◌||◌}
use mathlib.Core.List.{List}
use lib.ListN.{length}
use lib.Dec.{leb, eqb}
use Rattle.facts.specs.Answers.{Checked}
use Rattle.facts.specs.Checks.{◌and_then◌, scan}
use Rattle.facts.specs.Sums.{any}
use Rattle.facts.specs.Refusals.{Conditions, row_of, Fails, ◌or◌, Each, First}
use Rattle.facts.proofs.Bits.{bit_from}
use Rattle.facts.proofs.Sums.{any_some}
use Rattle.facts.proofs.Reflect.{iff_sum, iff_pair, iff_trans, iff_some, less, most, same, unlike, either_is, both_is, side}
use Rattle.facts.proofs.Refusals.{InRow, UpTo, After, Within, rows_before, one_row, within_one, within_or, within_before, first_check, first_then, first_scan, scan_rows, exact}
use Rattle.netlist.specs.declared.Capacities.{Capacities}
use Rattle.netlist.specs.declared.Record.{Record}
use Rattle.netlist.specs.Kinds.{width, slots, unused, source_limit, top_level, arity, input, output, invertible}
use Rattle.netlist.specs.Capacities.{most_input_capacity}
use Rattle.netlist.specs.Records.{Netlist, netlist, record_count, slot, depth}
use Rattle.netlist.specs.Checks.{outside, bad_inversion, bad_slot, bad_slots, not_below, misplaced, bad_level, capacity_check, capacity_checks, size_checks, structure_at, record_checks, source_checks, structure_checks, input_checks}
use Rattle.netlist.proofs.Checks.{arity_slots}
use Rattle.netlist.specs.Refusals.{Outside, BadCapacity, BadInputCapacity, CapacityFails, Ragged, TooMany, BadInversion, BadSlots, Misplaced, BadLevel, SizeFails, StructureFails, RecordFails, SourceFails, StructuresFail, InputFails, SourceExact, StructureExact, InputExact}

outside_is : (least most x : ℕ) → (outside least most x ≡ true) ↔ Outside least most x
outside_is least most x = either_is (less x least) (less most x)

pub capacity_first : (s : ℕ) → First (Fails 1 0 (BadCapacity s)) (capacity_check s)
capacity_first s = first_check 1 0 (outside_is 2 4 s)

-- 1 and 26 stand in the table's first two rows
pub capacities_rows : (caps : Capacities) (n p : ℕ) → CapacityFails caps n p → (row_of 0 < row_of n) × (row_of n ≤ row_of 26)
capacities_rows caps n p =
    ⊎_elim
    (λ f. omega (arith, one_row 1 0 (BadCapacity caps.buffer) n p f))
    (λ f. omega (arith, one_row 26 0 (BadInputCapacity caps.input) n p f))

pub capacities_first : (caps : Capacities) → First (CapacityFails caps) (capacity_checks caps)
capacities_first caps =
    first_then
    (rows_before (row_of 1) (λ n p f. omega (arith, one_row 1 0 (BadCapacity caps.buffer) n p f)) (λ n p f. omega (arith, one_row 26 0 (BadInputCapacity caps.input) n p f)))
    (capacity_first caps.buffer)
    (first_check 26 0 (outside_is 1 most_input_capacity caps.input))

inversion_is : (r : Record) → (bad_inversion r ≡ true) ↔ BadInversion r
inversion_is r = iff_trans (most (2 ^ invertible r.kind) r.inversion) (bit_from (invertible r.kind) r.inversion)

slots_are : (m : Netlist) (k : ℕ) (r : Record) → (bad_slots m k r ≡ true) ↔ BadSlots m k r
slots_are m k r = iff_trans (any_some (bad_slot m k r) slots) (iff_some slots _ _ one)
  where
    one : (j : ℕ) → (bad_slot m k r j ≡ true) ↔ (((j < arity r.kind) × ((k ≤ slot r j) ⊎ ((m.at (slot r j)).kind ≡ output))) ⊎ ((arity r.kind ≤ j) × (slot r j ≢ unused)))
    one j =
        iff_trans (side j (arity r.kind) (leb k (slot r j) || eqb (m.at (slot r j)).kind output) (not (eqb (slot r j) unused)))
        (iff_sum
        (iff_pair (λ l. l, λ l. l) (either_is (most k (slot r j)) (same (m.at (slot r j)).kind output)))
        (iff_pair (λ l. l, λ l. l) (unlike (slot r j) unused)))

fanins_are : (m : Netlist) (r : Record) → (any (not_below m r) slots ≡ true) ↔ ((j : ℕ) × (j < arity r.kind) × (r.level ≤ (m.at (slot r j)).level))
fanins_are m r = iff_trans (any_some (not_below m r) slots) (
  λ x. let y = (one x.0).0 x.2 in (x.0, y.0, y.1),
  λ x. (x.0, omega (arith, arity_slots r.kind, x.1), (one x.0).1 (x.1, x.2)),
)
  where
    one : (j : ℕ) → (not_below m r j ≡ true) ↔ ((j < arity r.kind) × (r.level ≤ (m.at (slot r j)).level))
    one j = both_is (less j (arity r.kind)) (most r.level (m.at (slot r j)).level)

level_is : (m : Netlist) (r : Record) → (bad_level m r ≡ true) ↔ BadLevel m r
level_is m r = either_is own (fanins_are m r)
  where
    at : (kind level : ℕ) → ((eqb r.kind kind && not (eqb r.level level)) ≡ true) ↔ ((r.kind ≡ kind) × (r.level ≢ level))
    at kind level = both_is (same r.kind kind) (unlike r.level level)

    own : (misplaced (depth m) r ≡ true) ↔ Misplaced (depth m) r
    own = either_is (less top_level r.level) (either_is (at input 0) (at output (depth m)))

-- 4 to 7 stand at one place of one row
later_within : (m : Netlist) (k : ℕ) → Within (row_of 7) k 5 6 (Fails 5 k (BadInversion (m.at k)) or Fails 6 k (BadSlots m k (m.at k)))
later_within m k = within_or (row_of 7) k 5 5 6 6 (within_one 5 k _) (within_one 6 k _) (omega arith) (omega arith) (omega arith)

structure_within : (m : Netlist) (k : ℕ) → Within (row_of 7) k 4 6 (StructureFails m k)
structure_within m k = within_or (row_of 7) k 4 4 5 6 (within_one 4 k _) (later_within m k) (omega arith) (omega arith) (omega arith)

record_within : (m : Netlist) (k : ℕ) → Within (row_of 7) k 4 7 (RecordFails m k)
record_within m k = within_or (row_of 7) k 4 6 7 7 (structure_within m k) (within_one 7 k _) (omega arith) (omega arith) (omega arith)

structure_first : (m : Netlist) (k : ℕ) → First (StructureFails m k) (structure_at m k)
structure_first m k =
    first_then (within_before (row_of 7) k 4 4 5 6 (within_one 4 k _) (later_within m k) (omega arith))
    (first_check 4 k (less output (m.at k).kind))
    (first_then (within_before (row_of 7) k 5 5 6 6 (within_one 5 k _) (within_one 6 k _) (omega arith))
    (first_check 5 k (inversion_is (m.at k)))
    (first_check 6 k (slots_are m k (m.at k))))

record_first : (m : Netlist) (k : ℕ) → First (RecordFails m k) (record_checks m k)
record_first m k =
    first_then (within_before (row_of 7) k 4 6 7 7 (structure_within m k) (within_one 7 k _) (omega arith))
    (structure_first m k)
    (first_check 7 k (level_is m (m.at k)))

size_rows : (bytes : List ℕ) (n p : ℕ) → SizeFails bytes n p → (row_of 28 < row_of n) × (row_of n ≤ row_of 3)
size_rows bytes n p =
    ⊎_elim
    (λ f. omega (arith, one_row 2 0 (Ragged bytes) n p f))
    (λ f. omega (arith, one_row 3 0 (TooMany bytes) n p f))

-- 2 and 3, then checks of each record in the row of 7
module _ (bytes : List ℕ) (f : ℕ → Checked) (F : ℕ → Conditions) (last : ℕ) (within : (k : ℕ) → Within (row_of 7) k 4 last (F k)) where
  records_rows : InRow (row_of 7) (Each (record_count bytes) F)
  records_rows = scan_rows F (row_of 7) 4 last (record_count bytes) within

  all_rows : (n p : ℕ) → (SizeFails bytes or Each (record_count bytes) F) n p → (row_of 28 < row_of n) × (row_of n ≤ row_of 7)
  all_rows n p = ⊎_elim (λ f. omega (arith, size_rows bytes n p f)) (λ f. omega (arith, records_rows n p f))

  all_first : ((k : ℕ) → First (F k) (f k)) →
      First (SizeFails bytes or Each (record_count bytes) F) (size_checks bytes and_then scan f 0 (record_count bytes))
  all_first each =
      first_then
      (rows_before (row_of 3) (λ n p f. omega (arith, size_rows bytes n p f)) (λ n p f. omega (arith, records_rows n p f)))
      (first_then (rows_before (row_of 2) (λ n p f. omega (arith, one_row 2 0 (Ragged bytes) n p f)) (λ n p f. omega (arith, one_row 3 0 (TooMany bytes) n p f)))
      (first_check 2 0 (unlike (length bytes % width) 0))
      (first_check 3 0 (less source_limit (record_count bytes))))
      (first_scan f F (row_of 7) 4 last within (record_count bytes) (λ k l. each k))

-- the conditions of checks 2 to 7, and of 2 to 6, stand in the table's rows after that of 28, up to that of 7
pub source_rows : (bytes : List ℕ) (n p : ℕ) → SourceFails bytes n p → (row_of 28 < row_of n) × (row_of n ≤ row_of 7)
source_rows bytes = all_rows bytes (record_checks (netlist bytes)) (RecordFails (netlist bytes)) 7 (record_within (netlist bytes))

pub structure_rows : (bytes : List ℕ) (n p : ℕ) → StructuresFail bytes n p → (row_of 28 < row_of n) × (row_of n ≤ row_of 7)
structure_rows bytes = all_rows bytes (structure_at (netlist bytes)) (StructureFails (netlist bytes)) 6 (structure_within (netlist bytes))

-- and those of 1, 26 and 2 to 7 in the rows up to that of 7
pub input_rows : (bytes : List ℕ) (caps : Capacities) → UpTo (row_of 7) (InputFails bytes caps)
input_rows bytes caps n p =
    ⊎_elim (λ f. omega (arith, capacities_rows caps n p f)) (λ f. (source_rows bytes n p f).1)

-- so no refusal has number 0
pub input_numbered : (bytes : List ℕ) (caps : Capacities) → After (row_of 0) (InputFails bytes caps)
input_numbered bytes caps n p =
    ⊎_elim (λ f. (capacities_rows caps n p f).0) (λ f. omega (arith, (source_rows bytes n p f).0))

pub source_first : (bytes : List ℕ) → First (SourceFails bytes) (source_checks bytes)
unfolding source_checks
source_first bytes =
    all_first bytes (record_checks (netlist bytes)) (RecordFails (netlist bytes)) 7 (record_within (netlist bytes)) (record_first (netlist bytes))

pub structures_first : (bytes : List ℕ) → First (StructuresFail bytes) (structure_checks bytes)
unfolding structure_checks
structures_first bytes =
    all_first bytes (structure_at (netlist bytes)) (StructureFails (netlist bytes)) 6 (structure_within (netlist bytes)) (structure_first (netlist bytes))

pub input_first : (bytes : List ℕ) (caps : Capacities) → First (InputFails bytes caps) (input_checks bytes caps)
input_first bytes caps =
    first_then
    (rows_before (row_of 26) (λ n p f. (capacities_rows caps n p f).1) (λ n p f. omega (arith, (source_rows bytes n p f).0)))
    (capacities_first caps)
    (source_first bytes)

pub source_exact : SourceExact
source_exact bytes = exact (source_first bytes)

pub structure_exact : StructureExact
structure_exact bytes = exact (structures_first bytes)

pub input_exact : InputExact
input_exact bytes caps = exact (input_first bytes caps)
