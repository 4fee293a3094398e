-- The refusals of checks 11 to 17 are exact: each test is its condition, and the checks stand in the table's order. The trace of
-- check 16 is that of specification 3.3 because 14 and 15 have passed.
use Prim.Native.Nat.{ℕ, ◌%◌, ◌<◌, ◌≤◌}
use native.Mathlib.Omega.{arith}
use mathlib.Core.Path.{◌≡◌, sym, ◌∙◌}
use mathlib.Core.Logic.{⊎_elim, ◌↔◌, ◌≢◌}
use mathlib.Core.Bool.{true}
use mathlib.Core.List.{List}
use lib.ListN.{length, get_or-replicate}
use Rattle.facts.specs.Answers.{Checked, Passed, Refused as Failed}
use Rattle.facts.specs.Checks.{outcome}
use Rattle.facts.specs.Sums.{any}
use Rattle.facts.specs.Refusals.{row_of, Fails, ◌or◌, Each, First}
use Rattle.facts.proofs.Sums.{any_some}
use Rattle.facts.proofs.Reflect.{reflect, holds, iff_trans, iff_some, less, most, same, unlike, either_is, both_is}
use Rattle.facts.proofs.Refusals.{InRow, UpTo, Within, After, rows_before, one_row, within_one, within_or, within_before, first_check, first_then, first_after, first_scan, scan_rows, exact}
use Rattle.netlist.specs.declared.Capacities.{Capacities}
use Rattle.netlist.specs.declared.Record.{Record}
use Rattle.netlist.specs.Kinds.{width, slots, unused, top_level, mapped_limit, output, buffer, arity}
use Rattle.netlist.specs.Records.{Netlist, netlist, record_count, blank, slot, fanin, feeds}
use Rattle.netlist.specs.Capacities.{capacity_of}
use Rattle.netlist.specs.Counts.{buffer_count}
use Rattle.netlist.proofs.Refusals.{input_first, input_rows}
use Rattle.verifier.specs.Checks.{Buffers, Refused}
use Rattle.verifier.specs.PrivateWalking.{PlacesPassed}
use Rattle.verifier.specs.Trace.{driver}
use Rattle.verifier.specs.Checks.{bad_length, bad_empty, changed, foreign, bad_name, not_one_lower, strays, place_checks, trace_check, feed_check, legal_checks, mapped_checks, verify_checks}
use Rattle.verifier.specs.Refusals.{BadLength, Changed, Foreign, BadNames, Unbalanced, Strays, KeepFails, SlotsFail, PlaceFails, TraceFails, FeedFails, LegalFails, MappedFails, VerifyFails, RefusedExactly}
use Rattle.verifier.proofs.Trace.{driver_traces, traces_driver}
use Rattle.verifier.proofs.Checks.{placed}

length_is : (records : ℕ) (bytes : List ℕ) → (bad_length records bytes ≡ true) ↔ BadLength records bytes
length_is records bytes =
    either_is (unlike (length bytes % width) 0) (either_is (less (record_count bytes) records) (less mapped_limit (record_count bytes)))

-- a slot that a kind does not use differs
empty_is :
    (kind : ℕ) (a r : Record) →
    (any (bad_empty kind a r) slots ≡ true) ↔ ((j : ℕ) × (j < slots) × ((arity kind ≤ j) × (slot r j ≢ slot a j)))
empty_is kind a r = simp holds (λ x. x, λ x. x)

changed_is : (n : Netlist) (k : ℕ) (r : Record) → (changed n k r ≡ true) ↔ Changed n k r
changed_is n k r =
    let a = n.at k in
    both_is (less k n.size)
    (either_is (unlike r.kind a.kind)
    (either_is (unlike r.inversion a.inversion)
    (either_is (unlike r.level a.level) (empty_is a.kind a r))))

foreign_is : (n : Netlist) (k : ℕ) (r : Record) → (foreign n k r ≡ true) ↔ Foreign n k r
foreign_is n k r =
    both_is (most n.size k)
    (either_is (unlike r.kind buffer)
    (either_is (unlike r.inversion 0)
    (either_is (less top_level r.level) (iff_trans (empty_is buffer blank r) unused_slots))))
  where
    unused_slots :
        ((j : ℕ) × (j < slots) × ((arity buffer ≤ j) × (slot r j ≢ slot blank j)))
        ↔ ((j : ℕ) × (j < slots) × ((arity buffer ≤ j) × (slot r j ≢ unused)))
    unused_slots = (
      λ x. (x.0, x.1, (x.2.0, λ e. x.2.1 (e ∙ sym (get_or-replicate slots x.0 unused unused x.1)))),
      λ x. (x.0, x.1, (x.2.0, λ e. x.2.1 (e ∙ get_or-replicate slots x.0 unused unused x.1))),
    )

names_are : (m : Netlist) (r : Record) → (any (bad_name m r) (arity r.kind) ≡ true) ↔ BadNames m r
names_are m r =
    iff_trans (any_some (bad_name m r) (arity r.kind))
    (iff_some (arity r.kind) _ _ (λ j. either_is (most m.size (slot r j)) (same (m.at (slot r j)).kind output)))

levels_are : (m : Netlist) (r : Record) → (any (not_one_lower m r) (arity r.kind) ≡ true) ↔ Unbalanced m r
levels_are m r = simp holds (λ x. x, λ x. x)

strays_are :
    (n m : Netlist) (k : ℕ) → n.size ≤ m.size → PlacesPassed n m → k < n.size →
    (any (strays m (n.at k) (m.at k)) (arity (n.at k).kind) ≡ true) ↔ Strays n m k
strays_are n m k whole p l = iff_trans (any_some (strays m (n.at k) (m.at k)) (arity (n.at k).kind)) (
  λ x. (x.0, x.1, (driver m (fanin m k x.0), driver_traces m p.named p.balanced (fanin m k x.0) (at x.0 x.1), (unlike (driver m (fanin m k x.0)) (fanin n k x.0)).0 x.2)),
  λ x. (x.0, x.1, (unlike (driver m (fanin m k x.0)) (fanin n k x.0)).1 (λ e. x.2.2 (sym (traces_driver m p.named p.balanced x.2.0 (fanin m k x.0) (at x.0 x.1) x.2.1) ∙ e))),
)
  where
    at : (j : ℕ) → j < arity (n.at k).kind → fanin m k j < m.size
    at j u = p.named k j (omega arith) (rw (p.kinds k l) u)

-- 12 to 15 stand at one place of one row
keep_within : (n m : Netlist) (k : ℕ) → Within (row_of 15) k 12 13 (KeepFails n m k)
keep_within n m k = within_or (row_of 15) k 12 12 13 13 (within_one 12 k _) (within_one 13 k _) (omega arith) (omega arith) (omega arith)

slots_within : (m : Netlist) (k : ℕ) → Within (row_of 15) k 14 15 (SlotsFail m k)
slots_within m k = within_or (row_of 15) k 14 14 15 15 (within_one 14 k _) (within_one 15 k _) (omega arith) (omega arith) (omega arith)

place_within : (n m : Netlist) (k : ℕ) → Within (row_of 15) k 12 15 (PlaceFails n m k)
place_within n m k = within_or (row_of 15) k 12 13 14 15 (keep_within n m k) (slots_within m k) (omega arith) (omega arith) (omega arith)

place_first : (n m : Netlist) (k : ℕ) → First (PlaceFails n m k) (place_checks n m k)
place_first n m k =
    first_then (within_before (row_of 15) k 12 13 14 15 (keep_within n m k) (slots_within m k) (omega arith))
    (first_then (within_before (row_of 15) k 12 12 13 13 (within_one 12 k _) (within_one 13 k _) (omega arith))
    (first_check 12 k (changed_is n k (m.at k)))
    (first_check 13 k (foreign_is n k (m.at k))))
    (first_then (within_before (row_of 15) k 14 14 15 15 (within_one 14 k _) (within_one 15 k _) (omega arith))
    (first_check 14 k (names_are m (m.at k)))
    (first_check 15 k (levels_are m (m.at k))))

module _ (n : Netlist) (caps : Capacities) (m : Netlist) where
  places_row : InRow (row_of 15) (Each m.size (PlaceFails n m))
  places_row = scan_rows (PlaceFails n m) (row_of 15) 12 15 m.size (place_within n m)

  traces_row : InRow (row_of 16) (Each n.size (TraceFails n m))
  traces_row = scan_rows (TraceFails n m) (row_of 16) 16 16 n.size (λ k. within_one 16 k _)

  feeds_row : InRow (row_of 17) (Each m.size (FeedFails caps m))
  feeds_row = scan_rows (FeedFails caps m) (row_of 17) 17 17 m.size (λ k. within_one 17 k _)

  later_rows : After (row_of 15) (Each n.size (TraceFails n m) or Each m.size (FeedFails caps m))
  later_rows a p = ⊎_elim (λ f. omega (arith, traces_row a p f)) (λ f. omega (arith, feeds_row a p f))

  legal_rows : After (row_of 11) (LegalFails n caps m)
  legal_rows a p = ⊎_elim (λ f. omega (arith, places_row a p f)) (λ f. omega (arith, later_rows a p f))

  legal_first : n.size ≤ m.size → First (LegalFails n caps m) (legal_checks n caps m)
  unfolding legal_checks
  legal_first whole =
      first_after (rows_before (row_of 15) (λ a p f. omega (arith, places_row a p f)) later_rows)
      (first_scan (place_checks n m) (PlaceFails n m) (row_of 15) 12 15 (place_within n m) m.size (λ k l. place_first n m k))
      (λ e.
      first_then (rows_before (row_of 16) (λ a p f. omega (arith, traces_row a p f)) (λ a p f. omega (arith, feeds_row a p f)))
      (first_scan (trace_check n m) (TraceFails n m) (row_of 16) 16 16 (λ k. within_one 16 k _) n.size
      (λ k l. first_check 16 k (strays_are n m k whole (placed n m whole e) l)))
      (first_scan (feed_check caps m) (FeedFails caps m) (row_of 17) 17 17 (λ k. within_one 17 k _) m.size
      (λ k l. first_check 17 k (less (capacity_of caps (m.at k).kind) (feeds m k)))))

module _ (n : Netlist) (caps : Capacities) (bytes : List ℕ) where
  length_row : InRow (row_of 11) (Fails 11 0 (BadLength n.size bytes))
  length_row = one_row 11 0 (BadLength n.size bytes)

  mapped_rows : After (row_of 7) (MappedFails n caps bytes)
  mapped_rows a p =
      ⊎_elim (λ f. omega (arith, length_row a p f)) (λ f. omega (arith, legal_rows n caps (netlist bytes) a p f))

  mapped_first : First (MappedFails n caps bytes) (mapped_checks n caps bytes)
  unfolding mapped_checks
  mapped_first =
      first_after (rows_before (row_of 11) (λ a p f. omega (arith, length_row a p f)) (legal_rows n caps (netlist bytes)))
      (first_check 11 0 (length_is n.size bytes))
      (λ e. legal_first n caps (netlist bytes) (let f = simp reflect at e in f.1.0))

pub verify_first : (source : List ℕ) (caps : Capacities) (mapped : List ℕ) → First (VerifyFails source caps mapped) (verify_checks source caps mapped)
unfolding verify_checks
verify_first source caps mapped =
    first_then (rows_before (row_of 7) (input_rows source caps) (mapped_rows (netlist source) caps mapped))
    (input_first source caps)
    (mapped_first (netlist source) caps mapped)

-- the conditions of 1, 26, 2 to 7 and 11 to 17 stand in the table's rows up to that of 17
pub verify_rows : (source : List ℕ) (caps : Capacities) (mapped : List ℕ) → UpTo (row_of 17) (VerifyFails source caps mapped)
verify_rows source caps mapped a p =
    let n = netlist source in
    let m = netlist mapped in
    ⊎_elim
    (λ f. omega (arith, input_rows source caps a p f))
    (⊎_elim
    (λ f. omega (arith, length_row n caps mapped a p f))
    (⊎_elim
    (λ f. omega (arith, places_row n caps m a p f))
    (⊎_elim (λ f. omega (arith, traces_row n caps m a p f)) (λ f. omega (arith, feeds_row n caps m a p f)))))

refused_checked : (a : Checked) (buffers number place : ℕ) → (outcome a (Buffers buffers) Refused ≡ Refused number place) ↔ (a ≡ Failed number place)
refused_checked Passed buffers number place = (λ e. cc, λ e. cc)
refused_checked (Failed n p) buffers number place = (λ e. cc, λ e. cc)

-- the verifier refuses exactly by the first of 1, 26, 2 to 7 and 11 to 17 whose condition holds
pub refused_exactly : RefusedExactly
refused_exactly source caps mapped number place =
    iff_trans (refused_checked (verify_checks source caps mapped) (buffer_count (netlist mapped)) number place)
    ((exact (verify_first source caps mapped)).refused number place)
