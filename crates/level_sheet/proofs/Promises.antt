-- What a sheet says: its lines end at the highest level, its columns add up to the totals, no record is left out, and no line is empty.
use Prim.Native.Nat.{ℕ, zero, suc, ◌+◌, ◌-◌, ◌%◌, ◌≤◌, ◌<◌}
use native.Mathlib.Decide.{dec_lt}
use native.Mathlib.Omega.{arith}
use mathlib.Core.Path.{◌≡◌, refl, sym, ap}
use mathlib.Core.Bool.{Bool, true, not, ◌&&◌}
use mathlib.Core.Logic.{◌≢◌}
use mathlib.Core.List.{List}
use lib.Dec.{eqb}
use lib.ListN.{length}
use lib.Seq.{take_all, length-take-le}
use borrow.Author.Tests.{eq-eqb, eqb-true}
use Rattle.facts.specs.Answers.{Refused}
use Rattle.facts.specs.Checks.{◌and_then◌}
use Rattle.facts.specs.Sums.{bit, sum, count, any}
use Rattle.facts.proofs.Bools.{and_r, and_true}
use Rattle.facts.proofs.Reflect.{unlike_none}
use Rattle.facts.proofs.Sums.{fibres₁, le_largest, largest_some, sum_zero, sum_add, sum_const, sum_cong, term_le, count_none, any_none}
use Rattle.netlist.specs.declared.Capacities.{Capacities}
use Rattle.netlist.specs.Kinds.{width, input, output, buffer, arity, is_gate}
use Rattle.netlist.specs.Records.{Netlist, netlist, record_at, fanin}
use Rattle.netlist.specs.Balance.{Named, PathBalanced}
use Rattle.netlist.specs.Counts.{count_kind, gates, buffer_count}
use Rattle.netlist.specs.Checks.{ragged, input_checks}
use Rattle.netlist.proofs.Checks.{fanin_arity}
use Rattle.verifier.specs.Accepted.{Accepted}
use Rattle.verifier.specs.Checks.{mapped_checks, verify_checks}
use Rattle.verifier.proofs.Accepted.{accepted_exactly}
use Rattle.verifier.proofs.Balance.{accepted_balanced_lem}
use Rattle.level_sheet.specs.Counts.{count_at, line_count}
use Rattle.level_sheet.specs.Text.{refusal_line, sheet_text}
use Rattle.level_sheet.specs.Promises.{LinesExactly, ColumnsAdd, EmptyLevel, AllCounted, NoEmptyLine, FileJudged, file_limit, part_read}
use Rattle.level_sheet.specs.PrivateTable.{Countable}

pub lines_exactly : LinesExactly
unfolding line_count
lines_exactly mapped level = (
  λ l. let s = largest_some (λ k. suc ((netlist mapped).at k).level) (netlist mapped).size level l in (s.0, s.1, omega (arith, s.2)),
  λ s. omega (arith, s.2, le_largest (λ k. suc ((netlist mapped).at k).level) s.0 (netlist mapped).size s.1),
)

-- one column adds up: every record stands at a level that has a line
column_adds : (m : Netlist) (test : ℕ → Bool) → sum (count_at m test) (line_count m) ≡ count_kind m test
unfolding count_at line_count
column_adds m test =
    sym (fibres₁ (λ k. test (m.at k).kind) (λ k. (m.at k).level) m.size (line_count m) (λ k l e. le_largest (λ i. suc (m.at i).level) k m.size l))

pub columns_add : ColumnsAdd
unfolding gates buffer_count
columns_add mapped zero = column_adds (netlist mapped) _
columns_add mapped (suc zero) = column_adds (netlist mapped) _
columns_add mapped (suc (suc zero)) = column_adds (netlist mapped) _
columns_add mapped (suc (suc (suc zero))) = column_adds (netlist mapped) _
columns_add mapped (suc (suc (suc (suc column)))) = sum_zero (line_count (netlist mapped))

-- what the verifier accepts has inputs, gates, outputs and buffers alone, at levels up to 4,095
pub countable : (source : List ℕ) (caps : Capacities) (mapped : List ℕ) → Accepted source caps mapped → Countable (netlist mapped)
countable source caps mapped a =
    let n = netlist source in
    record {
      few = a.fits;
      kinds = λ k l. elim (dec_lt k n.size) [
        | yes b ↦ omega (arith, (a.legal.kept k b).kind, a.is_source.is_source.kinds k b)
        | no g ↦ omega (arith, (a.legal.buffers k (omega arith) l).kind)
      ];
      low = λ k l. elim (dec_lt k n.size) [
        | yes b ↦ omega (arith, (a.legal.kept k b).level, a.is_source.is_source.levels k b)
        | no g ↦ (a.legal.buffers k (omega arith) l).level
      ];
    }

-- of how many of the four sorts a kind is
abbrev sorts_of : ℕ → ℕ
sorts_of kind = bit (eqb kind input) + bit (is_gate kind) + bit (eqb kind buffer) + bit (eqb kind output)

-- every kind is of one sort
one_sort : (kind : ℕ) → kind ≤ buffer → sorts_of kind ≡ 1
unfolding any
one_sort kind l = (unlike_none _ _).0 ((any_none (λ k. not (eqb (sorts_of k) 1)) (suc buffer)).0 refl kind (omega arith))

pub all_counted : AllCounted
unfolding count sum gates buffer_count
all_counted source caps mapped buffers e =
    let m = netlist mapped in
    let c = countable source caps mapped ((accepted_exactly source caps mapped buffers).0 e).0 in
    omega (
      arith,
      sum_add (λ k. bit (eqb (m.at k).kind input) + bit (is_gate (m.at k).kind) + bit (eqb (m.at k).kind buffer)) (λ k. bit (eqb (m.at k).kind output)) m.size,
      sum_add (λ k. bit (eqb (m.at k).kind input) + bit (is_gate (m.at k).kind)) (λ k. bit (eqb (m.at k).kind buffer)) m.size,
      sum_add (λ k. bit (eqb (m.at k).kind input)) (λ k. bit (is_gate (m.at k).kind)) m.size,
      sum_cong (λ k. sorts_of (m.at k).kind) (λ k. 1) m.size (λ k l. one_sort (m.at k).kind (c.kinds k l)),
      sum_const 1 m.size,
    )

-- where a record stands at a level or above it, one stands at that level: the record, its fanin, its fanin's fanin, and so on
reached : (m : Netlist) → Countable m → Named m → PathBalanced m → (level gap k : ℕ) → k < m.size → (m.at k).level ≡ level + gap →
    (i : ℕ) × (i < m.size) × ((m.at i).level ≡ level)
reached m c named p level zero k l e = (k, l, omega arith)
reached m c named p level (suc gap) k l e =
    let used : 0 < arity (m.at k).kind = fanin_arity (m.at k).kind (λ i. omega (arith, p.inputs k l i)) (c.kinds k l) in
    reached m c named p level gap (fanin m k 0) (named k 0 l used) (omega (arith, p.fanins k 0 l used))

-- a record is counted at its level
at_least : (m : Netlist) (test : ℕ → Bool) (level k : ℕ) → k < m.size → (m.at k).level ≡ level → bit (test (m.at k).kind) ≤ count_at m test level
unfolding count_at count
at_least m test level k l e =
    omega (
      arith,
      term_le (λ i. bit (test (m.at i).kind && eqb (m.at i).level level)) k m.size l,
      ap bit (and_true (test (m.at k).kind) (eqb (m.at k).level level) (eq-eqb (m.at k).level level e)),
    )

pub no_empty_line : NoEmptyLine
unfolding sum
no_empty_line source caps mapped buffers level e l =
    let m = netlist mapped in
    let a = ((accepted_exactly source caps mapped buffers).0 e).0 in
    let c = countable source caps mapped a in
    let top = (lines_exactly mapped level).0 l in
    let here =
    reached m c a.legal.named (accepted_balanced_lem source caps mapped buffers e).0 level ((record_at mapped top.0).level - level) top.0 top.1
    (omega (arith, top.2)) in
    omega (
      arith,
      at_least m (λ k. eqb k input) level here.0 here.1 here.2,
      at_least m is_gate level here.0 here.1 here.2,
      at_least m (λ k. eqb k buffer) level here.0 here.1 here.2,
      at_least m (λ k. eqb k output) level here.0 here.1 here.2,
      one_sort (m.at here.0).kind (c.kinds here.0 here.1),
    )

-- nothing is counted where no record stands
none_at : (m : Netlist) (test : ℕ → Bool) (level : ℕ) → ((k : ℕ) → k < m.size → (m.at k).level ≢ level) → count_at m test level ≡ 0
unfolding count_at
none_at m test level h =
    count_none _ m.size (λ k l e. h k l (eqb-true (m.at k).level level (and_r (test (m.at k).kind) (eqb (m.at k).level level) e)))

pub empty_level : EmptyLevel
empty_level mapped level zero h = none_at (netlist mapped) _ level h
empty_level mapped level (suc zero) h = none_at (netlist mapped) _ level h
empty_level mapped level (suc (suc zero)) h = none_at (netlist mapped) _ level h
empty_level mapped level (suc (suc (suc zero))) h = none_at (netlist mapped) _ level h
empty_level mapped level (suc (suc (suc (suc column)))) h = refl

-- a part of 60,001 bytes is no whole number of records
module _ (source : List ℕ) (caps : Capacities) (file : List ℕ) (l : file_limit < length file) where
  part_ragged : ragged (part_read file) ≡ true
  part_ragged = ap (λ (k : ℕ). not (eqb (k % width) 0)) (let e : length (part_read file) ≡ suc file_limit = length-take-le (suc file_limit) file l in e)

  part_refused : verify_checks source caps (part_read file) ≡ (input_checks source caps and_then Refused 11 0)
  unfolding verify_checks mapped_checks
  part_refused = rw part_ragged

  part_text : (number place : ℕ) → (input_checks source caps and_then Refused 11 0) ≡ Refused number place → sheet_text source caps (part_read file) ≡ refusal_line number place
  part_text number place e = rw (part_refused, e)

pub file_judged : FileJudged
file_judged =
    record {
      long = λ source caps file l e. part_text source caps file l 11 0 (rw e);
      first = λ source caps file number place l e. part_text source caps file l number place (rw e);
      whole = λ file l. take_all (suc file_limit) file (omega arith);
    }
