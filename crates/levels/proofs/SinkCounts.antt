-- Laws of the sinks counted slot by slot and record by record, while checks 4 to 6 pass.
use Prim.Native.Nat.{ℕ, ◌+◌, ◌^◌, ◌≤◌, ◌<◌}
use native.Mathlib.Decide.{dec_lt}
use native.Mathlib.Numerals.{add-one}
use native.Mathlib.Omega.{arith}
use mathlib.Core.Path.{◌≡◌, refl, sym, ap, subst, ◌∙◌}
use mathlib.Core.List.{List}
use lib.ListN.{length, get_or, set, length-set, get_or-eq_default}
use lib.Dec.{eqb}
use Rattle.facts.specs.Answers.{Checked, Passed, Refused}
use Rattle.facts.specs.Checks.{scan}
use Rattle.facts.specs.Sums.{bit, sum, count, count₂}
use Rattle.facts.proofs.Lists.{added_at}
use Rattle.facts.proofs.Loops.{Scanning, scan_start, scan_more, scan_stop, scan_end}
use Rattle.facts.proofs.Reflect.{then_go, then_stop}
use Rattle.facts.proofs.Refusals.{passed_refused}
use Rattle.facts.proofs.Sums.{count_suc, count_le, count_used, count₂_le}
use Rattle.netlist.specs.declared.Record.{Record}
use Rattle.netlist.specs.Kinds.{slots, source_limit, arity}
use Rattle.netlist.specs.Records.{netlist, record_count, record_at, slot, names}
use Rattle.netlist.specs.Checks.{size_checks, structure_of, structure_at, structure_checks}
use Rattle.netlist.proofs.Checks.{arity_slots, slots_good, fanin_inside}
use Rattle.netlist.proofs.Source.{size_passed}
use Rattle.levels.specs.PrivateSinks.{SlotsFit, SinksAdded, SinksSoFar, Counting, RecordCounted, Uncounted, RecordsCounted, Zeros, SourceCounted}

-- the first j slots are counted, of those that fit
module _ (r : Record) (used : ℕ) (before : List ℕ) where
  pub adding_start : SinksAdded r 0 before before
  unfolding count sum
  adding_start = record { long = refl; at = λ d. omega arith }

  module _ (j : ℕ) (sinks : List ℕ) (c : SinksAdded r j before sinks) (fit : SlotsFit r used before) (h : j < used)
      (x d : ℕ) (p : x ≡ slot r j) (q : d ≡ x) where
    sink_inside : d < length sinks
    sink_inside = omega (arith, fit.inside j h, c.long)

    pub sink_fits : get_or sinks d 0 + 1 < 65536
    sink_fits = omega (arith, c.at d, fit.room d, few)
      where
        few : count (λ i. eqb (slot r i) d) j < used
        few = omega (arith, count_le (λ i. eqb (slot r i) d) j)

    pub adding_more : SinksAdded r (j + 1) before (set sinks d (get_or sinks d 0 + 1))
    adding_more =
        record {
          long = length-set sinks d _ ∙ c.long;
          at = λ y.
              added_at sinks d y sink_inside
              ∙ omega (
                arith,
                c.at y,
                ap (count (λ i. eqb (slot r i) y)) (add-one j),
                count_suc (λ i. eqb (slot r i) y) j,
                ap (λ (z : ℕ). bit (eqb z y)) (q ∙ p),
              );
        }

-- record k, by the answer of its checks
module _ (source : List ℕ) (k : ℕ) (sinks : List ℕ) (c : Counting source k sinks) (r : Record) (e : r ≡ record_at source k) where
  answer_is : (a : Checked) → a ≡ structure_of (netlist source) k r → a ≡ structure_at (netlist source) k
  answer_is a g = g ∙ ap (structure_of (netlist source) k) e

  module _ (g : Passed ≡ structure_of (netlist source) k r) (used : ℕ) (f : used ≡ arity r.kind) where
    pub slots_fit : SlotsFit r used sinks
    slots_fit =
        record {
          inside = λ j h.
              omega (
                arith,
                fanin_inside (netlist source) k r j (slot r j) used refl f (record_count source) c.present h (slots_good (netlist source) k r Passed g refl),
                c.long,
              );
          room = λ d. elim (dec_lt d (length sinks)) [
            | yes l ↦ omega (arith, c.so_far.at d l, count₂_le (names (netlist source) d) slots k, arity_slots r.kind, f, c.present, c.few)
            | no h ↦ omega (arith, get_or-eq_default sinks 0 {n = d} (omega arith), arity_slots r.kind, f)
          ];
        }

    pub record_counted : (after : List ℕ) → SinksAdded r used sinks after → RecordCounted source k Passed sinks after
    unfolding count₂ sum
    record_counted after s =
        record {
          answer = answer_is Passed g;
          long = s.long;
          counted = λ _. record { at = λ d l. omega (arith, s.at d, c.so_far.at d (omega (arith, s.long)), here d) };
        }
      where
        here : (d : ℕ) → count (names (netlist source) d k) slots ≡ count (λ i. eqb (slot r i) d) used
        here d =
            rw (f, e) (count_used (λ i. eqb (slot (record_at source k) i) d) (arity (record_at source k).kind) slots (arity_slots (record_at source k).kind))

  pub record_refused : (number place : ℕ) → Refused number place ≡ structure_of (netlist source) k r → RecordCounted source k (Refused number place) sinks sinks
  record_refused number place p =
      record { answer = answer_is (Refused number place) p; long = refl; counted = λ h. absurd (passed_refused number place (sym h)) }

-- the records below k are checked and counted
pub record CountedBelow (source : List ℕ) (n k : ℕ) (before sinks : List ℕ) : Type 0 where
  pub all : n ≡ record_count source
  pub few : record_count source ≤ source_limit
  pub room : record_count source < length before
  pub long : length sinks ≡ length before
  pub so_far : SinksSoFar (netlist source) k sinks
  pub rest : Scanning (structure_at (netlist source)) n k

module _ (source : List ℕ) (n : ℕ) (before : List ℕ) where
  pub counted_start : Uncounted source n before → CountedBelow source n 0 before before
  unfolding count₂ sum
  counted_start u =
      record {
        all = u.all;
        few = u.few;
        room = u.long;
        long = refl;
        so_far = record { at = λ d l. u.zeros d };
        rest = scan_start (structure_at (netlist source)) n;
      }

  module _ (k : ℕ) (sinks : List ℕ) (c : CountedBelow source n k before sinks) where
    pub counted_same : length sinks ≡ length before
    counted_same = c.long

    pub counted_next : k < n → Counting source k sinks
    counted_next h =
        record { present = omega (arith, c.all); few = c.few; long = omega (arith, c.room, c.long); so_far = c.so_far }

    module _ (h : k < n) (after : List ℕ) where
      pub counted_more : RecordCounted source k Passed sinks after → CountedBelow source n (k + 1) before after
      counted_more d =
          record {
            all = c.all;
            few = c.few;
            room = c.room;
            long = d.long ∙ c.long;
            so_far = rw (add-one k) (d.counted refl);
            rest = scan_more (structure_at (netlist source)) n k c.rest h d.answer;
          }

      module _ (number place : ℕ) (d : RecordCounted source k (Refused number place) sinks after) where
        pub counted_longer : length after ≡ length before
        counted_longer = d.long ∙ c.long

        pub counted_stop : RecordsCounted source (Refused number place) before after
        counted_stop =
            record {
              answer =
                  scan_stop (structure_at (netlist source)) n k number place c.rest h d.answer
                  ∙ ap (scan (structure_at (netlist source)) 0) c.all;
              long = counted_longer;
              counted = λ q. absurd (passed_refused number place (sym q));
            }

    pub counted_end : n ≤ k → RecordsCounted source Passed before sinks
    counted_end h =
        let e : k ≡ record_count source = omega (arith, c.all, c.rest.within) in
        record {
          answer = scan_end (structure_at (netlist source)) n k c.rest h ∙ ap (scan (structure_at (netlist source)) 0) c.all;
          long = c.long;
          counted = λ q. subst (λ (i : ℕ). SinksSoFar (netlist source) i sinks) e c.so_far;
        }

-- 2 and 3, then the records
module _ (source sinks : List ℕ) (z : Zeros sinks) where
  module _ (p : Passed ≡ size_checks source) (n : ℕ) (f : n ≡ record_count source) where
    few : record_count source ≤ source_limit
    few = ((size_passed source).0 (sym p)).1

    pub count_fits : n < 2 ^ 32
    count_fits = omega (arith, few)

    pub uncounted : Uncounted source n sinks
    uncounted = record { all = f; few = few; long = omega (arith, few, z.long); zeros = z.zeros }

  pub structure_passed : (b : Checked) (after : List ℕ) → Passed ≡ size_checks source → RecordsCounted source b sinks after → SourceCounted source b sinks after
  unfolding structure_checks
  structure_passed b after p c =
      record { answer = then_go (size_checks source) _ b p c.answer; long = c.long; counted = c.counted }

  pub structure_refused : (number place : ℕ) → Refused number place ≡ size_checks source → SourceCounted source (Refused number place) sinks sinks
  unfolding structure_checks
  structure_refused number place p =
      record { answer = then_stop (size_checks source) _ number place p; long = refl; counted = λ h. absurd (passed_refused number place (sym h)) }
