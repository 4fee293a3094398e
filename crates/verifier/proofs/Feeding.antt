-- The counts of check 17: a count is the number of slots that a record feeds, cut off at the stop.
use Prim.Native.Nat.{ℕ, zero, suc, ◌+◌, ◌<◌, ◌≤◌, min}
use native.Mathlib.Omega.{arith}
use native.Mathlib.Decide.{dec_lt}
use native.Mathlib.Numerals.{add-one}
use mathlib.Core.Path.{◌≡◌, refl, sym, ap, ◌∙◌}
use mathlib.Core.Bool.{Bool, true, false, cond, not}
use mathlib.Core.List.{List}
use mathlib.Core.Logic.{◌≢◌}
use lib.ListN.{length, get_or, replicate, length-set, length-replicate, get_or-replicate}
use lib.Seq.{get_or-set_same, get_or-set_other}
use lib.Dec.{ltb, leb, eqb}
use borrow.Author.Tests.{lt-ltb, le-ltb, ltb-true, ltb-false, leb-true, leb-false, eqb-true, eqb-false, not-true, not-false}
use Rattle.facts.specs.Sums.{bit, sum, count, count₂, any}
use Rattle.facts.specs.Answers.{Checked, Passed, Refused}
use Rattle.facts.specs.Checks.{scan}
use Rattle.facts.proofs.Bools.{true_false}
use Rattle.facts.proofs.Loops.{NoneYet, any_start, any_more, any_found, any_end, Scanning, scan_start, scan_more, scan_stop, scan_end, scan_cong, scan_onward, scan_early}
use Rattle.facts.proofs.Reflect.{reflect, scan_passed}
use Rattle.facts.proofs.Sums.{count_used}
use Rattle.netlist.specs.declared.Capacities.{Capacities}
use Rattle.netlist.specs.declared.Record.{Record}
use Rattle.netlist.specs.Kinds.{slots, buffer, arity}
use Rattle.netlist.specs.Records.{Netlist, netlist, record_at, record_count, names, feeds, slot}
use Rattle.netlist.specs.Capacities.{gate_capacity, capacity_of, Allowed}
use Rattle.netlist.proofs.Balance.{capacity_least, capacity_most}
use Rattle.netlist.proofs.Checks.{arity_slots}
use Rattle.verifier.specs.Checks.{differs, no_buffer, slot_checks, place_checks, trace_check, feed_check, legal_checks}
use Rattle.verifier.specs.PrivateWalking.{Sized, PlacesPassed, Walkable}
use Rattle.verifier.specs.PrivateFeeding.{stop, more, fed_once, fed_by, tally, bad_fanin, buffer_checks, Fed, FedAtMost, Tallied, TalliedIfPassed, TalliedIf, count_check}
use Rattle.verifier.proofs.Checks.{slots_good, slots_passed, kept_bad, kept_slots, placed, legal_places, legal_traces, legal_feeds}

-- feeding keeps the number of counts
once_length : (counts : List ℕ) (x : ℕ) → length (fed_once counts x) ≡ length counts
once_length counts x = length-set counts x (more (get_or counts x 0))

by_length : (counts : List ℕ) (r : Record) (n : ℕ) → length (fed_by counts r n) ≡ length counts
unfolding fed_by
by_length counts r zero = refl
by_length counts r (suc n) = once_length (fed_by counts r n) (slot r n) ∙ by_length counts r n

tally_length : (entries : ℕ) (m : Netlist) (n : ℕ) → length (tally entries m n) ≡ entries
unfolding tally
tally_length entries m zero = length-replicate {A = ℕ} entries 0
tally_length entries m (suc n) = by_length (tally entries m n) (m.at n) (arity (m.at n).kind) ∙ tally_length entries m n

-- a count goes up by one where its record is named, and stops
more_cut : (c : ℕ) → c ≤ stop → more c ≡ min stop (c + 1)
more_cut c h = go (ltb c stop) refl
  where
    go : (b : Bool) → ltb c stop ≡ b → cond b (c + 1) c ≡ min stop (c + 1)
    go true e = omega (arith, ltb-true c stop e)
    go false e = omega (arith, ltb-false c stop e)

once_count :
    (counts : List ℕ) (y x : ℕ) →
    x < length counts →
    get_or counts x 0 ≤ stop →
    get_or (fed_once counts y) x 0 ≡ min stop (get_or counts x 0 + bit (eqb y x))
once_count counts y x l h = go (eqb y x) refl
  where
    go : (b : Bool) → eqb y x ≡ b → get_or (fed_once counts y) x 0 ≡ min stop (get_or counts x 0 + bit b)
    go true e = rw (eqb-true y x e) (get_or-set_same counts x (more (get_or counts x 0)) 0 l ∙ more_cut (get_or counts x 0) h)
    go false e = get_or-set_other counts y x (more (get_or counts y 0)) 0 (λ q. eqb-false y x e (sym q)) ∙ omega arith

by_count :
    (counts : List ℕ) (r : Record) (n x : ℕ) →
    x < length counts →
    get_or counts x 0 ≤ stop →
    get_or (fed_by counts r n) x 0 ≡ min stop (get_or counts x 0 + count (λ j. eqb (slot r j) x) n)
unfolding fed_by count sum
by_count counts r zero x l h = omega arith
by_count counts r (suc n) x l h =
    let ih = by_count counts r n x l h in
    once_count (fed_by counts r n) (slot r n) x (rw (by_length counts r n) l) (omega arith) ∙ omega arith

-- a count is the number of slots that name its record, cut off at the stop
tally_count :
    (entries : ℕ) (m : Netlist) (n x : ℕ) → x < entries → get_or (tally entries m n) x 0 ≡ min stop (count₂ (names m x) slots n)
unfolding tally count₂ sum
tally_count entries m zero x l = get_or-replicate entries x 0 0 l
tally_count entries m (suc n) x l =
    let ih = tally_count entries m n x l in
    by_count (tally entries m n) (m.at n) (arity (m.at n).kind) x (rw (tally_length entries m n) l) (omega arith)
    ∙ omega (arith, count_used (λ j. eqb (slot (m.at n) j) x) (arity (m.at n).kind) slots (arity_slots (m.at n).kind))

-- the first j slots of a record are good, and counted
pub record FedSlots (m : Netlist) (r : Record) (n : ℕ) (before counts : List ℕ) (j : ℕ) : Type 0 where
  pub none : NoneYet (bad_fanin m r) n j
  pub done : counts ≡ fed_by before r j

module _ (m : Netlist) (r : Record) (n : ℕ) (before : List ℕ) where
  pub slots_start : FedSlots m r n before before 0
  unfolding fed_by
  slots_start = record { none = any_start (bad_fanin m r) n; done = refl }

  module _ (counts : List ℕ) (j : ℕ) (i : FedSlots m r n before counts j) where
    pub slots_length : length counts ≡ length before
    slots_length = ap length i.done ∙ by_length before r j

    pub slots_end : n ≤ j → Fed m r n true before counts
    slots_end l =
        let w : j ≡ n = omega (arith, i.none.within) in
        record {
          good = rw (← any_end (bad_fanin m r) n j i.none l);
          counted = λ t. i.done ∙ ap (fed_by before r) w;
        }

    module _ (l : j < n) (b : Bool) (e : b ≡ bad_fanin m r j) where
      pub slots_bad : b ≡ true → Fed m r n false before counts
      slots_bad t =
          record {
            good = rw (← any_found (bad_fanin m r) n j b l e t);
            counted = λ t. absurd (true_false false t refl);
          }

      pub slots_room : (x : ℕ) → x ≡ slot r j → b ≡ false → m.size ≤ length before → x < length counts
      slots_room x p t h =
          let g : bad_fanin m r j ≡ false = sym e ∙ t in
          let f = simp reflect at g in
          rw (i.done, by_length before r j) (omega (arith, f.0.0))

    pub slots_more :
        (after : List ℕ) (x : ℕ) (b : Bool) → j < n → x ≡ slot r j → after ≡ fed_once counts x → b ≡ bad_fanin m r j → b ≡ false →
        FedSlots m r n before after (j + 1)
    unfolding fed_by
    slots_more after x b l p f e t =
        record {
          none = any_more (bad_fanin m r) n j b i.none l e t;
          done = f ∙ rw (add-one j, p, i.done);
        }

module _ (m : Netlist) where
  pub tallied_start : (entries : ℕ) → m.size ≤ entries → Tallied m 0 (replicate entries 0)
  unfolding tally
  tallied_start entries l =
      let e = length-replicate {A = ℕ} entries 0 in
      record { room = rw e l; counted = rw e }

  tallied_more : (k : ℕ) (before after : List ℕ) → Tallied m k before → after ≡ fed_by before (m.at k) (arity (m.at k).kind) → Tallied m (k + 1) after
  unfolding tally
  tallied_more k before after t f =
      let e : length after ≡ length before = ap length f ∙ by_length before (m.at k) (arity (m.at k).kind) in
      record {
        room = rw e t.room;
        counted = f ∙ rw (e, add-one k) (ap (λ (l : List ℕ). fed_by l (m.at k) (arity (m.at k).kind)) t.counted);
      }

  passed_apart : (number place : ℕ) → Refused number place ≢ Passed
  passed_apart number place p = let z : ◌≡◌ {A = ℕ} 0 1 = cc in omega arith

  tallied_refused : (right : Checked) (number place k : ℕ) (counts : List ℕ) → right ≡ Refused number place → TalliedIfPassed (Refused number place) right m k counts
  tallied_refused right number place k counts e = record { answer = sym e; tallied = λ p. absurd (passed_apart number place p) }

  pub tallied_none : (right : Checked) (number place k : ℕ) (counts : List ℕ) → Refused number place ≡ right → TalliedIf false right m k counts
  tallied_none right number place k counts e =
      record { passed = λ t. absurd (true_false false t refl); failed = λ q p. passed_apart number place (e ∙ p) }

  -- a record whose slots decide
  module _ (right : Checked) (k : ℕ) (r : Record) (here : r ≡ m.at k) (decides : right ≡ slot_checks m k (m.at k))
      (b : Bool) (before after : List ℕ) (f : Fed m r (arity r.kind) b before after) where
    pub slots_counted : Tallied m k before → b ≡ true → TalliedIfPassed Passed right m (k + 1) after
    slots_counted t e =
        record {
          answer = sym (decides ∙ rw (← here) (slots_good m k r b f.good e));
          tallied = λ p. tallied_more k before after t (f.counted e ∙ rw here);
        }

    slots_refused : b ≡ false → right ≢ Passed
    slots_refused e p = true_false b (f.good ∙ rw (slots_passed m k r (rw here (sym decides ∙ p)))) e

    pub slots_tallied : (d : Bool) → b ≡ d → Tallied m k before → TalliedIf d right m (k + 1) after
    slots_tallied d e t = rw (← e) (record { passed = slots_counted t; failed = slots_refused })

  module _ (right : Checked) (k : ℕ) (r : Record) (here : r ≡ m.at k) (decides : right ≡ slot_checks m k (m.at k)) where
    pub slots_decide : (a : Checked) → a ≡ slot_checks m k r → a ≡ right
    slots_decide a g = g ∙ rw here (sym decides)

    pub slots_unfit : right ≢ Passed → any (bad_fanin m r) (arity r.kind) ≡ true
    slots_unfit fails = go (any (bad_fanin m r) (arity r.kind)) refl
      where
        go : (c : Bool) → any (bad_fanin m r) (arity r.kind) ≡ c → c ≡ true
        go true e = refl
        go false e = absurd (fails (decides ∙ rw (← here) (slots_good m k r true (rw e) refl)))

-- what the code has of record k: below the source's size
module _ (source mapped : List ℕ) (k : ℕ) (a r : Record) (p : a ≡ record_at source k) (q : r ≡ record_at mapped k) (b : Bool) (e : b ≡ differs a r)
    (l : k < record_count source) where
  pub record_differs : b ≡ true → Refused 12 k ≡ place_checks (netlist source) (netlist mapped) k
  record_differs t = sym (kept_bad (netlist source) (netlist mapped) k l (rw (← p, ← q, ← e) t))

  pub record_decides : b ≡ false → place_checks (netlist source) (netlist mapped) k ≡ slot_checks (netlist mapped) k (record_at mapped k)
  record_decides same = kept_slots (netlist source) (netlist mapped) k l (rw (← p, ← q, ← e) same)

-- and from there on
pub buffer_kind : (r : Record) (b : Bool) → b ≡ no_buffer r → b ≡ false → r.kind ≡ buffer
buffer_kind r b e t = let h : no_buffer r ≡ false = sym e ∙ t in (simp reflect at h).0

pub buffer_uses : (r : Record) (b : Bool) (used : ℕ) → b ≡ no_buffer r → b ≡ false → used ≡ arity buffer → used ≡ arity r.kind
buffer_uses r b used e t u = rw (buffer_kind r b e t) u

module _ (mapped : List ℕ) (k : ℕ) (r : Record) (q : r ≡ record_at mapped k) (b : Bool) (e : b ≡ no_buffer r) where
  foreign : no_buffer (record_at mapped k) ≡ b
  foreign = rw (← q, e)

  pub buffer_differs : b ≡ true → Refused 13 k ≡ buffer_checks (netlist mapped) k
  buffer_differs t = rw (foreign, t)

  pub buffer_decides : b ≡ false → buffer_checks (netlist mapped) k ≡ slot_checks (netlist mapped) k (record_at mapped k)
  buffer_decides same = rw (foreign, same)

  pub buffer_tallied :
      (used : ℕ) (c d : Bool) (before after : List ℕ) → b ≡ false → used ≡ arity buffer → Fed (netlist mapped) r used c before after →
      c ≡ d → Tallied (netlist mapped) k before → TalliedIf d (buffer_checks (netlist mapped) k) (netlist mapped) (k + 1) after
  buffer_tallied used c d before after same u f =
      slots_tallied (netlist mapped) _ k r q (buffer_decides same) c before after (rw (← buffer_uses r b used e same u) f) d

-- the answer from k on is the answer, and the first k records are counted
pub record Tallying (n m : Netlist) (records : ℕ) (counts : List ℕ) (k : ℕ) : Type 0 where
  pub scanning : Scanning (place_checks n m) records k
  pub tallied : Tallied m k counts

module _ (n m : Netlist) (records : ℕ) (counts : List ℕ) where
  pub tallying_start : Tallied m 0 counts → Tallying n m records counts 0
  tallying_start t = record { scanning = scan_start (place_checks n m) records; tallied = t }

  pub tallying_onward : (k : ℕ) → k ≤ records → scan (place_checks n m) 0 k ≡ Passed → Tallied m k counts → Tallying n m records counts k
  tallying_onward k l h t = record { scanning = scan_onward (place_checks n m) k records l h; tallied = t }

  module _ (k : ℕ) (i : Tallying n m records counts k) (size : ℕ) (e : size ≡ records) where
    pub tallying_end : size ≤ k → TalliedIfPassed Passed (scan (place_checks n m) 0 records) m records counts
    tallying_end l =
        let w : k ≡ records = omega (arith, i.scanning.within) in
        record { answer = scan_end (place_checks n m) records k i.scanning (rw e at l); tallied = λ p. rw (← w) i.tallied }

    module _ (l : k < size) (after : List ℕ) where
      pub tallying_stop :
          (a : Checked) → a ≡ place_checks n m k → place_checks n m k ≢ Passed → TalliedIfPassed a (scan (place_checks n m) 0 records) m records after
      tallying_stop Passed c fails = absurd (fails (sym c))
      tallying_stop (Refused number place) c fails =
          tallied_refused m _ number place records after (sym (scan_stop (place_checks n m) records k number place i.scanning (rw e at l) c))

      pub tallying_more : TalliedIfPassed Passed (place_checks n m k) m (k + 1) after → Tallying n m records after (k + 1)
      tallying_more c =
          record { scanning = scan_more (place_checks n m) records k i.scanning (rw e at l) c.answer; tallied = c.tallied refl }

-- 17 by the counts, which stop above every capacity
module _ (caps : Capacities) (m : Netlist) (counts : List ℕ) where
  count_feed : Allowed caps → Tallied m m.size counts → (k : ℕ) → k < m.size → count_check caps m counts k ≡ feed_check caps m k
  unfolding feeds
  count_feed a t k l = elim (dec_lt most (feeds m k)) [
    | yes h ↦ rw (lt-ltb most (get_or counts k 0) (omega (arith, fed, capacity_most caps (m.at k).kind a)), lt-ltb most (feeds m k) h)
    | no h ↦ (
        let g : feeds m k ≤ most = omega arith in
        rw (le-ltb most (get_or counts k 0) (omega (arith, fed)), le-ltb most (feeds m k) g))
  ]
    where
      most : ℕ
      most = capacity_of caps (m.at k).kind

      fed : get_or counts k 0 ≡ min stop (feeds m k)
      fed = ap (λ (l : List ℕ). get_or l k 0) t.counted ∙ tally_count (length counts) m m.size k (omega (arith, t.room))

  counts_feeds : Allowed caps → Tallied m m.size counts → (size : ℕ) → size ≡ m.size → (a : Checked) → a ≡ scan (count_check caps m counts) 0 size →
      a ≡ scan (feed_check caps m) 0 m.size
  counts_feeds allowed t size same a e =
      e ∙ ap (scan (count_check caps m counts) 0) same ∙ scan_cong (count_check caps m counts) (feed_check caps m) m.size (count_feed allowed t)

-- 12 to 17, part by part
module _ (n m : Netlist) (records size : ℕ) (sized : Sized n m records size) (caps : Capacities) (counts : List ℕ) where
  module _ (number place : ℕ) where
    pub kept_refused :
        (k : ℕ) → TalliedIfPassed (Refused number place) (scan (place_checks n m) 0 n.size) m k counts → Refused number place ≡ legal_checks n caps m
    kept_refused k c =
        legal_places n caps m number place
        (scan_early (place_checks n m) n.size m.size (omega (arith, sized.records, sized.size, sized.whole)) number place (sym c.answer))

    pub added_refused : TalliedIfPassed (Refused number place) (scan (place_checks n m) 0 m.size) m m.size counts → Refused number place ≡ legal_checks n caps m
    added_refused c = legal_places n caps m number place (sym c.answer)

  module _ (c : TalliedIfPassed Passed (scan (place_checks n m) 0 m.size) m m.size counts) where
    pub places_placed : PlacesPassed n m
    places_placed = placed n m (omega (arith, sized.records, sized.size, sized.whole)) (sym c.answer)

    pub traced_refused : (number place : ℕ) → Refused number place ≡ scan (trace_check n m) 0 n.size → Refused number place ≡ legal_checks n caps m
    traced_refused number place f = legal_traces n caps m (sym c.answer) number place (sym f)

    pub feeds_decide :
        (a : Checked) → Passed ≡ scan (trace_check n m) 0 n.size → Allowed caps → a ≡ scan (count_check caps m counts) 0 size → a ≡ legal_checks n caps m
    feeds_decide a f allowed e =
        legal_feeds n caps m (sym c.answer) a (sym f) (counts_feeds caps m counts allowed (c.tallied refl) size sized.size a e)

-- one record more by the counts
module _ (caps : Capacities) (m : Netlist) (counts : List ℕ) (size k : ℕ) (i : Scanning (count_check caps m counts) size k) (l : k < size)
    (f : ℕ) (b : Bool) (g : f ≡ get_or counts k 0) (h : b ≡ leb f (capacity_of caps (m.at k).kind)) where
  abbrev most : ℕ
  most = capacity_of caps (m.at k).kind

  pub count_more : not b ≡ false → Scanning (count_check caps m counts) size (k + 1)
  count_more d = scan_more (count_check caps m counts) size k i l (sym (rw (← g, le-ltb most f (leb-true f most (sym h ∙ not-false b d)))))

  pub count_stop : not b ≡ true → Refused 17 k ≡ scan (count_check caps m counts) 0 size
  count_stop d = scan_stop (count_check caps m counts) size k 17 k i l (sym (rw (← g, lt-ltb most f (leb-false f most (sym h ∙ not-true b d)))))

-- where the buffers feed no more than they may, the records before them are enough
module _ (caps : Capacities) (m : Netlist) (n size : ℕ) (counts : List ℕ) (buffers : ℕ) (w : Walkable n m) (sizes : (n ≤ size) × (size ≡ m.size))
    (few : FedAtMost counts n size buffers) (h : buffers ≤ caps.buffer) where
  pub source_enough : (a : Checked) → a ≡ scan (count_check caps m counts) 0 n → a ≡ scan (count_check caps m counts) 0 size
  source_enough Passed e = sym ((scan_passed (count_check caps m counts) size).1 each)
    where
      each : (k : ℕ) → k < size → count_check caps m counts k ≡ Passed
      each k l = elim (dec_lt k n) [
        | yes q ↦ (scan_passed (count_check caps m counts) n).0 (sym e) k q
        | no q ↦ (
            let r : n ≤ k = omega arith in
            rw (w.buffers k r (omega (arith, sizes.1)), le-ltb caps.buffer (get_or counts k 0) (omega (arith, few.bound k r l))))
      ]
  source_enough (Refused number place) e = sym (scan_early (count_check caps m counts) n size sizes.0 number place (sym e))

  -- all pass where none of these feeds more than a gate may
  pub source_few : (drivers : ℕ) → Allowed caps → FedAtMost counts 0 n drivers → drivers ≤ gate_capacity →
      Passed ≡ scan (count_check caps m counts) 0 size
  source_few drivers a d g =
      source_enough Passed
      (sym
      ((scan_passed (count_check caps m counts) n).1
      (λ k l.
      rw (le-ltb (capacity_of caps (m.at k).kind) (get_or counts k 0) (omega (arith, d.bound k (omega arith) l, capacity_least caps (m.at k).kind a))))))
