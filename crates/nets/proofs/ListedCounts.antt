-- Laws of the list of counts: its checks, the number of each net, and the numbers looked up.
use Prim.Native.Nat.{ℕ, ◌+◌, ◌*◌, ◌%◌, ◌<◌}
use mathlib.Core.Path.{◌≡◌, refl, sym, ◌∙◌, ap}
use mathlib.Core.Bool.{Bool, true, false, not, ◌||◌}
use mathlib.Core.List.{List}
use native.Mathlib.Omega.{arith}
use lib.ListN.{length, get_or}
use lib.Dec.{ltb, eqb}
use borrow.Author.Tests.{ltb-false, not-false}
use Rattle.facts.specs.Answers.{Checked, Passed, Refused}
use Rattle.facts.specs.Checks.{scan}
use Rattle.facts.specs.Bytes.{four}
use Rattle.facts.specs.Areas.{put}
use Rattle.facts.specs.Lists.{joined}
use Rattle.facts.proofs.Lists.{joined_cong}
use Rattle.facts.proofs.Stored.{Stored, stored_more}
use Rattle.facts.proofs.Loops.{Scanning, scan_more, scan_stop}
use Rattle.facts.proofs.Reflect.{check_passed, then_passed, scan_passed, or_none, unlike_none}
use Rattle.netlist.specs.declared.Capacities.{Capacities}
use Rattle.netlist.specs.Kinds.{slots, is_driver}
use Rattle.netlist.specs.Records.{netlist, record_count, record_at}
use Rattle.netlist.specs.Checks.{input_checks}
use Rattle.netlist.proofs.Source.{input_passed, driver_inside}
use Rattle.fanout.specs.declared.Count.{Count}
use Rattle.fanout.specs.Answer.{net_count, count_numbers, count_answer}
use Rattle.fanout.specs.Promises.{Asked}
use Rattle.fanout.proofs.Call.{call_counted}
use Rattle.nets.specs.Counts.{index_limit, index_count, index_at, bad_lists, index_check, list_checks, counts_answer, single_count, counts_area}
use Rattle.nets.specs.PrivateChains.{Linked, Chained}
use Rattle.nets.proofs.TreeCounts.{input_chained}
use Rattle.nets.specs.PrivateCounts.{net_number, NetNumbers, IndicesIn}

-- 20 of the indices from k on
module _ (source records : List ℕ) (k d kind : ℕ) (b : Bool) (s : Scanning (index_check source records) (index_count records) k)
    (l : k < index_count records) (e : d ≡ index_at records k) (f : kind ≡ (record_at source d).kind) (g : b ≡ is_driver kind) where
  pub indices_more : b ≡ true → Scanning (index_check source records) (index_count records) (k + 1)
  indices_more t =
      scan_more (index_check source records) (index_count records) k s l (rw (← e, ← f, ← g, t))

  pub indices_stop : not b ≡ true → Refused 20 k ≡ scan (index_check source records) 0 (index_count records)
  indices_stop t =
      scan_stop (index_check source records) (index_count records) k 20 k s l (rw (← e, ← f, ← g, t))

-- 21, then 20
module _ (source records counts : List ℕ) (b : Bool) (e : b ≡ bad_lists records counts) where
  pub lists_few : b ≡ false → index_count records < 65536
  lists_few t =
      let odd = not (eqb (length records % 2) 0) in
      let many = ltb index_limit (index_count records) in
      let l = (or_none (odd || many) (not (eqb (length counts) (2 * length records)))).0 (sym e ∙ t) in
      omega (arith, ltb-false index_limit (index_count records) ((or_none odd many).0 l.0).1)

  pub lists_bad : b ≡ true → Refused 21 0 ≡ list_checks source records counts
  unfolding list_checks
  lists_bad t = rw (← e, t)

  pub lists_good : (a : Checked) → b ≡ false → a ≡ scan (index_check source records) 0 (index_count records) → a ≡ list_checks source records counts
  unfolding list_checks
  lists_good a t f = f ∙ rw (← e, t)

-- the numbers of the indices before k, looked up and stored
module _ (records totals area old : List ℕ) (k : ℕ) where
  abbrev looked : ℕ → ℕ
  looked i = get_or totals (index_at records i) 0

  pub looked_more : (d v : ℕ) (new : List ℕ) → Stored looked (index_count records) k area old → k < index_count records → d ≡ index_at records k →
      v ≡ get_or totals d 0 → new ≡ put area (4 * k) (four v) → Stored looked (index_count records) (k + 1) new old
  looked_more d v new h l f g p = stored_more looked (index_count records) old k area h v new l (g ∙ ap (λ (x : ℕ). get_or totals x 0) f) p

-- asked for a driver, the single call gives what its net's row does
pub asked_counted : (source : List ℕ) (caps : Capacities) (d : ℕ) → Asked source caps d → count_answer source caps d ≡ net_count (netlist source) caps d
asked_counted source caps d a =
    sym
    (call_counted source caps d (sym a.passed) (record_at source d).kind (is_driver (record_at source d).kind) refl refl
    (net_count (netlist source) caps d) a.driver refl)

-- all checks of a call that was accepted
module _ (source : List ℕ) (caps : Capacities) (records counts : List ℕ) (h : counts_answer source caps records counts ≡ Passed) where
  passed : (input_checks source caps ≡ Passed) × (list_checks source records counts ≡ Passed)
  unfolding counts_answer
  passed = (then_passed (input_checks source caps) (list_checks source records counts)).0 h

  lists : (bad_lists records counts ≡ false) × (scan (index_check source records) 0 (index_count records) ≡ Passed)
  unfolding list_checks
  lists = let l = (then_passed _ _).0 passed.1 in ((check_passed 21 0 _).0 l.0, l.1)

  pub list_input : input_checks source caps ≡ Passed
  list_input = passed.0

  pub list_chained : (N : ℕ) (first next : List ℕ) (end : ℕ) → N ≡ record_count source → end ≡ slots * N → Linked (netlist source) first next 0 →
      Chained (netlist source) first next 0 end
  list_chained N first next end e f l = input_chained source caps list_input N e first next end f l

  pub list_long : length counts ≡ 4 * index_count records
  list_long =
      let l = (or_none _ _).0 lists.0 in
      let even = (unlike_none (length records % 2) 0).0 ((or_none _ _).0 l.0).0 in
      omega (arith, even, (unlike_none (length counts) (2 * length records)).0 l.1)

  pub list_driver : (k : ℕ) → k < index_count records → is_driver (record_at source (index_at records k)).kind ≡ true
  list_driver k l =
      not-false _ ((check_passed 20 k _).0 ((scan_passed (index_check source records) (index_count records)).0 lists.1 k l))

  pub list_inside : IndicesIn records
  list_inside =
      record { at = λ k l. omega (arith, driver_inside source (index_at records k) (list_driver k l), (input_passed source caps list_input).is_source.is_source.few) }

  -- the number of a listed record's net is the single call's
  list_single : (k : ℕ) → k < index_count records → net_number (netlist source) caps (index_at records k) ≡ single_count source caps (index_at records k)
  list_single k l =
      ap (λ (a : Count). get_or (count_numbers a) 2 0)
      (sym (asked_counted source caps (index_at records k) (record { passed = list_input; driver = list_driver k l })))

  pub list_area : (N : ℕ) (totals area : List ℕ) → N ≡ record_count source → NetNumbers (netlist source) caps N totals →
      area ≡ joined (λ k. four (get_or totals (index_at records k) 0)) (index_count records) → area ≡ counts_area source caps records counts
  unfolding counts_area
  list_area N totals area e t f =
      f
      ∙ joined_cong _ _ (index_count records)
      (λ k l. ap four (t.at (index_at records k) (omega (arith, driver_inside source (index_at records k) (list_driver k l))) ∙ list_single k l))
      ∙ rw h refl

-- a refusal leaves the area
pub counts_kept : (source : List ℕ) (caps : Capacities) (records counts : List ℕ) (number place : ℕ) → Refused number place ≡ counts_answer source caps records counts →
    counts ≡ counts_area source caps records counts
unfolding counts_area
counts_kept source caps records counts number place p = rw (← p)
