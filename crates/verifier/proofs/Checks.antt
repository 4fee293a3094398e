-- Laws of checks 11 to 17, with premises as the code has them: what each test gives of the check's answer.
use Prim.Native.Nat.{ℕ, zero, suc, ◌+◌, ◌<◌, ◌≤◌}
use native.Mathlib.Omega.{arith}
use mathlib.Core.Path.{◌≡◌, refl, sym, ap, ◌∙◌}
use mathlib.Core.Bool.{Bool, true, false, not, ◌&&◌}
use mathlib.Core.List.{List}
use mathlib.Core.Logic.{◌≢◌}
use lib.Dec.{leb, eqb}
use borrow.Author.Tests.{lt-ltb, le-ltb, le-leb, lt-leb, eq-eqb, ne_eqb, not-true}
use Rattle.facts.specs.Answers.{Checked, Passed, Refused}
use Rattle.facts.specs.Checks.{check, scan}
use Rattle.facts.specs.Sums.{any}
use Rattle.facts.proofs.Bools.{true_false}
use Rattle.facts.proofs.Reflect.{reflect, unlike_none}
use Rattle.facts.proofs.Sums.{any_none, any_cong}
use Rattle.facts.proofs.Loops.{NoneYet, any_more, any_found, any_end}
use Rattle.netlist.specs.declared.Capacities.{Capacities}
use Rattle.netlist.specs.declared.Record.{Record}
use Rattle.netlist.specs.Kinds.{slots, unused, mapped_limit, arity}
use Rattle.netlist.specs.Records.{Netlist, netlist, record_count, record_at, blank, slot}
use Rattle.netlist.specs.Source.{IsSource}
use Rattle.netlist.specs.Checks.{input_checks}
use Rattle.netlist.proofs.Source.{input_passed, no_buffer_lem}
use Rattle.verifier.specs.Checks.{bad_empty, differs, bad_name, not_one_lower, slot_checks, place_checks, trace_check, feed_check, bad_length, legal_checks, mapped_checks, verify_checks}
use Rattle.verifier.specs.PrivateWalking.{Sized, Driven, PlacesPassed}
use Rattle.verifier.specs.PrivateFeeding.{bad_fanin, buffer_checks}

-- a blank record's slots name nothing
blank_slot : (j : ℕ) → slot blank j ≡ unused
blank_slot zero = refl
blank_slot (suc zero) = refl
blank_slot (suc (suc zero)) = refl
blank_slot (suc (suc (suc j))) = refl

-- a slot is wrong that the kind does not use and that names something
module _ (kind : ℕ) (r : Record) (j n : ℕ) (e : n ≡ arity kind) (i : NoneYet (bad_empty kind blank r) slots j) (l : j < slots) where
  pub empty_used : j < n → NoneYet (bad_empty kind blank r) slots (j + 1)
  empty_used h = any_more (bad_empty kind blank r) slots j false i l (rw (lt-leb (arity kind) j (rw e at h))) refl

  module _ (h : n ≤ j) (x : ℕ) (p : x ≡ slot r j) where
    here : not (eqb x unused) ≡ bad_empty kind blank r j
    here = rw (le-leb (arity kind) j (rw e at h), blank_slot j, p)

    pub empty_found : x ≢ unused → true ≡ any (bad_empty kind blank r) slots
    empty_found g = any_found (bad_empty kind blank r) slots j (not (eqb x unused)) l here (rw (ne_eqb x unused g))

    pub empty_kept : x ≡ unused → NoneYet (bad_empty kind blank r) slots (j + 1)
    empty_kept g = any_more (bad_empty kind blank r) slots j (not (eqb x unused)) i l here (rw (eq-eqb x unused g))

-- where a's unused slots name nothing, those of r are held to a's as to a blank record's
empty_as : (a r : Record) → any (bad_empty a.kind blank a) slots ≡ false → any (bad_empty a.kind blank r) slots ≡ any (bad_empty a.kind a r) slots
empty_as a r h = any_cong (bad_empty a.kind blank r) (bad_empty a.kind a r) slots (λ j l. go j (leb (arity a.kind) j) refl ((any_none (bad_empty a.kind blank a) slots).0 h j l))
  where
    go : (j : ℕ) (b : Bool) → leb (arity a.kind) j ≡ b → (leb (arity a.kind) j && not (eqb (slot a j) (slot blank j))) ≡ false →
        (b && not (eqb (slot r j) (slot blank j))) ≡ (b && not (eqb (slot r j) (slot a j)))
    go j true e f = ap (λ (x : ℕ). not (eqb (slot r j) x)) (sym ((unlike_none (slot a j) (slot blank j)).0 (rw e at f)))
    go j false e f = refl

pub slots_differ :
    (a r : Record) (b : Bool) → r.kind ≡ a.kind → r.inversion ≡ a.inversion → r.level ≡ a.level →
    any (bad_empty a.kind blank a) slots ≡ false → b ≡ any (bad_empty a.kind blank r) slots → b ≡ differs a r
slots_differ a r b kind inversion level g e =
    e
    ∙ empty_as a r g
    ∙ rw (eq-eqb r.kind a.kind kind, eq-eqb r.inversion a.inversion inversion, eq-eqb r.level a.level level)

-- 14 and 15 pass where no used slot is bad
module _ (m : Netlist) (k : ℕ) (r : Record) where
  slots_fine : any (bad_fanin m r) (arity r.kind) ≡ false → slot_checks m k r ≡ Passed
  slots_fine h = let f = simp reflect at h in simp reflect (λ j l. (f j l).0, λ j l. (f j l).1)

  pub slots_passed : slot_checks m k r ≡ Passed → any (bad_fanin m r) (arity r.kind) ≡ false
  slots_passed h = let f = simp reflect at h in simp reflect (λ j l. (f.0 j l, f.1 j l))

  pub slots_good : (b : Bool) → b ≡ not (any (bad_fanin m r) (arity r.kind)) → b ≡ true → slot_checks m k r ≡ Passed
  slots_good b e t = slots_fine (not-true (any (bad_fanin m r) (arity r.kind)) (sym e ∙ t))

  module _ (n : ℕ) (p : n ≡ arity r.kind) (j : ℕ) where
    pub names_bad : (b : Bool) → j < n → b ≡ bad_name m r j → b ≡ true → Refused 14 k ≡ slot_checks m k r
    names_bad b l e t = rw (← p, ← any_found (bad_name m r) n j b l e t)

    pub levels_bad : any (bad_fanin m r) (arity r.kind) ≡ true → NoneYet (bad_name m r) n j → n ≤ j → Refused 15 k ≡ slot_checks m k r
    levels_bad some i l = rw (← p, ← any_end (bad_name m r) n j i l) (go (any (not_one_lower m r) n) refl)
      where
        go : (c : Bool) → any (not_one_lower m r) n ≡ c → Refused 15 k ≡ check 15 k c
        go true u = refl
        go false u =
            absurd (true_false (any (bad_fanin m r) (arity r.kind)) some (slots_passed (rw (← p, ← any_end (bad_name m r) n j i l, u))))

-- an accepted source's unused slots name nothing
pub source_empty : (source : List ℕ) (k : ℕ) (a : Record) → IsSource (netlist source) → k < record_count source → a ≡ record_at source k → any (bad_empty a.kind blank a) slots ≡ false
source_empty source k a i l e =
    rw e (simp reflect (λ j u g. i.empty k j l g u ∙ sym (blank_slot j)))

-- record k below the source's size, and from there on
module _ (n m : Netlist) (k : ℕ) where
  pub kept_bad : k < n.size → differs (n.at k) (m.at k) ≡ true → place_checks n m k ≡ Refused 12 k
  kept_bad l t = rw (lt-ltb k n.size l, t)

  pub kept_slots : k < n.size → differs (n.at k) (m.at k) ≡ false → place_checks n m k ≡ slot_checks m k (m.at k)
  kept_slots l t = rw (lt-ltb k n.size l, t, lt-leb n.size k l)

  pub place_buffer : n.size ≤ k → place_checks n m k ≡ buffer_checks m k
  place_buffer l = rw (le-ltb k n.size l, le-leb n.size k l)

-- what 12 to 15 leave for the trace
pub placed : (n m : Netlist) → n.size ≤ m.size → scan (place_checks n m) 0 m.size ≡ Passed → PlacesPassed n m
placed n m whole h =
    let f = simp reflect at h in
    record {
      whole = whole;
      kinds = λ k l. ((f k (omega arith)).0.0 l).0;
      buffers = λ k l b. ((f k b).0.1 l).0;
      named = λ k j l u. ((f k l).1.0 j u).0;
      balanced = λ k j l u. (f k l).1.1 j u;
    }

-- what 12 leaves: no record below the source's size is a buffer
module _ (n m : Netlist) (records size : ℕ) (sized : Sized n m records size) where
  pub driven : scan (place_checks n m) 0 n.size ≡ Passed → Driven records m
  driven h =
      let f = simp reflect at h in
      record {
        driver = λ k l. let g : k < n.size = omega (arith, sized.records) in no_buffer_lem n sized.source k g ((f k g).0.0 g).0;
      }

  pub placed_driven : PlacesPassed n m → Driven records m
  placed_driven p =
      record {
        driver = λ k l. let g : k < n.size = omega (arith, sized.records) in no_buffer_lem n sized.source k g (p.kinds k g);
      }

module _ (n : Netlist) (caps : Capacities) (m : Netlist) where
  pub legal_places : (number place : ℕ) → scan (place_checks n m) 0 m.size ≡ Refused number place → Refused number place ≡ legal_checks n caps m
  unfolding legal_checks
  legal_places number place h = rw h

  module _ (places : scan (place_checks n m) 0 m.size ≡ Passed) where
    pub legal_traces : (number place : ℕ) → scan (trace_check n m) 0 n.size ≡ Refused number place → Refused number place ≡ legal_checks n caps m
    unfolding legal_checks
    legal_traces number place h = rw (places, h)

    pub legal_feeds : (a : Checked) → scan (trace_check n m) 0 n.size ≡ Passed → a ≡ scan (feed_check caps m) 0 m.size → a ≡ legal_checks n caps m
    unfolding legal_checks
    legal_feeds a h e = e ∙ rw (places, h)

-- what 11 leaves: sizes that fit
module _ (records : ℕ) (bytes : List ℕ) (b : Bool) (f : b ≡ bad_length records bytes) (t : b ≡ false) where
  within : (records ≤ record_count bytes) × (record_count bytes ≤ mapped_limit)
  within = let h : bad_length records bytes ≡ false = sym f ∙ t in let g = simp reflect at h in (g.1.0, g.1.1)

module _ (source : List ℕ) (caps : Capacities) (mapped : List ℕ) where
  pub verify_refused : (number place : ℕ) → Refused number place ≡ input_checks source caps → Refused number place ≡ verify_checks source caps mapped
  unfolding verify_checks
  verify_refused number place e = rw (← e)

  module _ (e : Passed ≡ input_checks source caps) where
    module _ (records : ℕ) (r : records ≡ record_count source) (b : Bool) (f : b ≡ bad_length records mapped) where
      pub verify_length : b ≡ true → Refused 11 0 ≡ verify_checks source caps mapped
      unfolding verify_checks mapped_checks
      verify_length t = rw (← e, ← r, ← f, t)

      pub verify_legal : (a : Checked) → b ≡ false → a ≡ legal_checks (netlist source) caps (netlist mapped) → a ≡ verify_checks source caps mapped
      unfolding verify_checks mapped_checks
      verify_legal a t g = g ∙ rw (← e, ← r, ← f, t)

      pub mapped_sized : (m : ℕ) → b ≡ false → m ≡ record_count mapped → Sized (netlist source) (netlist mapped) records m
      mapped_sized m t g =
          record {
            source = (input_passed source caps (sym e)).is_source.is_source;
            records = r;
            size = g;
            whole = omega (arith, within records mapped b f t);
            fits = omega (arith, within records mapped b f t);
          }
