-- Laws of the walks of check 16, with premises as the code has them: a walk ends at the driver, and what is kept of it is right.
use Prim.Native.Nat.{ℕ, suc, ◌+◌, ◌-◌, ◌≤◌, ◌<◌}
use native.Mathlib.Omega.{arith}
use native.Mathlib.Decide.{ℕ_discrete, dec_lt}
use mathlib.Core.Path.{◌≡◌, refl, sym, ap, ◌∙◌}
use mathlib.Core.Logic.{◌≢◌}
use mathlib.Core.Bool.{Bool, true, false, not}
use mathlib.Core.List.{List}
use lib.ListN.{length, get_or, set, length-set}
use lib.Seq.{get_or-set_same, get_or-set_other}
use lib.Dec.{eqb}
use borrow.Author.Tests.{lt-ltb, le-ltb, eq-eqb, ne_eqb, not-true}
use Rattle.facts.specs.Answers.{Checked, Passed, Refused}
use Rattle.facts.specs.Checks.{check, scan}
use Rattle.facts.specs.Sums.{any}
use Rattle.facts.proofs.Reflect.{reflect}
use Rattle.facts.proofs.Sums.{any_none}
use Rattle.facts.proofs.Loops.{NoneYet, any_start, any_more, any_found, any_end, Scanning, scan_start, scan_more, scan_stop, scan_end}
use Rattle.netlist.specs.declared.Record.{Record}
use Rattle.netlist.specs.Kinds.{buffer, arity}
use Rattle.netlist.specs.Records.{Netlist, netlist, record_at, record_count, slot, fanin}
use Rattle.netlist.proofs.Balance.{buffer_level}
use Rattle.verifier.specs.Trace.{walk, driver}
use Rattle.verifier.specs.PrivateWalking.{Sized, Driven, Buffering, unknown, Known, known_driver, PlacesPassed, Walkable, Traceable, Traced, SlotsTraceable, SlotsTraced}
use Rattle.verifier.specs.PrivateFeeding.{bad_fanin, buffer_checks, Fed, Tallied, TalliedIfPassed}
use Rattle.verifier.specs.Checks.{no_buffer, place_checks, strays, trace_check}
use Rattle.verifier.proofs.Trace.{walk_here, walk_back, driver_back}
use Rattle.verifier.proofs.Checks.{driven, placed_driven, place_buffer}
use Rattle.verifier.proofs.Feeding.{buffer_kind, Tallying, tallying_onward, tallying_end, tallying_stop, tallying_more}

-- one driver more is known
pub keep : (m : Netlist) (drivers : List ℕ) (x d : ℕ) → Known m drivers → x < m.size → (d ≢ unknown → d ≡ driver m x) → Known m (set drivers x d)
keep m drivers x d k l e =
    record {
      room = rw (length-set drivers x d) k.room;
      right = λ y h f.
          elim (ℕ_discrete y x) [
            | yes p ↦
                let q = get_or-set_same drivers x d 0 (omega (arith, k.room)) in
                rw p (q ∙ e (λ u. f (rw p (q ∙ u))))
            | no p ↦
                let q = get_or-set_other drivers x y d 0 p in
                q ∙ k.right y h (λ u. f (q ∙ u))
          ];
    }

-- what is known is right
known_right : (n : ℕ) (drivers : List ℕ) (x : ℕ) (m : Netlist) (d : ℕ) → Known m drivers → Driven n m → x < m.size → d ≡ known_driver n drivers x → d ≢ unknown → d ≡ driver m x
known_right n drivers x m d k i l e h = elim (dec_lt x n) [
  | yes b ↦ rw e (rw (lt-ltb x n b) (sym (walk_here m (m.at x).level x (i.driver x b))))
  | no b ↦ (
      let g : d ≡ get_or drivers x 0 = e ∙ rw (le-ltb x n (let c : n ≤ x = omega arith in c)) in
      g ∙ k.right x l (λ u. h (g ∙ u)))
]

-- a buffer that passes 14 and 15 has its fanin's driver
module _ (m : Netlist) (drivers : List ℕ) (known : Known m drivers) (r : Record) (x : ℕ) (p : x ≡ slot r 0) (fine : bad_fanin m r 0 ≡ false) where
  named : x < m.size
  named = let h = simp reflect at fine in rw p h.0.0

  pub fine_room : x < length drivers
  fine_room = omega (arith, named, known.room)

  buffer_driver : (k : ℕ) → r ≡ m.at k → r.kind ≡ buffer → driver m k ≡ driver m x
  buffer_driver k q e =
      let l = simp reflect at fine in
      rw (p, q) (ap (λ (level : ℕ). walk m level k) (rw q at l.1) ∙ walk_back m (m.at (slot (m.at k) 0)).level k (rw q at e))

  pub fine_known : (n k d : ℕ) → d ≡ known_driver n drivers x → r ≡ m.at k → r.kind ≡ buffer → Buffering n m k → Known m (set drivers k d)
  fine_known n k d h q e i =
      keep m drivers k d known i.here (λ v. known_right n drivers x m d known i.driven named h v ∙ sym (buffer_driver k q e))

-- so has one whose slot was counted
module _ (m : Netlist) (r : Record) (used : ℕ) (u : used ≡ arity buffer) (c : Bool) (before after : List ℕ) (f : Fed m r used c before after) (g : c ≡ true) where
  fed_fine : bad_fanin m r 0 ≡ false
  fed_fine = (any_none (bad_fanin m r) used).0 (not-true (any (bad_fanin m r) used) (sym f.good ∙ g)) 0 (omega (arith, u))

  module _ (drivers : List ℕ) (x : ℕ) (p : x ≡ slot r 0) (known : Known m drivers) where
    pub fanin_room : x < length drivers
    fanin_room = fine_room m drivers known r x p fed_fine

    pub buffer_known : (n k d : ℕ) (b : Bool) → d ≡ known_driver n drivers x → r ≡ m.at k → b ≡ no_buffer r → b ≡ false → Buffering n m k → Known m (set drivers k d)
    buffer_known n k d b h q e t i = fine_known m drivers known r x p fed_fine n k d h q (buffer_kind r b e t) i

module _ (n : ℕ) (m : Netlist) (drivers : List ℕ) (level x : ℕ) (w : Traceable n m drivers level x) where
  pub walk_stays : x < n → Traced m x x drivers
  walk_stays l =
      record { ends = sym (walk_here m (m.at x).level x (w.walkable.driven.driver x l)); known = w.known }

  module _ (l : n ≤ x) where
    is_buffer_lem : (m.at x).kind ≡ buffer
    is_buffer_lem = w.walkable.buffers x l w.here

    -- a buffer stands above level 0, and its fanin one level lower
    lower : level ≡ suc (m.at (fanin m x 0)).level
    lower = w.stands ∙ buffer_level m w.walkable.balanced x w.here is_buffer_lem

    pub walk_level : 1 ≤ level
    walk_level = omega (arith, lower)

    module _ (z : ℕ) (f : z ≡ slot (m.at x) 0) where
      pub walk_keeps : (d : ℕ) (after : List ℕ) → Traced m z d after → Traced m x d (set after x d)
      walk_keeps d after v =
          let ends : d ≡ driver m x = v.ends ∙ rw f (sym (driver_back m w.walkable.named w.walkable.balanced x w.here is_buffer_lem)) in
          record { ends = ends; known = keep m after x d v.known w.here (λ u. ends) }

-- once 12 to 15 passed, buffers and slots may be walked from
pub passed_walkable : (n m : Netlist) (first all : ℕ) → Sized n m first all → PlacesPassed n m → Walkable first m
passed_walkable n m first all sized p =
    record {
      driven = placed_driven n m first all sized p;
      buffers = λ x b h. p.buffers x (rw sized.records at b) h;
      named = p.named;
      balanced = p.balanced;
    }

-- a used slot may be traced from, one level lower
module _ (first : ℕ) (m : Netlist) (before : List ℕ) (r : Record) (n : ℕ) (w : SlotsTraceable first m before r n) (j : ℕ) (l : j < n) where
  pub slot_level : 1 ≤ r.level
  slot_level = omega (arith, w.lower j l)

  pub slot_traceable : (drivers : List ℕ) (x : ℕ) → Known m drivers → x ≡ slot r j → Traceable first m drivers (r.level - 1) x
  slot_traceable drivers x known e =
      rw e (record {
        walkable = w.walkable;
        here = w.slots j l;
        stands = omega (arith, w.lower j l);
        known = known;
      })

-- no slot below j strays, and what is known is right
pub record NoneStrayed (m : Netlist) (a r : Record) (n : ℕ) (drivers : List ℕ) (j : ℕ) : Type 0 where
  pub none : NoneYet (strays m a r) n j
  pub known : Known m drivers

module _ (first : ℕ) (m : Netlist) (before : List ℕ) (a r : Record) (n : ℕ) (w : SlotsTraceable first m before r n) where
  pub strayed_start : NoneStrayed m a r n before 0
  strayed_start = record { none = any_start (strays m a r) n; known = w.known }

  module _ (drivers : List ℕ) (j : ℕ) (i : NoneStrayed m a r n drivers j) where
    pub strayed_end : n ≤ j → SlotsTraced m false (any (strays m a r) n) drivers
    strayed_end l = record { answer = any_end (strays m a r) n j i.none l; known = i.known }

    module _ (l : j < n) where
      pub strayed_traceable : (x : ℕ) → x ≡ slot r j → Traceable first m drivers (r.level - 1) x
      strayed_traceable x e = slot_traceable first m before r n w j l drivers x i.known e

    module _ (after : List ℕ) (x d y : ℕ) (f : Traced m x d after) (e : x ≡ slot r j) (l : j < n) where
      here : y ≡ slot a j → strays m a r j ≡ not (eqb d y)
      here g = rw (← e, ← g, f.ends)

      pub strayed_found : d ≢ y → y ≡ slot a j → SlotsTraced m true (any (strays m a r) n) after
      strayed_found t g =
          record { answer = any_found (strays m a r) n j true l (sym (here g ∙ rw (ne_eqb d y t))) refl; known = f.known }

      pub strayed_more : d ≡ y → y ≡ slot a j → NoneStrayed m a r n after (j + 1)
      strayed_more t g =
          record { none = any_more (strays m a r) n j false i.none l (sym (here g ∙ rw (eq-eqb d y t))) refl; known = f.known }

-- the answer from k on is the answer, and what is known is right
pub record Tracing (n m : Netlist) (drivers : List ℕ) (k : ℕ) : Type 0 where
  pub scanning : Scanning (trace_check n m) n.size k
  pub known : Known m drivers

module _ (source mapped : List ℕ) (drivers : List ℕ) where
  pub tracing_start : Known (netlist mapped) drivers → Tracing (netlist source) (netlist mapped) drivers 0
  tracing_start known = record { scanning = scan_start (trace_check (netlist source) (netlist mapped)) (record_count source); known = known }

  module _ (k n all : ℕ) (sized : Sized (netlist source) (netlist mapped) n all) (i : Tracing (netlist source) (netlist mapped) drivers k) where
    e : n ≡ record_count source
    e = sized.records

    pub tracing_end : n ≤ k → Passed ≡ scan (trace_check (netlist source) (netlist mapped)) 0 (record_count source)
    tracing_end l = scan_end (trace_check (netlist source) (netlist mapped)) (record_count source) k i.scanning (rw e at l)

    module _ (l : k < n) (a r : Record) (p : a ≡ record_at source k) (q : r ≡ record_at mapped k) where
      module _ (w : PlacesPassed (netlist source) (netlist mapped)) where
        uses : (j : ℕ) → j < arity a.kind → j < arity (record_at mapped k).kind
        uses j h = rw (w.kinds k (rw e at l), ← p) h

        stands : k < record_count mapped
        stands = omega (arith, w.whole)

        pub tracing_slots : SlotsTraceable n (netlist mapped) drivers r (arity a.kind)
        tracing_slots =
            record {
              walkable = passed_walkable (netlist source) (netlist mapped) n all sized w;
              slots = λ j h. rw q (w.named k j stands (uses j h));
              lower = λ j h. rw q (w.balanced k j stands (uses j h));
              known = i.known;
            }

      module _ (after : List ℕ) (b : Bool) (f : SlotsTraced (netlist mapped) b (any (strays (netlist mapped) a r) (arity a.kind)) after) where
        each : check 16 k b ≡ trace_check (netlist source) (netlist mapped) k
        each = rw (f.answer, p, q)

        pub tracing_more : b ≡ false → Tracing (netlist source) (netlist mapped) after (k + 1)
        tracing_more t =
            record {
              scanning = scan_more (trace_check (netlist source) (netlist mapped)) (record_count source) k i.scanning (rw e at l) (let g : Passed ≡ check 16 k b = rw t in g ∙ each);
              known = f.known;
            }

        pub tracing_stop : b ≡ true → Refused 16 k ≡ scan (trace_check (netlist source) (netlist mapped)) 0 (record_count source)
        tracing_stop t =
            scan_stop (trace_check (netlist source) (netlist mapped)) (record_count source) k 16 k i.scanning (rw e at l)
            (let g : Refused 16 k ≡ check 16 k b = rw t in g ∙ each)

-- the pass over the buffers: the answer from k on is the answer, the first k records are counted, and what is known is right
pub record Noting (n m : Netlist) (records : ℕ) (counts drivers : List ℕ) (k : ℕ) : Type 0 where
  pub from : records ≤ k
  pub tallying : Tallying n m m.size counts k
  pub known : Known m drivers

module _ (n m : Netlist) (records size : ℕ) (sized : Sized n m records size) (counts drivers : List ℕ) where
  pub noting_start :
      scan (place_checks n m) 0 n.size ≡ Passed → Tallied m n.size counts → Known m drivers → Noting n m records counts drivers records
  noting_start h t known =
      record {
        from = omega arith;
        tallying =
            rw sized.records
            (tallying_onward n m m.size counts n.size (omega (arith, sized.records, sized.size, sized.whole)) h t);
        known = known;
      }

  module _ (k : ℕ) (i : Noting n m records counts drivers k) where
    pub noting_end : size ≤ k → TalliedIfPassed Passed (scan (place_checks n m) 0 m.size) m m.size counts
    noting_end l = tallying_end n m m.size counts k i.tallying size sized.size l

    module _ (l : k < size) where
      pub noting_buffering : scan (place_checks n m) 0 n.size ≡ Passed → Buffering records m k
      noting_buffering h = record { from = i.from; here = omega (arith, sized.size); driven = driven n m records size sized h }

      module _ (after : List ℕ) where
        placed_buffer : place_checks n m k ≡ buffer_checks m k
        placed_buffer = place_buffer n m k (omega (arith, sized.records, i.from))

        pub noting_stop :
            (a : Checked) → a ≡ buffer_checks m k → buffer_checks m k ≢ Passed → TalliedIfPassed a (scan (place_checks n m) 0 m.size) m m.size after
        noting_stop a c fails = tallying_stop n m m.size counts k i.tallying size sized.size l after a (c ∙ sym placed_buffer) (rw placed_buffer fails)

        pub noting_more : (later : List ℕ) → Known m later → TalliedIfPassed Passed (buffer_checks m k) m (k + 1) after → Noting n m records after later (k + 1)
        noting_more later known c =
            record {
              from = omega (arith, i.from);
              tallying = tallying_more n m m.size counts k i.tallying size sized.size l after (rw placed_buffer c);
              known = known;
            }
