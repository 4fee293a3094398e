-- Laws of what is written before the verifier decides: each used slot is traced, then each record before the first buffer.
use Prim.Native.Nat.{ℕ, ◌+◌, ◌*◌, ◌≤◌, ◌<◌}
use native.Mathlib.Decide.{dec_lt, ℕ_discrete}
use native.Mathlib.Nat.{zero-add}
use native.Mathlib.Omega.{arith}
use mathlib.Core.Path.{◌≡◌, sym, ap, ◌∙◌}
use mathlib.Core.Bool.{Bool, cond}
use mathlib.Core.List.{List, ◌++◌}
use mir.Val.{Fits}
use mir.Syntax.{w64}
use lib.ListN.{length, get_or, set, drop, length-set}
use lib.Seq.{get_or-set_same, get_or-set_other, ext_get_or}
use lib.Dec.{ltb}
use borrow.Author.Tests.{lt-ltb, le-ltb}
use Rattle.facts.specs.Areas.{onto, put}
use Rattle.facts.specs.Lists.{tabulate}
use Rattle.facts.proofs.Lists.{length_tabulate, get_d_tabulate}
use Rattle.facts.proofs.Loops.{seek_within}
use Rattle.netlist.specs.declared.Record.{Record}
use Rattle.netlist.specs.Kinds.{width, unused, arity}
use Rattle.netlist.specs.Records.{Netlist, netlist, record_count, record_at, slot}
use Rattle.netlist.specs.Bytes.{encode, recs}
use Rattle.netlist.specs.Counts.{is_buffer}
use Rattle.netlist.proofs.Bytes.{RecordsSoFar, written_start, written_more, written_end}
use Rattle.netlist.proofs.Checks.{arity_slots}
use Rattle.verifier.specs.Trace.{driver}
use Rattle.verifier.specs.PrivateWalking.{Known, Traced, SlotsTraceable}
use Rattle.strip.specs.Answer.{source_size, traced_slot, traced_record, stripped, stripped_bytes}
use Rattle.strip.specs.PrivateTracing.{RecordTraced, LeftReady}
use Rattle.netlist.specs.Kinds as kinds

-- the first j slots are traced
pub record SlotsSoFar (m : Netlist) (r : Record) (used : ℕ) (slots drivers : List ℕ) (j : ℕ) : Type 0 where
  pub within : j ≤ used
  pub uses : used ≡ arity r.kind
  pub long : length slots ≡ kinds.slots
  pub at : (i : ℕ) → i < kinds.slots → get_or slots i unused ≡ cond (ltb i j) (driver m (slot r i)) (slot r i)
  pub known : Known m drivers

module _ (m : Netlist) (r : Record) (used : ℕ) where
  pub slots_start : (n : ℕ) (drivers : List ℕ) → length r.slots ≡ kinds.slots → used ≡ arity r.kind → SlotsTraceable n m drivers r used →
      SlotsSoFar m r used r.slots drivers 0
  slots_start n drivers long u t =
      record {
        within = omega arith;
        uses = u;
        long = long;
        at = λ i l. rw (le-ltb i 0 (omega arith));
        known = t.known;
      }

  module _ (slots drivers : List ℕ) (j : ℕ) (s : SlotsSoFar m r used slots drivers j) where
    pub slot_inside : j < used → j < kinds.slots
    slot_inside l = omega (arith, s.uses, arity_slots r.kind)

    pub slot_fits : j < used → Fits w64 (j * 2)
    slot_fits l = omega (arith, slot_inside l)

    pub slots_more : (x d : ℕ) (after : List ℕ) → j < used → x ≡ slot r j → Traced m x d after → SlotsSoFar m r used (set slots j d) after (j + 1)
    slots_more x d after l e t =
        record {
          within = omega arith;
          uses = s.uses;
          long = length-set slots j d ∙ s.long;
          at = λ i h. elim (ℕ_discrete i j) [
            | yes p ↦
                rw (p, lt-ltb j (j + 1) (omega arith))
                (get_or-set_same slots j d unused (omega (arith, s.long, slot_inside l)) ∙ t.ends ∙ ap (driver m) e)
            | no p ↦ get_or-set_other slots j i d unused p ∙ s.at i h ∙ ap (λ (b : Bool). cond b (driver m (slot r i)) (slot r i)) (same i p)
          ];
          known = t.known;
        }
      where
        same : (i : ℕ) → (i ≡ j → ⊥) → ltb i j ≡ ltb i (j + 1)
        same i p = elim (dec_lt i j) [
          | yes h ↦ lt-ltb i j h ∙ sym (lt-ltb i (j + 1) (omega arith))
          | no h ↦ le-ltb i j (omega arith) ∙ sym (le-ltb i (j + 1) (omega arith))
        ]

    pub slots_end : used ≤ j → RecordTraced m r (record { kind = r.kind; inversion = r.inversion; level = r.level; slots = slots }) drivers
    unfolding traced_record
    slots_end l =
        record {
          same = ap (λ (slots : List ℕ). record { kind = r.kind; inversion = r.inversion; level = r.level; slots = slots }) all;
          known = s.known;
        }
      where
        all : slots ≡ tabulate (traced_slot m r) kinds.slots
        all =
            let e : j ≡ arity r.kind = omega (arith, s.within, s.uses) in
            ext_get_or unused slots (tabulate (traced_slot m r) kinds.slots) (s.long ∙ sym (length_tabulate (traced_slot m r) kinds.slots))
            (λ i h.
            let b : i < kinds.slots = rw s.long at h in
            s.at i b ∙ ap (λ (k : ℕ). cond (ltb i k) (driver m (slot r i)) (slot r i)) e ∙ sym (get_d_tabulate (traced_slot m r) kinds.slots i unused b))

-- the first k records are written
pub record LeftSoFar (mapped : List ℕ) (n : ℕ) (before source drivers : List ℕ) (k : ℕ) : Type 0 where
  pub records : RecordsSoFar before 0 (λ k. (stripped (netlist mapped)).at (0 + k)) n source k
  pub known : Known (netlist mapped) drivers

module _ (mapped : List ℕ) (n : ℕ) (before : List ℕ) where
  pub left_start : (drivers : List ℕ) → LeftReady (netlist mapped) n drivers before → LeftSoFar mapped n before before drivers 0
  left_start drivers w = record { records = written_start before 0 _ n; known = w.known }

  module _ (known₀ : List ℕ) (w : LeftReady (netlist mapped) n known₀ before) (source drivers : List ℕ) (k : ℕ) (s : LeftSoFar mapped n before source drivers k) where
    pub left_end : n ≤ k → source ≡ onto (stripped_bytes mapped) before
    unfolding stripped_bytes
    left_end l =
        written_end before 0 _ n source k s.records l
        ∙ ap (λ (size : ℕ). put before 0 (recs (stripped (netlist mapped)) 0 size)) w.size
        ∙ ap (λ (i : ℕ). stripped_bytes mapped ++ drop i before) (zero-add (length (stripped_bytes mapped)))

    module _ (l : k < n) where
      pub left_inside : k < record_count mapped
      unfolding source_size
      left_inside = omega (arith, w.size, seek_within (is_buffer (netlist mapped)) 0 (record_count mapped))

      pub left_slots : (r : Record) → r ≡ record_at mapped k → SlotsTraceable n (netlist mapped) drivers r (arity r.kind)
      left_slots r e =
          rw e (record {
            walkable = w.walkable;
            slots = λ j. w.walkable.named k j left_inside;
            lower = λ j. w.walkable.balanced k j left_inside;
            known = s.known;
          })

      pub left_more : (r traced : Record) (after later : List ℕ) → r ≡ record_at mapped k → RecordTraced (netlist mapped) r traced later →
          after ≡ put source (width * k) (encode traced) → LeftSoFar mapped n before after later (k + 1)
      left_more r traced after later e t g =
          record {
            records =
                written_more before 0 (λ k. (stripped (netlist mapped)).at (0 + k)) n source k s.records traced after (omega (arith, w.room)) l
                (t.same ∙ ap (traced_record (netlist mapped)) (e ∙ ap (record_at mapped) (sym (zero-add k))))
                (g ∙ ap (λ (i : ℕ). put source (width * i) (encode traced)) (sym (zero-add k)));
            known = t.known;
          }
