-- Laws of the checks of a mapped netlist before it has a source: 14 and 15 of every record, and buffers from the first on; then its slots can be
-- traced. A legal mapped netlist passes them.
use Prim.Native.Nat.{ℕ, ◌+◌, ◌≤◌, ◌<◌}
use native.Mathlib.Decide.{dec_lt}
use native.Mathlib.Omega.{arith}
use mathlib.Core.Path.{◌≡◌, refl, sym, ap, ◌∙◌}
use mathlib.Core.Bool.{Bool, true, false, not, ◌||◌}
use mathlib.Core.List.{List}
use lib.ListN.{set}
use lib.Dec.{eqb}
use borrow.Author.Tests.{eqb-true, eqb-false, eq-eqb}
use Rattle.facts.specs.Sums.{any}
use Rattle.facts.proofs.Bools.{true_false}
use Rattle.facts.proofs.Loops.{NoneYet, any_more, any_found, seek_before, seek_within}
use Rattle.facts.proofs.Reflect.{reflect}
use Rattle.facts.proofs.Sums.{any_none, any_some}
use Rattle.netlist.specs.declared.Capacities.{Capacities}
use Rattle.netlist.specs.declared.Record.{Record}
use Rattle.netlist.specs.Kinds.{buffer, arity}
use Rattle.netlist.specs.Records.{Netlist, slot}
use Rattle.netlist.specs.Counts.{is_buffer}
use Rattle.verifier.specs.Legal.{Legal}
use Rattle.verifier.specs.PrivateFeeding.{bad_fanin}
use Rattle.verifier.specs.PrivateWalking.{Driven, Walkable, Known, known_driver}
use Rattle.verifier.proofs.Walking.{fine_known}
use Rattle.strip.specs.Answer.{source_size}
use Rattle.strip.specs.PrivateTracing.{bad_fanins, bad_buffer, SizesFit, BuffersDecided, FaninsPass, FaninsDecided}

-- no record before the first buffer is one
sizes_driven : (m : Netlist) (n all : ℕ) → SizesFit m n all → Driven n m
unfolding source_size
sizes_driven m n all c =
    record { driver = λ x l. eqb-false _ _ (seek_before (is_buffer m) 0 m.size x (omega arith) (omega (arith, c.size))) }

-- record k fails 14 or 15, or does not
module _ (m : Netlist) (n k : ℕ) (r : Record) (b : Bool) (l : k < n) (e : r ≡ m.at k) (f : b ≡ any (bad_fanin m r) (arity r.kind)) where
  here : b ≡ bad_fanins m k
  here = f ∙ ap (λ (r : Record). any (bad_fanin m r) (arity r.kind)) e

  pub record_bad : b ≡ true → true ≡ any (bad_fanins m) n
  record_bad t = any_found (bad_fanins m) n k b l here t

  pub record_good : NoneYet (bad_fanins m) n k → b ≡ false → NoneYet (bad_fanins m) n (k + 1)
  record_good i t = any_more (bad_fanins m) n k b i l here t

-- a record is a buffer with a fanin one level lower, or not
module _ (m : Netlist) (r : Record) where
  buffer_good : bad_buffer m r ≡ false → (r.kind ≡ buffer) × (bad_fanin m r 0 ≡ false)
  buffer_good e = go (eqb r.kind buffer) refl e
    where
      go : (b : Bool) → eqb r.kind buffer ≡ b → (not b || bad_fanin m r 0) ≡ false → (r.kind ≡ buffer) × (bad_fanin m r 0 ≡ false)
      go true f g = (eqb-true _ _ f, g)
      go false f g = absurd (true_false true refl g)

-- all records from n on, below k, are buffers that pass 14 and 15, and what is known is right
pub record BuffersSoFar (n : ℕ) (m : Netlist) (all : ℕ) (drivers : List ℕ) (k : ℕ) : Type 0 where
  pub from : n ≤ k
  pub within : k ≤ all
  pub counted : SizesFit m n all
  pub good : (i : ℕ) → n ≤ i → i < k → bad_buffer m (m.at i) ≡ false
  pub known : Known m drivers

module _ (n : ℕ) (m : Netlist) (all : ℕ) (drivers : List ℕ) where
  pub buffers_start : SizesFit m n all → Known m drivers → BuffersSoFar n m all drivers n
  unfolding source_size
  buffers_start c known =
      record {
        from = omega arith;
        within = omega (arith, c.size, c.records, seek_within (is_buffer m) 0 m.size);
        counted = c;
        good = λ i a l. absurd (omega arith);
        known = known;
      }

  module _ (k : ℕ) (s : BuffersSoFar n m all drivers k) where
    module _ (l : k < all) where
      pub buffer_inside : k < m.size
      buffer_inside = omega (arith, s.counted.records)

      module _ (r : Record) (e : r ≡ m.at k) (b : Bool) (f : b ≡ bad_buffer m r) where
        module _ (t : b ≡ false) (x : ℕ) (p : x ≡ slot r 0) where
          fine : (r.kind ≡ buffer) × (bad_fanin m r 0 ≡ false)
          fine = buffer_good m r (sym f ∙ t)

          pub buffers_more : (d : ℕ) → d ≡ known_driver n drivers x → BuffersSoFar n m all (set drivers k d) (k + 1)
          buffers_more d h =
              record {
                from = omega (arith, s.from);
                within = omega arith;
                counted = s.counted;
                good = λ i a u. elim (dec_lt i k) [
                  | yes w ↦ s.good i a w
                  | no w ↦ (let q : i ≡ k = omega arith in rw (q, ← e) (sym f ∙ t))
                ];
                known =
                    fine_known m drivers s.known r x p fine.1 n k d h e fine.0
                    (record { from = s.from; here = buffer_inside; driven = sizes_driven m n all s.counted });
              }

-- all records
module _ (m : Netlist) (n all : ℕ) (c : SizesFit m n all) where
  pub records_inside : n ≤ m.size
  unfolding source_size
  records_inside = omega (arith, c.size, seek_within (is_buffer m) 0 m.size)

  module _ (bad : Bool) (e : bad ≡ any (bad_fanins m) n) where
    pub record_refused : (drivers : List ℕ) → Known m drivers → bad ≡ true → FaninsDecided n m false drivers
    record_refused drivers known t =
        let found = (any_some (bad_fanins m) n).0 (sym e ∙ t) in
        record {
          good = λ u. absurd (true_false true refl (sym u));
          bad = λ u s. true_false _ found.2 (s.fanins found.0 (omega (arith, found.1, records_inside)));
          known = known;
        }

    module _ (b : Bool) (drivers : List ℕ) (l : BuffersDecided n m b drivers) (t : bad ≡ false) where
      -- every record passes 14 and 15
      fanins_good : b ≡ true → (k : ℕ) → k < m.size → bad_fanins m k ≡ false
      unfolding any
      fanins_good u k h =
          elim (dec_lt k n) [
            | yes a ↦ (any_none (bad_fanins m) n).0 (sym e ∙ t) k a
            | no a ↦
                (let good = buffer_good m (m.at k) (l.good u k (omega arith) h) in
                rw good.0 good.1)
          ]

      walkable : b ≡ true → Walkable n m
      walkable u =
          let each : (k j : ℕ) → k < m.size → j < arity (m.at k).kind → bad_fanin m (m.at k) j ≡ false =
          λ k j h a. (any_none (bad_fanin m (m.at k)) (arity (m.at k).kind)).0 (fanins_good u k h) j a in
          record {
            driven = sizes_driven m n all c;
            buffers = λ k a h. (buffer_good m (m.at k) (l.good u k a h)).0;
            named = λ k j h a. (let f = simp reflect at (each k j h a) in f.0.0);
            balanced = λ k j h a. (let f = simp reflect at (each k j h a) in f.1);
          }

      pub fanins_decided : FaninsDecided n m b drivers
      fanins_decided =
          record {
            good = walkable;
            bad = λ u s.
                let found = l.bad u in
                let kind = s.buffers found.0 found.1 found.2 in
                let fanin = (any_none (bad_fanin m (m.at found.0)) (arity (m.at found.0).kind)).0 (s.fanins found.0 found.2) 0 (rw kind (omega arith)) in
                true_false _ found.3 (rw (eq-eqb _ _ kind) fanin);
            known = l.known;
          }

-- a legal mapped netlist passes them
pub legal_passes : (n : Netlist) (caps : Capacities) (m : Netlist) (size : ℕ) → size ≡ n.size → Legal n caps m → FaninsPass size m
legal_passes n caps m size e legal =
    record {
      buffers = λ k a h. (legal.buffers k (omega (arith, e)) h).kind;
      fanins = λ k h. simp reflect (λ j a. ((legal.named k j h a, legal.no_output k j h a), legal.balanced k j h a));
    }
