-- Laws of loops that write an area from the front: what is written so far, then the rest as it was.
use Prim.Native.Nat.{ℕ, suc, ◌+◌, ◌*◌, ◌-◌, ◌<◌, ◌≤◌}
use mathlib.Core.Path.{◌≡◌, refl, sym, ◌∙◌, ap}
use mathlib.Core.Bool.{Bool, false, not}
use mathlib.Core.List.{List, [], ◌∷◌, ◌++◌, append_assoc}
use native.Mathlib.Omega.{arith}
use native.Mathlib.Nat.{add-sub_of_le, add-suc, add-zero, sub_self}
use native.Mathlib.Numerals.{add-one}
use native.Mathlib.Decide.{dec_lt}
use lib.ListN.{length, get_or, take, drop, set, length-set, length-drop, get_or-eq_default, get_or-append}
use Rattle.std.proofs.Common.{get_or-drop}
use lib.Seq.{take_all, drop_at, get_or-take, length-take-le}
use lib.Dec.{eqb}
use Rattle.std.specs.Int.{from_bool}
use Rattle.facts.specs.Sums.{bit, sum, count}
use Rattle.facts.proofs.Sums.{bit_le, on_bit}
use Rattle.facts.proofs.Areas.{Written, take_written, drop_written, written_more, written_none, written_all, written_part}
use Rattle.facts.proofs.Lists.{get_d_tabulate, tabulate_cong, tabulate_append}
use Rattle.netlist.specs.Kinds.{input}
use Rattle.netlist.specs.declared.Record.{Record}
use Rattle.netlist.specs.Records.{Netlist, netlist, record_at, record_count, slot, fanin}
use Rattle.simulator.specs.Logic.{on, next, values}
use Rattle.simulator.specs.PrivateLogic.{value_in, Wired}
use Rattle.netlist.specs.Source.{IsSource}
use Rattle.netlist.specs.Balance.{Named}
use Rattle.netlist.specs.Counts.{is_input}
use Rattle.simulator.specs.Step.{renewed_below, older, stepped}
use Rattle.simulator.specs.PrivateStep.{Buffered, copied}
use Rattle.simulator.proofs.Logic.{next_cong}
use Rattle.simulator.proofs.Steps.{length_below, length_older}
use Rattle.simulator.proofs.Waves.{next_buffer}
use Rattle.facts.proofs.Chains.{one_bit}

-- the first m bytes of old are kept in the next m, up to byte i
pub record Keeping (m : ℕ) (area old : List ℕ) (i : ℕ) : Type 0 where
  pub whole : length old ≡ 2 * m
  pub same : length area ≡ length old
  pub so_far : Written (take m old ++ older i old) (m + i) area old

module _ (m : ℕ) (old : List ℕ) where
  pub keeping_start : length old ≡ 2 * m → Keeping m old old 0
  unfolding older
  keeping_start e =
      record { whole = e; same = refl; so_far = written_part m old (omega arith) }

  -- the first half is not written
  first_half : (area : List ℕ) (i : ℕ) → Keeping m area old i → i < m → on area i ≡ on old i
  first_half area i k h =
      rw (
        k.so_far.parts,
        get_or-append (take m old ++ older i old) (drop (m + i) old) 0 i (omega (arith, k.so_far.long)),
        get_or-append (take m old) (older i old) 0 i (omega (arith, length-take-le m old (omega (arith, k.whole)))),
        get_or-take m old i 0 h,
      )

  pub keeping_more : (area : List ℕ) (i b : ℕ) → Keeping m area old i → i < m → b ≡ from_bool (not (eqb (get_or area i 0) 0)) → Keeping m (set area (m + i) b) old (i + 1)
  unfolding older
  keeping_more area i b k h f =
      let value : b ≡ bit (on old i) = f ∙ one_bit (on area i) ∙ ap bit (first_half area i k h) in
      record {
        whole = k.whole;
        same = length-set area (m + i) b ∙ k.same;
        so_far =
            rw (add-one i, add-suc m i, ← append_assoc (take m old) (older i old), ← value)
            (written_more _ (m + i) b area old k.so_far (omega (arith, k.whole)));
      }

  pub keeping_end : (area : List ℕ) (i : ℕ) → Keeping m area old i → i ≤ m → m ≤ i → area ≡ take m old ++ older m old
  keeping_end area i k l h =
      let e : i ≡ m = omega arith in
      written_all _ (m + i) area old k.so_far (omega (arith, k.whole))
      ∙ ap (λ (n : ℕ). take m old ++ older n old) e

-- a state area's second half
length_half : (m : ℕ) (area old : List ℕ) → length area ≡ length old → length old ≡ 2 * m → length (take (length area - m) (drop m area)) ≡ m
length_half m area old e w =
    ap length (take_all (length area - m) (drop m area) (simp length-drop (omega arith))) ∙ simp length-drop (omega arith)

-- the first i of n records of a netlist are passed: their new bytes are written and their inputs counted
pub record Passing (bytes : List ℕ) (n : ℕ) (new : List ℕ) (given i : ℕ) (area old : List ℕ) : Type 0 where
  pub few : given ≤ i
  pub inputs : given ≡ count (is_input (netlist bytes)) i
  pub room : n ≤ length old
  pub same : length area ≡ length old
  pub so_far : Written new i area old

module _ (bytes : List ℕ) (n : ℕ) (old : List ℕ) where
  passing_start : n ≤ length old → Passing bytes n [] 0 0 old old
  unfolding count sum
  passing_start h =
      record {
        few = omega arith;
        inputs = refl;
        room = h;
        same = refl;
        so_far = written_none old;
      }

  module _ (given i : ℕ) (row held new area : List ℕ) (r : Record) (b one : ℕ) (p : Passing bytes n new given i area old) (h : i < n)
      (is : r ≡ record_at bytes i) (byte : b ≡ bit (value_in r (on row given) held)) (more : one ≡ from_bool (eqb r.kind input)) where
    right : b ≡ bit (next (netlist bytes) row (on held) i)
    unfolding next value_in
    right = rw (byte, p.inputs, is)

    passing_more : Passing bytes n (new ++ (bit (next (netlist bytes) row (on held) i) ∷ [])) (given + one) (suc i) (set area i b) old
    unfolding count sum
    passing_more =
        let counted : one ≡ bit (eqb r.kind input) = more ∙ one_bit (eqb r.kind input) in
        record {
          few = omega (arith, p.few, bit_le (eqb r.kind input));
          inputs = rw (← is) (omega (arith, p.inputs));
          room = p.room;
          same = length-set area i b ∙ p.same;
          so_far = rw (← right) (written_more new i b area old p.so_far (omega (arith, p.room)));
        }

-- plain logic's values, written by rising index
module _ (bytes row : List ℕ) (n : ℕ) (old : List ℕ) where
  pub filling_start : length old ≡ n → Passing bytes n (values (netlist bytes) row 0) 0 0 old old
  unfolding values
  filling_start h = passing_start bytes n old (omega arith)

  pub filling_more : (given i : ℕ) (area : List ℕ) (r : Record) (b one : ℕ) →
      Passing bytes n (values (netlist bytes) row i) given i area old → i < n → r ≡ record_at bytes i →
      b ≡ bit (value_in r (on row given) (take i area)) → one ≡ from_bool (eqb r.kind input) →
      Passing bytes n (values (netlist bytes) row (i + 1)) (given + one) (i + 1) (set area i b) old
  unfolding values
  filling_more given i area r b one p h is byte more =
      rw (add-one i)
      (passing_more bytes n old given i row (values (netlist bytes) row i) _ area r b one p h is (rw (take_written _ i area old p.so_far) at byte) more)

  -- a source's slots name what is written
  pub filling_wired : (given i : ℕ) (area : List ℕ) (r : Record) → IsSource (netlist bytes) → n ≡ record_count bytes →
      Passing bytes n (values (netlist bytes) row i) given i area old → i < n → r ≡ record_at bytes i → Wired r (length (take i area))
  filling_wired given i area r s e p h is =
      rw is (record {
        below = λ j u.
            rw (length-take-le i area (omega (arith, p.room, p.same)))
            (s.earlier i j (omega arith) u);
      })

  pub filling_end : (given i : ℕ) (area : List ℕ) → Passing bytes n (values (netlist bytes) row i) given i area old → i ≤ n → n ≤ i → length old ≡ n →
      area ≡ values (netlist bytes) row n
  filling_end given i area p l h e =
      let q : i ≡ n = omega arith in
      written_all _ i area old p.so_far (omega arith) ∙ ap (values (netlist bytes) row) q

-- new values, written over the first half from what the second half holds
module _ (bytes row : List ℕ) (n m : ℕ) (old : List ℕ) (buffered : Buffered bytes n) (records : m ≡ record_count bytes) where
  within : n ≤ m
  within = omega (arith, buffered.within, records)

  pub renewing_start : length old ≡ 2 * m → Passing bytes n (renewed_below (netlist bytes) row (drop m old) 0) 0 0 old old
  unfolding renewed_below
  renewing_start h = passing_start bytes n old (omega (arith, within))

  pub renewing_more : (given i : ℕ) (area : List ℕ) (r : Record) (b one : ℕ) →
      Passing bytes n (renewed_below (netlist bytes) row (drop m old) i) given i area old → i < n → r ≡ record_at bytes i →
      b ≡ bit (value_in r (on row given) (take (length area - m) (drop m area))) → one ≡ from_bool (eqb r.kind input) →
      Passing bytes n (renewed_below (netlist bytes) row (drop m old) (i + 1)) (given + one) (i + 1) (set area i b) old
  unfolding renewed_below
  renewing_more given i area r b one p h is byte more =
      let t : take (length area - m) (drop m area) ≡ drop m old =
      take_all (length area - m) (drop m area) (simp length-drop (omega arith))
      ∙ drop_written _ i m area old p.so_far (omega (arith, within))
      in
      rw (add-one i)
      (passing_more bytes n old given i row (drop m old) _ area r b one p h is (rw t at byte) more)

  -- a mapped netlist's slots name what the second half holds
  pub renewing_wired : (given i : ℕ) (area : List ℕ) (r : Record) → Named (netlist bytes) →
      Passing bytes n (renewed_below (netlist bytes) row (drop m old) i) given i area old → length old ≡ 2 * m → i < n → r ≡ record_at bytes i →
      Wired r (length (take (length area - m) (drop m area)))
  renewing_wired given i area r s p w h is =
      rw is (record {
        below = λ j u.
            rw (length_half m area old p.same w) (rw (← records) at (s i j (omega (arith, within, records)) u));
      })

  pub renewing_end : (given i : ℕ) (area : List ℕ) → Passing bytes n (renewed_below (netlist bytes) row (drop m old) i) given i area old → i ≤ n → n ≤ i →
      area ≡ renewed_below (netlist bytes) row (drop m old) n ++ drop n old
  renewing_end given i area p l h =
      let e : i ≡ n = omega arith in
      p.so_far.parts ∙ ap (λ (k : ℕ). renewed_below (netlist bytes) row (drop m old) k ++ drop k old) e

-- the records from n up to k have copied
pub record Copying (mapped : List ℕ) (n m k : ℕ) (area old : List ℕ) : Type 0 where
  pub buffered : Buffered mapped n
  pub records : m ≡ record_count mapped
  pub whole : length old ≡ 2 * m
  pub same : length area ≡ length old
  pub so_far : Written (take n old ++ copied mapped (drop m old) n (k - n)) k area old

module _ (mapped : List ℕ) (n m : ℕ) (old : List ℕ) where
  pub copying_start : Buffered mapped n → m ≡ record_count mapped → length old ≡ 2 * m → Copying mapped n m n old old
  unfolding copied
  copying_start s e h =
      record {
        buffered = s;
        records = e;
        whole = h;
        same = refl;
        so_far =
            rw (sub_self n) (rw (add-zero n) at (written_part n old (omega (arith, s.within))));
      }

  module _ (k : ℕ) (area : List ℕ) (c : Copying mapped n m k area old) where
    pub copying_more : (r : Record) (s x : ℕ) → n ≤ k → k < m → r ≡ record_at mapped k → s ≡ slot r 0 → x ≡ s →
        Copying mapped n m (k + 1) (set area k (get_or area (m + x) 0)) old
    unfolding copied
    copying_more r s x g h e f q =
        record {
          buffered = c.buffered;
          records = c.records;
          whole = c.whole;
          same = length-set area k _ ∙ c.same;
          so_far =
              rw (add-one k, next, ← append_assoc (take n old) (copied mapped (drop m old) n (k - n)), ← right)
              (written_more _ k (get_or area (m + x) 0) area old c.so_far (omega (arith, c.whole)));
        }
      where
        next : suc k - n ≡ suc (k - n)
        next = omega arith

        here : n + (k - n) ≡ k
        here = omega arith

        right : get_or area (m + x) 0 ≡ get_or (drop m old) (slot (record_at mapped (n + (k - n))) 0) 0
        right =
            rw (here, ← e, ← f, ← q, ← drop_written _ k m area old c.so_far (omega arith))
            (sym (get_or-drop m area x 0))

    pub copying_end : (n ≤ m → k ≤ m) → m ≤ k → area ≡ (take n old ++ copied mapped (drop m old) n (m - n)) ++ drop m old
    copying_end l h =
        let e : k ≡ m = omega (arith, l (omega (arith, c.buffered.within, c.records))) in
        c.so_far.parts ∙ ap (λ (i : ℕ). (take n old ++ copied mapped (drop m old) n (i - n)) ++ drop i old) e

-- values kept as 0 or 1 stand for what the bytes stood for
on_older : (m : ℕ) (area : List ℕ) (i : ℕ) → m ≤ length area → on (older m area) i ≡ on (take m area) i
unfolding older
on_older m area i h =
    elim (dec_lt i m) [
      | yes l ↦ rw (get_d_tabulate (λ i. bit (on area i)) m i 0 l, get_or-take m area i 0 l) (on_bit (on area i))
      | no l ↦
          rw (
            get_or-eq_default (older m area) 0 {n = i} (omega (arith, length_older m area)),
            get_or-eq_default (take m area) 0 {n = i} (omega (arith, length-take-le m area h)),
          )
    ]

renewed_cong : (m : Netlist) (row : List ℕ) (n : ℕ) (a b : List ℕ) → ((i : ℕ) → on a i ≡ on b i) → renewed_below m row a n ≡ renewed_below m row b n
unfolding renewed_below
renewed_cong m row n a b h =
    tabulate_cong _ _ n (λ i l. ap bit (next_cong m row (on a) (on b) i (λ j k. h (fanin m i j))))

-- a byte of kept values is its value
older_bit : (m : ℕ) (area : List ℕ) (i : ℕ) → get_or (older m area) i 0 ≡ bit (on (older m area) i)
unfolding older
older_bit m area i =
    elim (dec_lt i m) [
      | yes l ↦ is (on area i) (get_d_tabulate (λ i. bit (on area i)) m i 0 l)
      | no l ↦ is false (get_or-eq_default (older m area) 0 (omega (arith, length_older m area)))
    ]
  where
    is : (v : Bool) → get_or (older m area) i 0 ≡ bit v → get_or (older m area) i 0 ≡ bit (on (older m area) i)
    is v e = e ∙ ap bit (sym (on_bit v) ∙ ap (λ (x : ℕ). not (eqb x 0)) (sym e))

-- what buffers copy are their new values
renewed_copied : (mapped row : List ℕ) (n k : ℕ) (area : List ℕ) → Buffered mapped n → n + k ≡ record_count mapped →
    renewed_below (netlist mapped) row (older (n + k) area) (n + k)
    ≡ renewed_below (netlist mapped) row (older (n + k) area) n ++ copied mapped (older (n + k) area) n k
unfolding renewed_below copied
renewed_copied mapped row n k area s e =
    tabulate_append _ n k
    ∙ ap (λ (l : List ℕ). renewed_below (netlist mapped) row (older (n + k) area) n ++ l)
    (tabulate_cong _ _ k (λ j l.
    ap bit
    (next_buffer (netlist mapped) row _ (n + j)
    (s.kind (n + j) (omega arith) (omega arith))
    (s.inversion (n + j) (omega arith) (omega arith)))
    ∙ sym (older_bit (n + k) area (slot (record_at mapped (n + j)) 0))))

-- the three loops together are one step
pub stepped_in_place : (mapped row : List ℕ) (n m : ℕ) (old kept new area : List ℕ) → Buffered mapped n → m ≡ record_count mapped → length old ≡ 2 * m →
    kept ≡ take m old ++ older m old → new ≡ renewed_below (netlist mapped) row (drop m kept) n ++ drop n kept →
    area ≡ (take n new ++ copied mapped (drop m new) n (m - n)) ++ drop m new → area ≡ stepped (netlist mapped) row old
unfolding stepped
stepped_in_place mapped row n m old kept new area s e h p q r =
    rw (r, take_written _ n new kept w, drop_written _ n m new kept w fits, second, ← joined, same, e)
  where
    fits : n ≤ m
    fits = omega (arith, s.within)

    w : Written (renewed_below (netlist mapped) row (drop m kept) n) n new kept
    w = record { long = length_below (netlist mapped) row (drop m kept) n; parts = q }

    second : drop m kept ≡ older m old
    second = ap (drop m) p ∙ drop_at (take m old) (older m old) m (length-take-le m old (omega arith))

    joined :
        renewed_below (netlist mapped) row (older m old) m
        ≡ renewed_below (netlist mapped) row (older m old) n ++ copied mapped (older m old) n (m - n)
    joined =
        rw (add-sub_of_le fits) at (renewed_copied mapped row n (m - n) old s (omega arith))

    same : renewed_below (netlist mapped) row (older m old) m ≡ renewed_below (netlist mapped) row (take m old) m
    same = renewed_cong (netlist mapped) row m (older m old) (take m old) (λ i. on_older m old i (omega arith))
