-- The source of a mapped netlist: what is left of a legal one without its buffers is the source, record by record, so byte by byte; and what
-- is left is a source where the verifier accepts it.
use Prim.Native.Nat.{ℕ, ◌+◌, ◌*◌, ◌≤◌, ◌<◌}
use native.Mathlib.Decide.{dec_lt}
use native.Mathlib.Nat.{zero-add}
use native.Mathlib.Omega.{arith}
use mathlib.Core.Path.{◌≡◌, sym, ap, ◌∙◌}
use mathlib.Core.Logic.{◌≢◌}
use mathlib.Core.List.{List}
use lib.ListN.{length}
use lib.Seq.{ext_get_or}
use borrow.Author.Tests.{eqb-true, lt-ltb, le-ltb, eq-eqb, ne_eqb}
use Rattle.facts.specs.Answers.{Passed}
use Rattle.facts.specs.Bytes.{AreBytes}
use Rattle.facts.specs.Lists.{tabulate}
use Rattle.facts.specs.Sums.{seek}
use Rattle.facts.proofs.Bools.{true_false}
use Rattle.facts.proofs.Lists.{length_tabulate, get_d_tabulate}
use Rattle.facts.proofs.Loops.{Seeking, seek_here, seek_more, seek_end, seek_within, seek_true, seek_before}
use Rattle.netlist.specs.declared.Capacities.{Capacities}
use Rattle.netlist.specs.Kinds.{width, slots, unused, buffer, arity}
use Rattle.netlist.specs.Records.{Netlist, netlist, record_count, record_at, slot, fanin}
use Rattle.netlist.specs.Source.{IsSource}
use Rattle.netlist.specs.Counts.{is_buffer, buffer_count}
use Rattle.netlist.proofs.Source.{no_buffer_lem, kind_byte, inversion_byte}
use Rattle.netlist.proofs.Bytes.{length_recs, encoded_cong, bytes_back, encoded_bytes}
use Rattle.netlist.proofs.Records.{slots_long}
use Rattle.netlist.specs.Bytes.{recs}
use Rattle.verifier.specs.Legal.{Legal}
use Rattle.verifier.specs.Checks.{verify_checks}
use Rattle.verifier.specs.Accepted.{Accepted}
use Rattle.verifier.proofs.Trace.{traces_driver}
use Rattle.verifier.proofs.Accepted.{checks_passed, accepted_exactly}
use Rattle.strip.specs.Sources.{SourceOf}
use Rattle.strip.specs.Answer.{source_size, traced_slot, traced_record, stripped, stripped_bytes}

-- N, as the code finds it
module _ (bytes : List ℕ) (m : ℕ) (c : m ≡ record_count bytes) (k : ℕ) (i : Seeking (is_buffer (netlist bytes)) m k) where
  module _ (h : k < m) (kind : ℕ) (e : kind ≡ (record_at bytes k).kind) where
    pub size_here : kind ≡ buffer → k ≡ source_size (netlist bytes)
    unfolding source_size
    size_here b = rw (← c) (sym (seek_here (is_buffer (netlist bytes)) m k i h (rw (← e) (eq-eqb kind buffer b))))

    pub size_more : kind ≢ buffer → Seeking (is_buffer (netlist bytes)) m (k + 1)
    size_more b = seek_more (is_buffer (netlist bytes)) m k i h (rw (← e) (ne_eqb kind buffer b))

  pub size_end : m ≤ k → m ≡ source_size (netlist bytes)
  unfolding source_size
  size_end h = rw (← c) (sym (seek_end (is_buffer (netlist bytes)) m k i h))

module _ (n : Netlist) (caps : Capacities) (m : Netlist) (source : IsSource n) (legal : Legal n caps m) where
  -- its records stand before the first buffer
  pub size_same : source_size m ≡ n.size
  unfolding source_size
  size_same =
      elim (dec_lt first n.size) [
        | yes l ↦ absurd (no_buffer_lem n source first l (legal.kept first l).kind (eqb-true _ _ (seek_true (is_buffer m) 0 m.size (omega (arith, legal.whole)))))
        | no g ↦ elim (dec_lt n.size first) [
          | yes l ↦
              absurd (true_false (is_buffer m n.size)
              (eq-eqb _ _ (legal.buffers n.size (omega arith) (omega (arith, seek_within (is_buffer m) 0 m.size))).kind)
              (seek_before (is_buffer m) 0 m.size n.size (omega arith) l))
          | no h ↦ omega arith
        ]
      ]
    where
      first : ℕ
      first = seek (is_buffer m) 0 m.size

  module _ (k : ℕ) (l : k < n.size) where
    slot_same : (j : ℕ) → j < slots → traced_slot m (m.at k) j ≡ slot (n.at k) j
    slot_same j h =
        elim (dec_lt j (arity (m.at k).kind)) [
          | yes u ↦
              rw (lt-ltb j (arity (m.at k).kind) u)
              (traces_driver m legal.named legal.balanced (fanin n k j) (fanin m k j) (legal.named k j (omega (arith, legal.whole)) u)
              (legal.traced k j l (rw (← (legal.kept k l).kind) u)))
          | no u ↦
              rw (le-ltb j (arity (m.at k).kind) (omega arith))
              ((legal.kept k l).empty j h (rw (← (legal.kept k l).kind) (omega arith)))
        ]

    -- each is the source's
    record_same : length (n.at k).slots ≡ slots → traced_record m (m.at k) ≡ n.at k
    unfolding traced_record
    record_same long =
        λ i. record {
          kind = (legal.kept k l).kind i;
          inversion = (legal.kept k l).inversion i;
          level = (legal.kept k l).level i;
          slots = same i;
        }
      where
        same : tabulate (traced_slot m (m.at k)) slots ≡ (n.at k).slots
        same =
            ext_get_or unused (tabulate (traced_slot m (m.at k)) slots) (n.at k).slots (length_tabulate (traced_slot m (m.at k)) slots ∙ sym long)
            (λ j h.
            let b : j < slots = rw (length_tabulate (traced_slot m (m.at k)) slots) at h in
            get_d_tabulate (traced_slot m (m.at k)) slots j unused b ∙ slot_same j b)

-- what is left has N records
pub length_left : (mapped : List ℕ) → length (stripped_bytes mapped) ≡ width * source_size (netlist mapped)
unfolding stripped_bytes
length_left mapped = length_recs (stripped (netlist mapped)) 0 (source_size (netlist mapped))

pub count_left : (mapped : List ℕ) → record_count (stripped_bytes mapped) ≡ source_size (netlist mapped)
count_left mapped = omega (arith, length_left mapped)

module _ (caps : Capacities) (mapped : List ℕ) where
  -- what is left of a mapped netlist is its source
  pub stripped_source_lem : (source : List ℕ) → SourceOf caps mapped source → stripped_bytes mapped ≡ source
  unfolding stripped_bytes
  stripped_source_lem source s =
      let a = ((accepted_exactly source caps mapped s.buffers).0 s.accepted).0 in
      let n = netlist source in
      let m = netlist mapped in
      ap (λ (size : ℕ). recs (stripped m) 0 size) (size_same n caps m a.is_source.is_source a.legal)
      ∙ encoded_cong (λ k. (stripped m).at (0 + k)) (λ k. n.at (0 + k)) n.size
      (λ k l. ap (stripped m).at (zero-add k) ∙ record_same n caps m a.is_source.is_source a.legal k l (slots_long source k) ∙ ap n.at (sym (zero-add k)))
      ∙ bytes_back source s.bytes a.is_source.whole

  -- and where the verifier accepts it, it is one
  module _ (passed : verify_checks (stripped_bytes mapped) caps mapped ≡ Passed) where
    left : Accepted (stripped_bytes mapped) caps mapped
    left = (checks_passed (stripped_bytes mapped) caps mapped).0 passed

    left_bytes : AreBytes (stripped_bytes mapped)
    unfolding stripped_bytes traced_record
    left_bytes =
        encoded_bytes (λ k. (stripped (netlist mapped)).at (0 + k)) (source_size (netlist mapped))
        (λ k l.
        let h : 0 + k < record_count (stripped_bytes mapped) = omega (arith, count_left mapped) in
        omega (arith, (left.legal.kept (0 + k) h).kind, kind_byte (netlist (stripped_bytes mapped)) left.is_source.is_source (0 + k) h))
        (λ k l.
        let h : 0 + k < record_count (stripped_bytes mapped) = omega (arith, count_left mapped) in
        omega (arith, (left.legal.kept (0 + k) h).inversion, inversion_byte (netlist (stripped_bytes mapped)) left.is_source.is_source (0 + k) h))

    pub source_left : SourceOf caps mapped (stripped_bytes mapped)
    source_left = record { bytes = left_bytes; buffers = buffer_count (netlist mapped); accepted = rw passed }
