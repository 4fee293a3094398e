-- Laws of the whole area: the source's records as written are the mapped netlist's, and with the buffers behind them they are all of it.
use Prim.Native.Nat.{ℕ, ◌+◌, ◌*◌, ◌≤◌, ◌<◌, ◌/◌, ◌%◌}
use mathlib.Core.Path.{◌≡◌, refl, sym, ◌∙◌, ap, ap₂}
use mathlib.Core.Bool.{Bool, true, false, cond}
use mathlib.Core.List.{List}
use native.Mathlib.Omega.{arith}
use native.Mathlib.Nat.{zero-add}
use lib.ListN.{length, get_or}
use borrow.Author.Tests.{ltb-true, ltb-false}
use Rattle.netlist.specs.declared.Capacities.{Capacities}
use Rattle.netlist.specs.declared.Record.{Record}
use Rattle.netlist.specs.Kinds.{width, slots}
use Rattle.facts.specs.Areas.{put, onto}
use Rattle.facts.proofs.Lists.{tabulate_cong}
use Rattle.netlist.specs.Records.{netlist, used, fanin}
use Rattle.netlist.specs.Bytes.{encoded, bytes_of}
use Rattle.netlist.specs.PrivateBytes.{with_records}
use Rattle.netlist.proofs.Bytes.{records_all, encoded_cong}
use Rattle.fanout.specs.Nets.{fewest_in_all}
use Rattle.mapper.specs.Mapped.{mapped_size, sink_parent, rewired, mapped_at, mapped}
use Rattle.mapper.specs.PrivateWriting.{Ready, ParentsSet, relinked_at}
use Rattle.mapper.proofs.Mapped.{at_source}
use Rattle.mapper.proofs.Nodes.{pos}

-- a record with other slots
abbrev with_slots : Record → List ℕ → Record
with_slots r slots = record { kind = r.kind; inversion = r.inversion; level = r.level; slots = slots }

module _ (bytes : List ℕ) (caps : Capacities) (first parents : List ℕ) (end : ℕ) (r : Ready (netlist bytes) caps)
    (h : ParentsSet (netlist bytes) caps first parents (netlist bytes).size end) where
  -- a slot as written is the slot of the mapped netlist
  new_slot : (i j : ℕ) → i < (netlist bytes).size → j < slots →
      get_or parents (slots * i + j) 0 ≡ cond (used (netlist bytes) i j) (sink_parent (netlist bytes) caps i j) (fanin (netlist bytes) i j)
  new_slot i j l b = go (used (netlist bytes) i j) refl
    where
      record_of : (slots * i + j) / slots ≡ i
      record_of = omega arith

      slot_of : (slots * i + j) % slots ≡ j
      slot_of = omega arith

      go : (u : Bool) → used (netlist bytes) i j ≡ u →
          get_or parents (slots * i + j) 0 ≡ cond u (sink_parent (netlist bytes) caps i j) (fanin (netlist bytes) i j)
      go false e =
          h.chained.rest (slots * i + j) (omega arith) (ap₂ (used (netlist bytes)) record_of slot_of ∙ e)
          ∙ sym (r.source.empty i j l (ltb-false j _ e) b)
      go true e =
          h.at (slots * i + j) (omega arith) (ap₂ (used (netlist bytes)) record_of slot_of ∙ e)
          (omega (arith, r.source.earlier i j l (ltb-true j _ e), ap₂ (fanin (netlist bytes)) record_of slot_of))
          ∙ ap₂ (sink_parent (netlist bytes) caps) record_of slot_of

  new_record : (i : ℕ) → i < (netlist bytes).size → relinked_at bytes parents i ≡ mapped_at (netlist bytes) caps i
  unfolding relinked_at rewired
  new_record i l =
      ap (with_slots ((netlist bytes).at i)) (tabulate_cong _ _ slots (λ j b. new_slot i j l b))
      ∙ sym (at_source (netlist bytes) caps (pos (netlist bytes) caps r) i l)

  -- buffers, then the source's records: all of the mapped netlist
  pub whole_area : (area₀ area₁ area : List ℕ) → width * mapped_size (netlist bytes) caps ≤ length area₀ →
      area₁ ≡ with_records (mapped (netlist bytes) caps) (netlist bytes).size (fewest_in_all (netlist bytes) caps) area₀ →
      area ≡ put area₁ 0 (encoded (relinked_at bytes parents) (netlist bytes).size) → area ≡ onto (bytes_of (mapped (netlist bytes) caps)) area₀
  whole_area area₀ area₁ area room f g =
      g
      ∙ ap (put area₁ 0) (encoded_cong _ _ (netlist bytes).size (λ i l. rw (zero-add i) (new_record i l)))
      ∙ ap (with_records (mapped (netlist bytes) caps) 0 (netlist bytes).size) f
      ∙ records_all (mapped (netlist bytes) caps) (netlist bytes).size (fewest_in_all (netlist bytes) caps) area₀ (omega arith) refl
