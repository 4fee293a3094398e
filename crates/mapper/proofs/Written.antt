-- The bytes of the mapped netlist hold it: its fields fit, and what is read of the bytes is the mapped netlist.
use Prim.Native.Nat.{ℕ, ◌≤◌, ◌<◌}
use mathlib.Core.Path.{◌≡◌, refl, ◌∙◌, subst}
use native.Mathlib.Omega.{arith}
use native.Mathlib.Decide.{dec_lt}
use lib.ListN.{length, get_or-eq_default}
use Rattle.netlist.specs.declared.Capacities.{Capacities}
use Rattle.netlist.specs.Kinds.{slots, unused, arity}
use Rattle.netlist.specs.Records.{Netlist, netlist, slot}
use Rattle.netlist.specs.Bytes.{bytes_of}
use Rattle.netlist.specs.PrivateBytes.{Fits}
use Rattle.netlist.proofs.Source.{kind_byte, inversion_byte}
use Rattle.netlist.proofs.Bytes.{netlist_bytes}
use Rattle.mapper.specs.Mapped.{mapped_size, buffer_record, rewired, mapped_at, mapped}
use Rattle.mapper.specs.PrivateWriting.{Ready}
use Rattle.mapper.proofs.Mapped.{at_source, at_end, placed}
use Rattle.mapper.proofs.Nodes.{pos, kind_kept, inversion_kept, level_kept, slot_kept, named, at_placed, buffer_kind, buffer_inversion, buffer_low, buffer_empty}

module _ (n : Netlist) (caps : Capacities) (r : Ready n caps) where
  slots_wide : (i : ℕ) → i < mapped_size n caps → length (mapped_at n caps i).slots ≡ slots
  unfolding rewired buffer_record
  slots_wide i l =
      elim (dec_lt i n.size) [
        | yes h ↦ (rw (at_source n caps (pos n caps r) i h) refl)
        | no h ↦ (rw (at_placed n caps r i (placed n caps (pos n caps r) i (omega arith) l)) refl)
      ]

  slot_fits : (i j : ℕ) → i < mapped_size n caps → slot (mapped_at n caps i) j < 65536
  slot_fits i j l =
      elim (dec_lt j (arity (mapped_at n caps i).kind)) [
        | yes h ↦ omega (arith, named n caps r i j l h, r.fits)
        | no h ↦
            elim (dec_lt j slots) [
              | yes w ↦ omega (arith, empty (omega arith) w)
              | no w ↦ omega (arith, get_or-eq_default (mapped_at n caps i).slots unused {n = j} (omega (arith, slots_wide i l)))
            ]
      ]
    where
      empty : arity (mapped_at n caps i).kind ≤ j → j < slots → slot (mapped_at n caps i) j ≡ unused
      empty a w =
          elim (dec_lt i n.size) [
            | yes h ↦
                (let a' : arity (n.at i).kind ≤ j = subst (λ (k : ℕ). arity k ≤ j) (kind_kept n caps r i h) a in
                slot_kept n caps r i j h a' w ∙ r.source.empty i j h a' w)
            | no h ↦ buffer_empty n caps r i j (omega arith) l (subst (λ (k : ℕ). arity k ≤ j) (buffer_kind n caps r i (omega arith) l) a)
          ]

  -- every field fits its bytes
  pub mapped_fits : (i : ℕ) → i < mapped_size n caps → Fits (mapped_at n caps i)
  mapped_fits i l =
      elim (dec_lt i n.size) [
        | yes h ↦
            record {
              kind = omega (arith, kind_kept n caps r i h, kind_byte n r.source i h);
              inversion = omega (arith, inversion_kept n caps r i h, inversion_byte n r.source i h);
              level = omega (arith, level_kept n caps r i h, r.source.levels i h);
              slots = λ j. slot_fits i j l;
              all = slots_wide i l;
            }
        | no h ↦
            record {
              kind = omega (arith, buffer_kind n caps r i (omega arith) l);
              inversion = omega (arith, buffer_inversion n caps r i (omega arith) l);
              level = omega (arith, buffer_low n caps r i (omega arith) l);
              slots = λ j. slot_fits i j l;
              all = slots_wide i l;
            }
      ]

  -- what is read of the bytes is the mapped netlist
  pub mapped_read : netlist (bytes_of (mapped n caps)) ≡ mapped n caps
  mapped_read = netlist_bytes (mapped n caps) mapped_fits (at_end n caps (pos n caps r))
