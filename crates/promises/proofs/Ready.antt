-- What the mapper makes of a source that passes 1, 26 and 2 to 9 is legal, with the fewest buffers of all nets.
use Prim.Native.Nat.{ℕ, ◌≤◌, ◌<◌}
use native.Mathlib.Decide.{dec_lt}
use native.Mathlib.Omega.{arith}
use mathlib.Core.Path.{◌≡◌, refl, sym, subst}
use borrow.Author.Tests.{eq-eqb}
use Rattle.netlist.specs.declared.Capacities.{Capacities}
use Rattle.netlist.specs.Kinds.{buffer, arity}
use Rattle.netlist.specs.Records.{Netlist, fanin, feeds}
use Rattle.netlist.specs.Capacities.{capacity_of}
use Rattle.netlist.specs.Counts.{buffer_count}
use Rattle.netlist.proofs.Source.{no_buffer_lem}
use Rattle.verifier.specs.Legal.{Legal, Kept, Traces}
use Rattle.mapper.specs.Mapped.{mapped_size, mapped_at, mapped}
use Rattle.mapper.specs.PrivateWriting.{Ready}
use Rattle.fanout.specs.Nets.{fewest_in_all}
use Rattle.mapper.proofs.Mapped.{placed}
use Rattle.mapper.proofs.Nodes.{pos, kind_kept, inversion_kept, level_kept, slot_kept, named, no_output_lem, balanced, traced, buffer_kind, buffer_inversion, buffer_low, buffer_empty}
use Rattle.mapper.proofs.Feeds.{driver_branches, buffer_branches, buffer_count_lem}

module _ (n : Netlist) (caps : Capacities) (r : Ready n caps) where
  kept : (k : ℕ) → k < n.size → Kept (n.at k) (mapped_at n caps k)
  kept k l =
      record {
        kind = kind_kept n caps r k l;
        inversion = inversion_kept n caps r k l;
        level = level_kept n caps r k l;
        empty = λ j a b. slot_kept n caps r k j l b a;
      }

  fanin_end : (i j : ℕ) → i < n.size → j < arity (n.at i).kind → Traces (mapped n caps) (fanin n i j) (fanin n i j)
  fanin_end i j l a =
      let b : fanin n i j < n.size = omega (arith, r.source.earlier i j l a) in
      Traces.here refl (no_buffer_lem n r.source (fanin n i j) b (kind_kept n caps r (fanin n i j) b))

  branched : (k : ℕ) → k < mapped_size n caps → feeds (mapped n caps) k ≤ capacity_of caps (mapped_at n caps k).kind
  branched k l =
      elim (dec_lt k n.size) [
        | yes a ↦ rw (kind_kept n caps r k a) (driver_branches n caps r k a)
        | no a ↦
            let p = placed n caps (pos n caps r) k (omega arith) l in
            rw (eq-eqb (mapped_at n caps k).kind buffer (buffer_kind n caps r k (omega arith) l))
            (subst (λ (x : ℕ). feeds (mapped n caps) x ≤ caps.buffer) (sym p.index) (buffer_branches n caps r p.d p.k p.j p.driver p.near p.number))
      ]

  pub mapped_legal : Legal n caps (mapped n caps)
  mapped_legal =
      record {
        whole = omega arith;
        kept = kept;
        buffers = λ k a l.
            record {
              kind = buffer_kind n caps r k a l;
              inversion = buffer_inversion n caps r k a l;
              level = buffer_low n caps r k a l;
              empty = λ j b c. buffer_empty n caps r k j a l c;
            };
        named = named n caps r;
        no_output = no_output_lem n caps r;
        balanced = balanced n caps r;
        traced = λ k j l a. traced n caps r (Traces (mapped n caps) (fanin n k j)) k j l a (fanin_end k j l a) (λ x e t. Traces.back e t);
        branched = branched;
      }

  pub mapped_fewest : buffer_count (mapped n caps) ≡ fewest_in_all n caps
  unfolding buffer_count
  mapped_fewest = buffer_count_lem n caps r
