-- The block of a driver is its net: a buffer of its tree traces back to it, and blocks of two drivers share no index.
use Prim.Native.Nat.{ℕ, ◌+◌, ◌-◌, ◌≤◌, ◌<◌}
use native.Mathlib.Decide.{dec_lt}
use native.Mathlib.Omega.{arith}
use mathlib.Core.Path.{◌≡◌, refl, sym, ap, subst, ◌∙◌}
use mathlib.Core.Logic.{◌↔◌}
use mathlib.Core.Bool.{true}
use borrow.Author.Tests.{eqb-true, eq-eqb, lt-leb}
use Rattle.facts.specs.Sums.{sum}
use Rattle.facts.specs.Blocks.{block}
use Rattle.facts.proofs.Bools.{and_l, and_r, and_i}
use Rattle.facts.proofs.Blocks.{block_at}
use Rattle.netlist.specs.declared.Capacities.{Capacities}
use Rattle.netlist.specs.Kinds.{buffer}
use Rattle.netlist.specs.Records.{Netlist, netlist, record_count, fanin}
use Rattle.netlist.specs.Counts.{is_buffer}
use Rattle.netlist.specs.Bytes.{recs}
use Rattle.netlist.proofs.Source.{no_buffer_lem, driver_inside}
use Rattle.netlist.proofs.Balance.{buffer_named_lem}
use Rattle.verifier.specs.Legal.{Traces}
use Rattle.verifier.specs.Trace.{driver}
use Rattle.verifier.specs.Fewest.{on_net}
use Rattle.verifier.proofs.Trace.{traces_driver}
use Rattle.fanout.specs.Nets.{tree_size}
use Rattle.mapper.specs.Mapped.{block_start, mapped_size, buffer_record, mapped}
use Rattle.mapper.specs.PrivateWriting.{Ready}
use Rattle.mapper.proofs.Mapped.{within_tree, placed}
use Rattle.mapper.proofs.Nodes.{pos, kind_kept, parent_traced, buffer_node, at_placed, buffer_kind}
use Rattle.mapper.proofs.Promises.{block_written}
use Rattle.mapper.specs.View.{block_ends}
use Rattle.promises.specs.Block.{BlockExact, BlockShort}
use Rattle.promises.proofs.Ready.{mapped_legal}
use Rattle.promises.proofs.Written.{maps_passed, mapped_from, written_netlist}

module _ (n : Netlist) (caps : Capacities) (r : Ready n caps) where
  -- the fanin of a buffer of d's tree traces back to d
  net_of_lem : (x : ℕ) (l : n.size ≤ x) (u : x < mapped_size n caps) → driver (mapped n caps) (fanin (mapped n caps) x 0) ≡ (placed n caps (pos n caps r) x l u).d
  unfolding buffer_record
  net_of_lem x l u =
      let p = placed n caps (pos n caps r) x l u in
      let legal = mapped_legal n caps r in
      let ends : Traces (mapped n caps) p.d (fanin (mapped n caps) x 0) =
      rw (at_placed n caps r x p)
      (parent_traced n caps r (Traces (mapped n caps) p.d) p.d p.k p.j
      (buffer_node n caps r p.d p.k p.j p.driver p.near p.number)
      (Traces.here refl (no_buffer_lem n r.source p.d p.driver (kind_kept n caps r p.d p.driver)))
      (λ y e t. Traces.back e t)) in
      traces_driver (mapped n caps) legal.named legal.balanced p.d (fanin (mapped n caps) x 0)
      (buffer_named_lem (mapped n caps) legal.named x u (buffer_kind n caps r x l u))
      ends

  -- the driver whose block an index lies in
  block_of : (d x : ℕ) → d < n.size → block_start n caps d ≤ x → x < block_start n caps d + tree_size n caps d → block (tree_size n caps) (x - n.size) n.size ≡ d
  block_of d x l a b =
      let e : x - n.size ≡ sum (tree_size n caps) d + (x - block_start n caps d) = omega arith in
      rw e (block_at (tree_size n caps) n.size d (x - block_start n caps d) l (omega arith))

  pub net_block : (d x : ℕ) → d < n.size → x < mapped_size n caps →
      (on_net (mapped n caps) d x ≡ true) ↔ ((block_start n caps d ≤ x) × (x < block_start n caps d + tree_size n caps d))
  net_block d x l u = (inside, outside)
    where
      inside : on_net (mapped n caps) d x ≡ true → (block_start n caps d ≤ x) × (x < block_start n caps d + tree_size n caps d)
      inside e =
          elim (dec_lt x n.size) [
            | yes a ↦ absurd (no_buffer_lem n r.source x a (kind_kept n caps r x a) (eqb-true _ buffer (and_l (is_buffer (mapped n caps) x) _ e)))
            | no a ↦
                let p = placed n caps (pos n caps r) x (omega arith) u in
                let same : p.d ≡ d = sym (net_of_lem x (omega arith) u) ∙ eqb-true _ d (and_r (is_buffer (mapped n caps) x) _ e) in
                subst (λ (y : ℕ). (block_start n caps y ≤ x) × (x < block_start n caps y + tree_size n caps y)) same
                (omega (arith, p.index), omega (arith, p.index, within_tree n caps (pos n caps r) p.d p.k p.j p.near p.number))
          ]

      outside : (block_start n caps d ≤ x) × (x < block_start n caps d + tree_size n caps d) → on_net (mapped n caps) d x ≡ true
      outside h =
          let a : n.size ≤ x = omega (arith, h.0) in
          let p = placed n caps (pos n caps r) x a u in
          let mine : block (tree_size n caps) (x - n.size) n.size ≡ p.d =
          block_of p.d x p.driver (omega (arith, p.index)) (omega (arith, p.index, within_tree n caps (pos n caps r) p.d p.k p.j p.near p.number)) in
          let same : p.d ≡ d = sym mine ∙ block_of d x l h.0 h.1 in
          and_i (is_buffer (mapped n caps) x) _ (eq-eqb _ buffer (buffer_kind n caps r x a u)) (eq-eqb _ d (net_of_lem x a u ∙ same))

pub block_exact : BlockExact
block_exact source caps list area d maps drives =
    let e = written_netlist source caps list area maps in
    let r = (mapped_from source caps list area maps).ready in
    record {
      holds =
          block_written source caps list area d (maps_passed source caps list area maps) drives
          ∙ ap (λ (m : Netlist). recs m (block_start (netlist source) caps d) (tree_size (netlist source) caps d)) (sym e);
      exactly =
          subst
          (λ (m : Netlist). (x : ℕ) → x < m.size →
          (on_net m d x ≡ true)
          ↔ ((block_start (netlist source) caps d ≤ x) × (x < block_start (netlist source) caps d + tree_size (netlist source) caps d)))
          (sym e)
          (λ x u. net_block (netlist source) caps r d x (driver_inside source d drives) u);
    }

pub block_short : BlockShort
block_short source caps mapped d h = rw (lt-leb (block_ends source caps d).to (record_count mapped) h)
