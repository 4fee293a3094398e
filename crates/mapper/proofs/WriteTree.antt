-- Laws of writing one tree: the buffers at distances below k are written.
use Prim.Native.Nat.{ℕ, zero, suc, ◌+◌, ◌-◌, ◌*◌, ◌≤◌, ◌<◌}
use mathlib.Core.Path.{◌≡◌, refl, sym, ◌∙◌, ap}
use mathlib.Core.List.{List}
use native.Mathlib.Omega.{arith}
use native.Mathlib.Nat.{zero-div}
use native.Mathlib.Numerals.{add-one}
use native.Mathlib.Decide.{ℕ_discrete}
use mir.Val.{Fits}
use mir.Syntax.{w16, w64}
use lib.ListN.{length, get_or, set, length-set}
use lib.Seq.{get_or-set_same, get_or-set_other}
use Rattle.facts.specs.Sums.{sum}
use Rattle.facts.specs.Areas.{put}
use Rattle.facts.proofs.Sums.{sum_last, sum_none, sum_append, sum_more}
use Rattle.netlist.specs.declared.Capacities.{Capacities}
use Rattle.netlist.specs.Kinds.{width, top_level}
use Rattle.netlist.specs.Records.{Netlist}
use Rattle.netlist.specs.Bytes.{encoded, recs}
use Rattle.netlist.specs.PrivateBytes.{with_records}
use Rattle.netlist.proofs.Bytes.{encoded_cong, records_none, records_more, records_length}
use Rattle.fanout.specs.Nets.{up, tree_size}
use Rattle.fanout.proofs.Nets.{up_zero}
use Rattle.mapper.specs.Mapped.{buffers_of, block_start, mapped_size, place, parent, buffer_of, buffer_record, mapped_at, mapped}
use Rattle.mapper.specs.PrivateWriting.{Ready, behind, level_record, CountedNet}
use Rattle.facts.proofs.Blocks.{block_before}
use Rattle.mapper.proofs.Mapped.{tree_sum, at_place}
use Rattle.mapper.proofs.Nodes.{pos}

-- what node q hangs on, from what the first node of its distance hangs on
pub parent_from : (n : Netlist) (caps : Capacities) (d k q : ℕ) → parent n caps d k q ≡ parent n caps d k 0 + behind caps.buffer k q
unfolding parent behind
parent_from n caps d zero q = omega arith
parent_from n caps d (suc zero) q = omega arith
parent_from n caps d (suc (suc k)) q = omega (arith, zero-div caps.buffer)

module _ (n : Netlist) (caps : Capacities) (r : Ready n caps) where
  -- the buffers of a distance
  level_records : (d k : ℕ) → d < n.size → k ≤ top_level →
      encoded (level_record caps.buffer k ((n.at d).level + k) (parent n caps d k 0)) (buffers_of n caps d k) ≡ recs (mapped n caps) (place n caps d k 0) (buffers_of n caps d k)
  unfolding level_record buffer_record
  level_records d k ld l =
      encoded_cong _ _ (buffers_of n caps d k)
      (λ j b.
      ap (buffer_of ((n.at d).level + k)) (sym (parent_from n caps d k j))
      ∙ sym (at_place n caps (pos n caps r) d k j ld l b)
      ∙ ap (mapped_at n caps) (next j))
    where
      next : (j : ℕ) → place n caps d k j ≡ place n caps d k 0 + j
      next j = omega arith

-- the first node of a distance hangs on the first buffer one level nearer, which stands before the distance's own
module _ (n : Netlist) (caps : Capacities) (d : ℕ) (ld : d < n.size) where
  parent_next : (k : ℕ) → 1 ≤ k → parent n caps d (suc k) 0 ≡ place n caps d k 0
  unfolding parent
  parent_next zero l = absurd (omega arith)
  parent_next (suc k) l = ap (place n caps d (suc k)) (zero-div caps.buffer)

  parent_before : (k : ℕ) → 1 ≤ k → parent n caps d k 0 ≤ place n caps d k 0
  unfolding parent
  parent_before zero l = absurd (omega arith)
  parent_before (suc zero) l = omega arith
  parent_before (suc (suc k)) l = omega (arith, zero-div caps.buffer, sum_more (buffers_of n caps d) (suc k) (suc (suc k)) (omega arith))

-- distances below k are written
pub record LevelsWritten (n : Netlist) (caps : Capacities) (d start top : ℕ) (area₀ base area : List ℕ) (at from k : ℕ) : Type 0 where
  pub above : 1 ≤ k
  pub within : k ≤ suc top
  pub here : at ≡ start + sum (buffers_of n caps d) k
  pub parents : from ≡ parent n caps d k 0
  pub size : length base ≡ suc top_level
  pub first_parents : (x : ℕ) → 1 ≤ x → x < k → get_or base x 0 ≡ parent n caps d x 0
  pub long : length area ≡ length area₀
  pub bytes : area ≡ with_records (mapped n caps) start (sum (buffers_of n caps d) k) area₀

module _ (n : Netlist) (caps : Capacities) (d start top : ℕ) (counts area₀ : List ℕ) (h : CountedNet n caps d counts top) (e : start ≡ block_start n caps d)
    (room : width * mapped_size n caps ≤ length area₀) where
  at_one : sum (buffers_of n caps d) 1 ≡ 0
  unfolding sum buffers_of
  at_one = refl

  pub tree_start : (base : List ℕ) → length base ≡ suc top_level → LevelsWritten n caps d start top area₀ base area₀ start d 1
  unfolding parent
  tree_start base b =
      let here = at_one in
      let bytes = sym (ap (λ (c : ℕ). with_records (mapped n caps) start c area₀) at_one ∙ records_none (mapped n caps) start area₀) in
      search arith

  module _ (base area : List ℕ) (at from k : ℕ) (p : LevelsWritten n caps d start top area₀ base area at from k) where
    -- what is written of the tree stays within M
    up_to : (k : ℕ) → k ≤ suc top_level → start + sum (buffers_of n caps d) k ≤ mapped_size n caps
    up_to k l =
        omega (
          arith,
          sum_more (buffers_of n caps d) k (suc top_level) l,
          tree_sum n caps (pos n caps h.ready) d,
          block_before (tree_size n caps) d n.size h.driver,
        )

    module _ (l : k < top + 1) where
      counted : get_or counts k 0 ≡ buffers_of n caps d k
      counted = h.buffers.at k p.above (omega (arith, h.near))

      ends : at + get_or counts k 0 ≤ mapped_size n caps
      ends = omega (arith, p.here, counted, sum_last (buffers_of n caps d) k, up_to (k + 1) (omega (arith, h.near)))

      pub tree_room : width * (at + get_or counts k 0) ≤ length area
      tree_room = omega (arith, ends, p.long)

      from_before : from ≤ at
      from_before = omega (arith, p.parents, parent_before n caps d h.driver k p.above, p.here)

      pub tree_parents : from + get_or counts k 0 < 65536
      tree_parents = omega (arith, ends, from_before, h.ready.fits)

      pub tree_fits : Fits w16 at
      tree_fits = omega (arith, ends, h.ready.fits)

      pub tree_next : (c : ℕ) → c ≡ get_or counts k 0 → Fits w64 (at + c)
      tree_next c m = omega (arith, ends, h.ready.fits)

      pub tree_more : (low c : ℕ) (after : List ℕ) → low ≡ (n.at d).level → c ≡ get_or counts k 0 →
          after ≡ put area (width * at) (encoded (level_record caps.buffer k (low + k) from) (get_or counts k 0)) →
          LevelsWritten n caps d start top area₀ (set base k from) after (at + c) at (k + 1)
      tree_more low c after f m g =
          record {
            above = omega arith;
            within = omega arith;
            here = omega (arith, p.here, counted, sum_last (buffers_of n caps d) k);
            parents = rw (add-one k) (at_place_k ∙ sym (parent_next n caps d h.driver k p.above));
            size = length-set base k from ∙ p.size;
            first_parents = λ x a b. at_distance x a b (ℕ_discrete x k);
            long = rw (g, level_bytes) (records_length (mapped n caps) at (get_or counts k 0) area tree_room ∙ p.long);
            bytes =
                rw (g, level_bytes, p.bytes, p.here, ← so_far)
                (records_more (mapped n caps) start (sum (buffers_of n caps d) k) area₀ (get_or counts k 0) (omega (arith, ends, p.here)));
          }
        where
          at_place_k : at ≡ place n caps d k 0
          at_place_k = omega (arith, p.here)

          so_far : sum (buffers_of n caps d) k + get_or counts k 0 ≡ sum (buffers_of n caps d) (k + 1)
          so_far = omega (arith, counted, sum_last (buffers_of n caps d) k)

          level_bytes : encoded (level_record caps.buffer k (low + k) from) (get_or counts k 0) ≡ recs (mapped n caps) at (get_or counts k 0)
          level_bytes =
              rw (f, p.parents, counted, at_place_k) (level_records n caps h.ready d k h.driver (omega (arith, h.near)))

          at_distance : (x : ℕ) → 1 ≤ x → x < k + 1 → Dec (x ≡ k) → get_or (set base k from) x 0 ≡ parent n caps d x 0
          at_distance x a b (yes q) = rw q (get_or-set_same base k from 0 (omega (arith, p.size, h.near)) ∙ p.parents)
          at_distance x a b (no q) = get_or-set_other base k x from 0 q ∙ p.first_parents x a (omega arith)

    no_buffers : (k : ℕ) → top < k → buffers_of n caps d k ≡ 0
    unfolding buffers_of
    no_buffers zero l = refl
    no_buffers (suc k) l = ap (up caps.buffer) (h.beyond (suc (suc k)) (omega arith)) ∙ up_zero caps.buffer (pos n caps h.ready)

    whole : top + 1 ≤ k → sum (buffers_of n caps d) k ≡ tree_size n caps d
    whole l =
        omega (
          arith,
          tree_sum n caps (pos n caps h.ready) d,
          ap (sum (buffers_of n caps d)) rest,
          sum_append (buffers_of n caps d) k (suc top_level - k),
          sum_none (λ x. buffers_of n caps d (k + x)) (suc top_level - k) (λ x b. no_buffers (k + x) (omega arith)),
        )
      where
        rest : k + (suc top_level - k) ≡ suc top_level
        rest = omega (arith, p.within, h.near)

    pub tree_end : top + 1 ≤ k → at ≡ block_start n caps (d + 1)
    tree_end l = omega (arith, p.here, whole l, sum_last (tree_size n caps) d)

    pub tree_bytes : top + 1 ≤ k → area ≡ with_records (mapped n caps) start (tree_size n caps d) area₀
    tree_bytes l = p.bytes ∙ ap (λ (c : ℕ). with_records (mapped n caps) start c area₀) (whole l)
