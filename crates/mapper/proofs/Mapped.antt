-- The mapped netlist by index: which record stands at each index, and what each used slot of it names.
use Prim.Native.Nat.{ℕ, suc, ◌+◌, ◌-◌, ◌≤◌, ◌<◌}
use mathlib.Core.Path.{◌≡◌, refl, sym, ◌∙◌, ap}
use native.Mathlib.Omega.{arith}
use native.Mathlib.Nat.{add-sub_cancel_left}
use borrow.Author.Tests.{lt-ltb, le-ltb}
use Rattle.facts.specs.Sums.{sum}
use Rattle.facts.specs.Blocks.{block}
use Rattle.netlist.specs.declared.Capacities.{Capacities}
use Rattle.netlist.specs.Kinds.{top_level}
use Rattle.netlist.specs.Records.{Netlist, blank}
use Rattle.fanout.proofs.Nets.{fewest_sum, row_length}
use Rattle.fanout.specs.Nets.{row, tree_size}
use Rattle.mapper.specs.Mapped.{buffers_of, mapped_size, place, buffer_record, rewired, buffer_at, mapped_at}
use Rattle.facts.proofs.Blocks.{InBlock, block_at, in_block, block_before}
use Rattle.facts.proofs.Sums.{sum_first}

module _ (n : Netlist) (caps : Capacities) (pos : 0 < caps.buffer) where
  -- a tree's buffers, distance by distance
  pub tree_sum : (d : ℕ) → tree_size n caps d ≡ sum (buffers_of n caps d) (suc top_level)
  unfolding buffers_of
  tree_sum d = fewest_sum caps.buffer (row n d) top_level pos (omega (arith, row_length n d)) ∙ omega (arith, sum_first (buffers_of n caps d) top_level)

  -- the buffers up to the j-th of distance k are d's
  pub within_tree : (d k j : ℕ) → k ≤ top_level → j < buffers_of n caps d k → sum (buffers_of n caps d) k + j < tree_size n caps d
  within_tree d k j l b = omega (arith, tree_sum d, block_before (buffers_of n caps d) k (suc top_level) (omega arith))

  pub place_inside : (d k j : ℕ) → d < n.size → k ≤ top_level → j < buffers_of n caps d k → place n caps d k j < mapped_size n caps
  place_inside d k j ld l b = omega (arith, within_tree d k j l b, block_before (tree_size n caps) d n.size ld)

  buffer_at_lem : (d k j : ℕ) → d < n.size → k ≤ top_level → j < buffers_of n caps d k →
      buffer_at n caps (sum (tree_size n caps) d + (sum (buffers_of n caps d) k + j)) ≡ buffer_record n caps d k j
  unfolding buffer_at
  buffer_at_lem d k j ld l b =
      rw (
        block_at (tree_size n caps) n.size d (sum (buffers_of n caps d) k + j) ld (within_tree d k j l b),
        add-sub_cancel_left (sum (tree_size n caps) d) (sum (buffers_of n caps d) k + j),
        block_at (buffers_of n caps d) (suc top_level) k j (omega arith) b,
        add-sub_cancel_left (sum (buffers_of n caps d) k) j,
      ) refl

  -- below N stand the source's records
  pub at_source : (x : ℕ) → x < n.size → mapped_at n caps x ≡ rewired n caps x
  unfolding mapped_at
  at_source x l = rw (lt-ltb x n.size l) refl

  -- at place d k j stands the buffer at level d + k that hangs on its parent
  pub at_place : (d k j : ℕ) → d < n.size → k ≤ top_level → j < buffers_of n caps d k →
      mapped_at n caps (place n caps d k j) ≡ buffer_record n caps d k j
  unfolding mapped_at
  at_place d k j ld l b =
      rw (le-ltb (place n caps d k j) n.size (omega arith), lt-ltb (place n caps d k j) (mapped_size n caps) (place_inside d k j ld l b))
      (let e : place n caps d k j - n.size ≡ sum (tree_size n caps) d + (sum (buffers_of n caps d) k + j) = omega arith in
      ap (buffer_at n caps) e ∙ buffer_at_lem d k j ld l b)

  -- one index is one place
  pub place_driver : (d k j d' k' j' : ℕ) → d < n.size → k ≤ top_level → j < buffers_of n caps d k →
      d' < n.size → k' ≤ top_level → j' < buffers_of n caps d' k' → place n caps d k j ≡ place n caps d' k' j' → d ≡ d'
  place_driver d k j d' k' j' ld l b ld' l' b' e =
      let y : sum (tree_size n caps) d + (sum (buffers_of n caps d) k + j) ≡ sum (tree_size n caps) d' + (sum (buffers_of n caps d') k' + j') = omega arith in
      sym (block_at (tree_size n caps) n.size d _ ld (within_tree d k j l b))
      ∙ ap (λ (y : ℕ). block (tree_size n caps) y n.size) y
      ∙ block_at (tree_size n caps) n.size d' _ ld' (within_tree d' k' j' l' b')

  pub place_distance : (d k j k' j' : ℕ) → k ≤ top_level → j < buffers_of n caps d k → k' ≤ top_level → j' < buffers_of n caps d k' →
      place n caps d k j ≡ place n caps d k' j' → k ≡ k'
  place_distance d k j k' j' l b l' b' e =
      let z : sum (buffers_of n caps d) k + j ≡ sum (buffers_of n caps d) k' + j' = omega arith in
      sym (block_at (buffers_of n caps d) (suc top_level) k j (omega arith) b)
      ∙ ap (λ (z : ℕ). block (buffers_of n caps d) z (suc top_level)) z
      ∙ block_at (buffers_of n caps d) (suc top_level) k' j' (omega arith) b'

  -- from M on stands nothing
  pub at_end : (x : ℕ) → mapped_size n caps ≤ x → mapped_at n caps x ≡ blank
  unfolding mapped_at
  at_end x l = rw (le-ltb x n.size (omega arith), le-ltb x (mapped_size n caps) l) refl

  -- every record from N on has its place
  pub record Placed (x : ℕ) : Type 0 where
    pub d : ℕ
    pub k : ℕ
    pub j : ℕ
    pub driver : d < n.size
    pub near : k ≤ top_level
    pub number : j < buffers_of n caps d k
    pub index : x ≡ place n caps d k j

  pub placed : (x : ℕ) → n.size ≤ x → x < mapped_size n caps → Placed x
  placed x l b =
      record {
        d = d;
        k = k;
        j = z - sum (buffers_of n caps d) k;
        driver = f.below;
        near = omega (arith, g.below);
        number = omega (arith, g.from, g.before);
        index = omega (arith, f.from, g.from);
      }
    where
      y : ℕ
      y = x - n.size

      f : InBlock (tree_size n caps) y n.size (block (tree_size n caps) y n.size)
      f = in_block (tree_size n caps) y n.size (omega arith)

      d : ℕ
      d = block (tree_size n caps) y n.size

      z : ℕ
      z = y - sum (tree_size n caps) d

      g : InBlock (buffers_of n caps d) z (suc top_level) (block (buffers_of n caps d) z (suc top_level))
      g = in_block (buffers_of n caps d) z (suc top_level) (omega (arith, tree_sum d, f.from, f.before))

      k : ℕ
      k = block (buffers_of n caps d) z (suc top_level)
