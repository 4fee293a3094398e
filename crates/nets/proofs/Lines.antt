-- Laws of nets of one or two sinks: their tree is a line, with one buffer at each distance below the largest.
use Prim.Native.Nat.{ℕ, suc, ◌+◌, ◌-◌, ◌≤◌, ◌<◌}
use mathlib.Core.Path.{◌≡◌, refl, ◌∙◌, ap}
use native.Mathlib.Omega.{arith}
use native.Mathlib.Decide.{dec_lt}
use lib.Dec.{ltb, eqb}
use borrow.Author.Tests.{lt-ltb, le-ltb, ltb-true}
use Rattle.facts.specs.Sums.{bit, sum, count}
use Rattle.facts.proofs.Sums.{sum_cong, count_all, count_stop, bit_le, bit_same, bit_other}
use Rattle.netlist.specs.declared.Capacities.{Capacities}
use Rattle.netlist.specs.Kinds.{top_level}
use Rattle.netlist.specs.Records.{Netlist}
use Rattle.fanout.specs.Nets.{row, nodes_at, buffers_at, tree_size}
use Rattle.fanout.proofs.Nets.{nodes_at_lem, fewest_sum, line_row, row_length, row_at_lem}
use Rattle.nets.specs.PrivateChains.{ShortChain, Measured}
use Rattle.fanout.proofs.Rows.{row_none}

-- d's net of one or two sinks
module _ (n : Netlist) (caps : Capacities) (d top other : ℕ) (two : 2 ≤ caps.buffer) (h : ShortChain n d top other) where
  positive : 0 < caps.buffer
  positive = omega arith

  pub line_at : (k : ℕ) → 1 ≤ k → buffers_at caps.buffer (row n d) k ≡ bit (ltb k top)
  line_at =
      line_row caps.buffer (row n d) top two
      (omega (arith, row_at_lem n d top h.near, h.at top h.above, bit_same top top refl))
      (omega (arith, row_at_lem n d top h.near, h.at top h.above, bit_le (eqb top top), bit_le (eqb other top)))
      (λ k l.
      omega (arith, row_at_lem n d (suc k) (omega (arith, h.near)), h.at (suc k) (omega arith), bit_other top (suc k) (λ e. omega arith), bit_le (eqb other (suc k))))
      (λ k l.
      row_none n d k
      (omega (arith, h.at k (omega arith), bit_other top k (λ e. omega arith), bit_other other k (λ e. omega (arith, h.no_farther)))))

  -- buffers nearer than distance suc k
  line_sum : (k : ℕ) → sum (λ x. buffers_at caps.buffer (row n d) (suc x)) k ≡ count (λ x. ltb (suc x) top) k
  unfolding count
  line_sum k = sum_cong (λ x. buffers_at caps.buffer (row n d) (suc x)) (λ x. bit (ltb (suc x) top)) k (λ x l. line_at (suc x) (omega arith))

  pub line_below : (k : ℕ) → k < top → sum (λ x. buffers_at caps.buffer (row n d) (suc x)) k ≡ k
  line_below k l = line_sum k ∙ count_all (λ x. ltb (suc x) top) k (λ x b. lt-ltb (suc x) top (omega arith))

  pub line_size : tree_size n caps d ≡ top - 1
  line_size =
      fewest_sum caps.buffer (row n d) top_level positive (omega (arith, row_length n d))
      ∙ line_sum top_level
      ∙ count_stop (λ x. ltb (suc x) top) (top - 1) top_level (omega (arith, h.near))
      (λ x a b. omega (arith, ltb-true (suc x) top b))
      ∙ count_all (λ x. ltb (suc x) top) (top - 1) (λ x b. lt-ltb (suc x) top (omega arith))

  -- up to the farthest sink there is one node at each distance, and one more where the other sink stands
  pub line_nodes : (k : ℕ) → 1 ≤ k → k ≤ top → nodes_at caps.buffer (row n d) k ≡ 1 + bit (eqb other k)
  line_nodes k a b =
      omega (arith, nodes_at_lem caps.buffer (row n d) k positive, line_at k a, row_at_lem n d k (omega (arith, h.near)), h.at k a, one (dec_lt k top))
    where
      one : Dec (k < top) → bit (ltb k top) + bit (eqb top k) ≡ 1
      one (yes l) = omega (arith, ap bit (lt-ltb k top l), bit_other top k (λ e. omega arith))
      one (no l) = omega (arith, ap bit (le-ltb k top (omega arith)), bit_same top k (omega arith))

  pub measured_few : (x : ℕ) → x ≡ bit (eqb other 1) → Measured n caps d (record { nodes = 1 + x; buffers = top - 1 })
  measured_few x e = omega (arith, line_nodes 1 (omega arith) h.above, line_size)
