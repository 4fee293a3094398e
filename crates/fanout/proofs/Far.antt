-- A net whose sinks all stand far enough has a tree: each distance on the way to them divides what is left by s.
use Prim.Native.Nat.{ℕ, zero, suc, ◌*◌, ◌^◌, ◌≤◌, ◌<◌}
use native.Mathlib.Nat.{mul_assoc, mul_comm, mul-one, mul-suc, pow-zero, pow-suc}
use native.Mathlib.Omega.{arith}
use mathlib.Core.Path.{◌≡◌, sym, ap, ◌∙◌}
use mathlib.Core.Bool.{true}
use mathlib.Core.List.{List, [], ◌∷◌}
use lib.ListN.{length, get_or}
use borrow.Author.Tests.{le-leb, eqb-true}
use Rattle.facts.specs.Sums.{sum, count}
use Rattle.facts.proofs.Bools.{and_l, and_r}
use Rattle.facts.proofs.Sums.{sum_cong, sum_first, values_le, count_none}
use Rattle.fanout.specs.Nets.{nodes, has_tree}
use Rattle.fanout.specs.Trees.{Net, RowOf, sinks_at}
use Rattle.fanout.specs.Promises.{FarTree}
use Rattle.fanout.proofs.Nets.{up_le}
use Rattle.fanout.proofs.Promises.{tree_exactly}

module _ (s : ℕ) (pos : 0 < s) where
  times : (n : ℕ) → n ≤ s * n
  times zero = omega arith
  times (suc n) = omega (arith, times n, mul-suc s n)

  -- there are no more nodes at a distance than sinks from it on
  nodes_sinks : (r : List ℕ) → nodes s r ≤ sum (λ x. get_or r x 0) (length r)
  unfolding nodes sum
  nodes_sinks [] = omega arith
  nodes_sinks (here ∷ further) =
      omega (
        arith,
        up_le s (nodes s further) (nodes s further) pos (times (nodes s further)),
        nodes_sinks further,
        sum_first (λ x. get_or (here ∷ further) x 0) (length further),
      )

  -- h distances without sinks carry s to the power h times as many
  nodes_far : (h b : ℕ) (r : List ℕ) → ((x : ℕ) → x < h → get_or r x 0 ≡ 0) → sum (λ x. get_or r x 0) (length r) ≤ b * s ^ h → nodes s r ≤ b
  unfolding nodes sum
  nodes_far zero b r none l = omega (arith, nodes_sinks r, ap (λ (p : ℕ). b * p) (pow-zero s), mul-one b)
  nodes_far (suc h) b [] none l = omega arith
  nodes_far (suc h) b (here ∷ further) none l =
      omega (
        arith,
        none 0 (omega arith),
        up_le s (nodes s further) b pos
            (nodes_far h (s * b) further (λ x k. none (suc x) (omega arith))
            (omega (arith, l, sum_first (λ x. get_or (here ∷ further) x 0) (length further), same))),
      )
    where
      same : b * s ^ suc h ≡ s * b * s ^ h
      same =
          ap (λ (p : ℕ). b * p) (pow-suc s h ∙ mul_comm (s ^ h) s)
          ∙ sym (mul_assoc b s (s ^ h))
          ∙ ap (λ (p : ℕ). p * s ^ h) (mul_comm b s)

-- so at most 1 is left at distance 1
far_left :
    (c s h : ℕ) (net : Net) (r : List ℕ) → 0 < c → 0 < s → RowOf net r → count net.sink net.places ≤ s ^ h →
    ((x : ℕ) → x < net.places → net.sink x ≡ true → h < net.distance x) → has_tree c s r ≡ true
unfolding sinks_at nodes
far_left c s h net [] some pos row few far = le-leb 0 c (omega arith)
far_left c s h net (here ∷ further) some pos row few far =
    le-leb (nodes s further) c
    (omega (arith, nodes_far s pos h 1 further (λ x l. none (suc x) (omega arith)) (omega (arith, total, times s pos (s ^ h)))))
  where
    none : (x : ℕ) → x ≤ h → get_or (here ∷ further) x 0 ≡ 0
    none x l =
        row.entry x
        ∙ count_none _ net.places
        (λ y k e. omega (arith, far y k (and_l (net.sink y) _ e), eqb-true (net.distance y) x (and_r (net.sink y) _ e)))

    total : sum (λ x. get_or further x 0) (length further) ≤ s ^ h
    total =
        omega (
          arith,
          few,
          values_le net.sink net.distance net.places (suc (length further)),
          sum_cong (λ x. get_or (here ∷ further) x 0) (sinks_at net) (suc (length further)) (λ x l. row.entry x),
          sum_first (λ x. get_or (here ∷ further) x 0) (length further),
        )

pub far_tree : FarTree
far_tree c s h net r some pos row few far = (tree_exactly c s net r pos row).1 (far_left c s h net r some pos row few far)
