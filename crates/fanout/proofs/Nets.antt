-- Laws of one net's counts: rounding up, nodes and buffers per distance, their minimality, lines, and the row's entries.
use Prim.Native.Nat.{ℕ, zero, suc, ◌+◌, ◌*◌, ◌-◌, ◌≤◌, ◌<◌, ◌/◌, ◌%◌}
use mathlib.Core.Path.{◌≡◌, refl, ◌∙◌, ap}
use mathlib.Core.List.{List, [], ◌∷◌}
use native.Mathlib.Omega.{arith}
use native.Mathlib.Nat.{mul_comm, mul-suc, div_self, div-lt_iff_lt-mul, lt-div-mul-add, mul-add-div, div-eq_of_lt, div-add-mod, mod-lt}
use native.Mathlib.Decide.{dec_lt}
use lib.ListN.{length, get_or, drop, drop_of_length-le, get_or-eq_default}
use lib.Seq.{drop-cons, get_or-drop}
use lib.Dec.{ltb}
use borrow.Author.Tests.{lt-ltb, le-ltb}
use Rattle.facts.specs.Sums.{bit, sum}
use Rattle.facts.proofs.Lists.{length_tabulate, get_d_tabulate}
use Rattle.netlist.specs.Kinds.{top_level}
use Rattle.netlist.specs.Records.{Netlist}
use Rattle.fanout.specs.Nets.{sinks, row, up, nodes, buffers, nodes_at, buffers_at, fewest}

-- the least number that s times covers n
pub up_le : (s n b : ℕ) → 0 < s → n ≤ s * b → up s n ≤ b
up_le s n b h l =
    omega (
      arith,
      (div-lt_iff_lt-mul {k = s} {x = n + (s - 1)} {y = suc b} h).1 (omega (arith, mul_comm s b, mul_comm s (suc b), mul-suc s b)),
    )

pub le_up : (s n : ℕ) → 0 < s → n ≤ s * up s n
le_up s n h = omega (arith, lt-div-mul-add {a = n + (s - 1)} h, mul_comm s (up s n))

pub up_zero : (s : ℕ) → 0 < s → up s 0 ≡ 0
up_zero s h = omega (arith, up_le s 0 0 h (omega arith))

pub up_one : (s : ℕ) → 0 < s → up s 1 ≡ 1
up_one s h = let e : 1 + (s - 1) ≡ s = omega arith in ap (λ (x : ℕ). x / s) e ∙ div_self h

-- number q of n stands on one of the up s n
pub div_up : (s q n : ℕ) → 0 < s → q < n → q / s < up s n
div_up s q n h l =
    (div-lt_iff_lt-mul {k = s} {x = q} {y = up s n} h).1 (omega (arith, le_up s n h, mul_comm s (up s n)))

-- n / s, rounded up, is n / s where nothing is left, else one more
pub up_whole : (s n : ℕ) → 0 < s → n % s ≡ 0 → up s n ≡ n / s
up_whole s n h e =
    let m : n + (s - 1) ≡ s * (n / s) + (s - 1) = omega (arith, div-add-mod n s) in
    ap (λ (x : ℕ). x / s) m ∙ omega (arith, mul-add-div h (n / s) (s - 1), div-eq_of_lt {n = s - 1} {m = s} (omega arith))

pub up_part : (s n : ℕ) → 0 < s → 0 < n % s → up s n ≡ n / s + 1
up_part s n h l =
    let m : n + (s - 1) ≡ s * suc (n / s) + (n % s - 1) = omega (arith, div-add-mod n s, mul-suc s (n / s)) in
    ap (λ (x : ℕ). x / s) m
    ∙ omega (arith, mul-add-div h (suc (n / s)) (n % s - 1), div-eq_of_lt {n = n % s - 1} {m = s} (omega (arith, mod-lt n h)))

-- past the row there is nothing
pub nodes_past : (s : ℕ) (r : List ℕ) (k : ℕ) → length r ≤ k → nodes_at s r k ≡ 0
unfolding nodes
nodes_past s r k l = rw (drop_of_length-le r l) refl

pub buffers_past : (s : ℕ) (r : List ℕ) (k : ℕ) → 0 < s → length r ≤ suc k → buffers_at s r k ≡ 0
buffers_past s r k h l = rw (nodes_past s r (suc k) l) (up_zero s h)

-- a row without sinks has no nodes and no buffers
pub nodes_none : (s : ℕ) (r : List ℕ) → 0 < s → ((x : ℕ) → get_or r x 0 ≡ 0) → nodes s r ≡ 0
unfolding nodes
nodes_none s [] p h = refl
nodes_none s (here ∷ further) p h =
    omega (arith, ap (up s) (nodes_none s further p (λ x. h (suc x))), up_zero s p, h 0)

pub buffers_none : (s : ℕ) (r : List ℕ) → 0 < s → ((x : ℕ) → get_or r x 0 ≡ 0) → buffers s r ≡ 0
unfolding buffers
buffers_none s [] p h = refl
buffers_none s (here ∷ further) p h =
    omega (
      arith,
      ap (up s) (nodes_none s further p (λ x. h (suc x))),
      up_zero s p,
      buffers_none s further p (λ x. h (suc x)),
    )

-- the nodes at a distance: its buffers and its sinks
pub nodes_at_lem : (s : ℕ) (r : List ℕ) (k : ℕ) → 0 < s → nodes_at s r k ≡ buffers_at s r k + get_or r k 0
unfolding nodes
nodes_at_lem s r k h =
    elim (dec_lt k (length r)) [
      | yes l ↦ ap (nodes s) (drop-cons r k 0 l)
      | no g ↦
          omega (
            arith,
            nodes_past s r k (omega arith),
            buffers_past s r k h (omega arith),
            get_or-eq_default r 0 {n = k} (omega arith),
          )
    ]

-- the buffers from a distance on: those there, and those further on
pub none_past : (s : ℕ) (r : List ℕ) (k : ℕ) → length r ≤ k → buffers s (drop k r) ≡ 0
unfolding buffers
none_past s r k l = rw (drop_of_length-le r l) refl

pub buffers_from : (s : ℕ) (r : List ℕ) (k : ℕ) → 0 < s →
    buffers s (drop k r) ≡ buffers_at s r k + buffers s (drop (suc k) r)
unfolding buffers
buffers_from s r k h =
    elim (dec_lt k (length r)) [
      | yes l ↦ ap (buffers s) (drop-cons r k 0 l)
      | no g ↦
          omega (
            arith,
            none_past s r k (omega arith),
            none_past s r (suc k) (omega arith),
            buffers_past s r k h (omega arith),
          )
    ]

-- the fewest buffers are those at each distance from 1 on
buffers_sum : (s : ℕ) (r : List ℕ) (n : ℕ) → 0 < s →
    fewest s r ≡ sum (λ k. buffers_at s r (suc k)) n + buffers s (drop (suc n) r)
unfolding sum
buffers_sum s r zero h = omega arith
buffers_sum s r (suc n) h = omega (arith, buffers_sum s r n h, buffers_from s r (suc n) h)

pub fewest_sum : (s : ℕ) (r : List ℕ) (n : ℕ) → 0 < s → length r ≤ suc n →
    fewest s r ≡ sum (λ k. buffers_at s r (suc k)) n
fewest_sum s r n h l = omega (arith, buffers_sum s r n h, none_past s r (suc n) l)

-- whatever carries the sinks and itself at each distance has at least as many buffers at each
module _ (s : ℕ) (r : List ℕ) (B : ℕ → ℕ) (h : 0 < s)
    (carries : (k : ℕ) → 1 ≤ k → B (suc k) + get_or r (suc k) 0 ≤ s * B k) where
  minimal_from : (n k : ℕ) → length r ≤ k + n → 1 ≤ k → buffers_at s r k ≤ B k
  minimal_from zero k l g = omega (arith, buffers_past s r k h (omega arith))
  minimal_from (suc n) k l g =
      up_le s _ (B k) h
      (omega (arith, nodes_at_lem s r (suc k) h, minimal_from n (suc k) (omega arith) (omega arith), carries k g))

  pub minimal : (k : ℕ) → 1 ≤ k → buffers_at s r k ≤ B k
  minimal k g = minimal_from (length r) k (omega arith) g

  pub minimal_nodes : nodes_at s r 1 ≤ B 1 + get_or r 1 0
  minimal_nodes = omega (arith, nodes_at_lem s r 1 h, minimal 1 (omega arith))

-- a row with a sink has a node
pub nodes_some : (s : ℕ) (r : List ℕ) (x : ℕ) → 0 < s → 0 < get_or r x 0 → 0 < nodes s r
unfolding nodes
nodes_some s [] x p l = absurd (omega (arith, get_or-eq_default {A = ℕ} [] 0 {n = x} (omega arith)))
nodes_some s (c ∷ r) zero p l = omega arith
nodes_some s (c ∷ r) (suc x) p l = omega (arith, div_up s 0 (nodes s r) p (nodes_some s r x p l))

-- a row whose farthest sinks, at most two, stand at distance top, and at most one sink at each distance below
module _ (s : ℕ) (r : List ℕ) (top : ℕ) (two : 2 ≤ s) (farthest : 0 < get_or r top 0) (few : get_or r top 0 ≤ 2)
    (nearer : (k : ℕ) → suc k < top → get_or r (suc k) 0 ≤ 1) (beyond : (k : ℕ) → top < k → get_or r k 0 ≡ 0) where
  positive : 0 < s
  positive = omega arith

  -- one buffer carries the buffer and the sinks one level further on
  carries : (k : ℕ) → 1 ≤ k → bit (ltb (suc k) top) + get_or r (suc k) 0 ≤ s * bit (ltb k top)
  carries k a =
      elim (dec_lt (suc k) top) [
        | yes b ↦ rw (lt-ltb k top (omega arith), lt-ltb (suc k) top b) (omega (arith, nearer k b))
        | no b ↦ rw (le-ltb (suc k) top (omega arith)) (elim (dec_lt k top) [
          | yes l ↦ (let e : suc k ≡ top = omega arith in rw (lt-ltb k top l) (omega (arith, ap (λ (x : ℕ). get_or r x 0) e)))
          | no l ↦ rw (le-ltb k top (omega arith)) (omega (arith, beyond (suc k) (omega arith)))
        ])
      ]

  -- has one buffer at each distance below top
  pub line_row : (k : ℕ) → 1 ≤ k → buffers_at s r k ≡ bit (ltb k top)
  line_row k a =
      let most = minimal s r (λ k. bit (ltb k top)) positive carries k a in
      elim (dec_lt k top) [
        | yes l ↦
            let back : suc k + (top - suc k) ≡ top = omega arith in
            let some =
            nodes_some s (drop (suc k) r) (top - suc k) positive
            (omega (arith, get_or-drop (suc k) r (top - suc k) 0, ap (λ (x : ℕ). get_or r x 0) back)) in
            rw (lt-ltb k top l) (omega (arith, rw (lt-ltb k top l) at most, div_up s 0 (nodes_at s r (suc k)) positive some))
        | no l ↦ rw (le-ltb k top (omega arith)) (omega (arith, rw (le-ltb k top (omega arith)) at most))
      ]

pub row_length : (m : Netlist) (d : ℕ) → length (row m d) ≡ suc top_level
unfolding row
row_length m d = length_tabulate (sinks m d) (suc top_level)

pub row_at_lem : (m : Netlist) (d x : ℕ) → x ≤ top_level → get_or (row m d) x 0 ≡ sinks m d x
unfolding row
row_at_lem m d x l = get_d_tabulate (sinks m d) (suc top_level) x 0 (omega arith)
