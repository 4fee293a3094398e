-- A larger capacity of inputs changes nothing of a mapping that is accepted: every tree stays one, and the mapped netlist goes by a buffer's capacity alone.
use Prim.Native.Nat.{ℕ, zero, suc, ◌+◌, ◌/◌, ◌≤◌, ◌<◌}
use native.Mathlib.Omega.{arith}
use mathlib.Core.Path.{◌≡◌, refl, sym, ap}
use mathlib.Core.Bool.{not}
use borrow.Author.Tests.{leb-true, le-leb, not-false}
use Rattle.facts.specs.Answers.{Passed}
use Rattle.facts.specs.Areas.{onto}
use Rattle.facts.specs.Sums.{sum}
use Rattle.facts.proofs.Reflect.{check_passed, then_passed, scan_passed}
use Rattle.netlist.specs.Capacities.{capacities_of}
use Rattle.netlist.specs.Records.{Netlist, netlist}
use Rattle.netlist.specs.Bytes.{bytes_of}
use Rattle.netlist.specs.Checks.{input_checks, capacity_checks, source_checks}
use Rattle.netlist.proofs.Source.{capacities_passed}
use Rattle.netlist.proofs.InputCapacity.{capacity_grows}
use Rattle.fanout.specs.Nets.{row, nodes_at, fewest_in_all}
use Rattle.nets.specs.Checks.{tree_check, tree_checks}
use Rattle.mapper.specs.Mapped.{buffers_of, block_start, mapped_size, parent, buffer_record, sink_number, rewired, buffer_at, mapped_at, mapped}
use Rattle.prices.specs.Prices.{junctions, buffer_junctions}
use Rattle.mapper.specs.Answer.{figures, source_maps, map_checks, map_answer, map_area}
use Rattle.mapper.specs.Promises.{LargerInputCapacity}
use Rattle.mapper.proofs.Answering.{map_passed}

-- the mapped netlist is the same for any two capacities of inputs
module _ (n : Netlist) (s b c : ℕ) where
  buffers_alike : buffers_of n (capacities_of s b) ≡ buffers_of n (capacities_of s c)
  unfolding buffers_of
  buffers_alike = λ i d k. at d k i
    where
      at : (d k : ℕ) → buffers_of n (capacities_of s b) d k ≡ buffers_of n (capacities_of s c) d k
      at d zero = refl
      at d (suc k) = refl

  parent_alike : parent n (capacities_of s b) ≡ parent n (capacities_of s c)
  unfolding parent
  parent_alike = λ i d k q. at d k q i
    where
      at : (d k q : ℕ) → parent n (capacities_of s b) d k q ≡ parent n (capacities_of s c) d k q
      at d zero q = refl
      at d (suc zero) q = refl
      at d (suc (suc k)) q =
          ap (λ (f : ℕ → ℕ → ℕ). block_start n (capacities_of s b) d + (sum (f d) (suc k) + q / s)) buffers_alike

  record_alike : (x : ℕ) → mapped_at n (capacities_of s b) x ≡ mapped_at n (capacities_of s c) x
  unfolding mapped_at rewired buffer_at buffer_record sink_number
  record_alike x = rw (parent_alike, buffers_alike)

  mapped_alike : mapped n (capacities_of s b) ≡ mapped n (capacities_of s c)
  mapped_alike = λ i. record { size = mapped_size n (capacities_of s b); at = λ x. record_alike x i }

  -- with the larger one a net keeps its tree
  trees_stay : b ≤ c → tree_checks n (capacities_of s b) ≡ Passed → tree_checks n (capacities_of s c) ≡ Passed
  trees_stay l e = (scan_passed (tree_check n (capacities_of s c)) n.size).1 each
    where
      each : (d : ℕ) → d < n.size → tree_check n (capacities_of s c) d ≡ Passed
      each d k =
          let nodes = nodes_at s (row n d) 1 in
          let had = not-false _ ((check_passed 8 d _).0 ((scan_passed (tree_check n (capacities_of s b)) n.size).0 e d k)) in
          (check_passed 8 d _).1
          (ap not (le-leb nodes _ (omega (arith, leb-true nodes _ had, capacity_grows s b c (n.at d).kind l))))

pub larger_input_capacity : LargerInputCapacity
unfolding source_maps map_answer map_area
larger_input_capacity bytes s b c list area l most e =
    let n = netlist bytes in
    let parts = (map_passed bytes (capacities_of s b) list area).0 e in
    let early = (then_passed (input_checks bytes (capacities_of s b)) _).0 parts.1 in
    let late = (then_passed (tree_checks n (capacities_of s b)) _).0 early.1 in
    let source = (then_passed (capacity_checks (capacities_of s b)) (source_checks bytes)).0 early.0 in
    let a = (capacities_passed (capacities_of s b)).0 source.0 in
    let checks : map_checks bytes (capacities_of s c) list area ≡ Passed =
    (map_passed bytes (capacities_of s c) list area).1 (
      parts.0,
      (then_passed (input_checks bytes (capacities_of s c)) _).1 (
        (then_passed (capacity_checks (capacities_of s c)) (source_checks bytes)).1 (
          (capacities_passed (capacities_of s c)).1
              (record { low = a.low; high = a.high; input_low = omega (arith, a.input_low); input_high = most }),
          source.1,
        ),
        (then_passed (tree_checks n (capacities_of s c)) _).1 (trees_stay n s b c l late.0, late.1),
      ),
      parts.2,
    ) in
    let alike = sym (mapped_alike n s b c) in (
      rw (checks, e) (ap (λ (m : Netlist). figures n (fewest_in_all n (capacities_of s b)) (buffer_junctions list m) (junctions list m)) alike),
      rw (checks, e) (ap (λ (m : Netlist). onto (bytes_of m) area) alike),
    )
