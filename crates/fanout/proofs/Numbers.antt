-- The call's numbers tell its three cases apart: no count reaches the number that stands for no tree, and no refusal has number 0.
use Prim.Native.Nat.{ℕ, ◌<◌}
use mathlib.Core.Path.{◌≡◌, refl, ap}
use mathlib.Core.List.{List}
use mathlib.Core.Logic.{⊎_elim}
use native.Mathlib.Omega.{arith}
use Rattle.facts.specs.Refusals.{row_of, FirstAt}
use Rattle.facts.proofs.Refusals.{row_positive}
use Rattle.netlist.specs.Records.{netlist, record_at}
use Rattle.netlist.specs.declared.Capacities.{Capacities}
use Rattle.netlist.specs.Capacities.{capacity_of}
use Rattle.netlist.proofs.Source.{input_passed}
use Rattle.netlist.proofs.Refusals.{input_numbered}
use Rattle.fanout.specs.declared.Count.{Count}
use Rattle.fanout.specs.declared.Count.TheVariants.{Fewest, NoTree, Refused}
use Rattle.fanout.specs.Nets.{row}
use Rattle.fanout.specs.Trees.{Net, net_of}
use Rattle.fanout.specs.Answer.{no_tree, count_numbers, count_answer}
use Rattle.fanout.specs.Promises.{LeastNetTree, Asked, CountFails, NumbersExactly}
use Rattle.fanout.proofs.Rows.{row_of_net}
use Rattle.fanout.proofs.Walking.{fewest_small}
use Rattle.fanout.proofs.Promises.{tree_exactly, fewest_attained}
use Rattle.fanout.proofs.Call.{no_tree_exactly, fewest_exactly, refused_exactly}

-- an answer that its numbers tell
abbrev Valid : Count → Type 0
Valid (Fewest n) = n < no_tree
Valid NoTree = Unit {0}
Valid (Refused number place) = 0 < number

tell : (a b : Count) → Valid a → Valid b → count_numbers a ≡ count_numbers b → a ≡ b
unfolding count_numbers
tell (Fewest m) (Fewest n) x y e = cc
tell (Fewest m) NoTree x y e = let z : m ≡ no_tree = cc in absurd (omega arith)
tell (Fewest m) (Refused n p) x y e = let z : 0 ≡ n = cc in absurd (omega arith)
tell NoTree (Fewest n) x y e = let z : no_tree ≡ n = cc in absurd (omega arith)
tell NoTree NoTree x y e = refl
tell NoTree (Refused n p) x y e = let z : 0 ≡ n = cc in absurd (omega arith)
tell (Refused n p) (Fewest m) x y e = let z : n ≡ 0 = cc in absurd (omega arith)
tell (Refused n p) NoTree x y e = let z : n ≡ 0 = cc in absurd (omega arith)
tell (Refused m q) (Refused n p) x y e = cc

module _ (source : List ℕ) (caps : Capacities) (d : ℕ) where
  -- a least tree is smaller than what stands for no tree
  least_small : (n : ℕ) → Asked source caps d → LeastNetTree (netlist source) caps d n → n < no_tree
  least_small n q t =
      let i = input_passed source caps q.passed in
      let c : ℕ = capacity_of caps (record_at source d).kind in
      let s : ℕ = caps.buffer in
      let pos : 0 < s = omega (arith, i.allowed.low) in
      let counts = row_of_net (netlist source) d i.is_source.is_source in
      let r : List ℕ = row (netlist source) d in
      let net : Net = net_of (netlist source) d in
      let has = (tree_exactly c s net r pos counts).0 (t.tree, t.legal) in
      let a = fewest_attained c s net r pos counts has in
      omega (
        arith,
        t.least a.tree a.legal,
        a.in_all,
        fewest_small (netlist source) s d i.is_source.is_source i.allowed.low,
      )

  -- refusals are numbered from 1 on
  refused_positive : (number place : ℕ) → FirstAt (CountFails source caps d) number place → 0 < number
  refused_positive number place f =
      ⊎_elim (λ x. row_positive number (row_of 0) (input_numbered source caps number place x)) (λ x. omega arith) f.0

  valid : (a : Count) → count_answer source caps d ≡ a → Valid a
  valid (Fewest n) e = let x = (fewest_exactly source caps d n).0 e in least_small n x.0 x.1
  valid NoTree e = tt
  valid (Refused number place) e = refused_positive number place ((refused_exactly source caps d number place).0 e)

pub numbers_exactly : NumbersExactly
numbers_exactly source caps d =
    record {
      no_trees = (
        λ e. (no_tree_exactly source caps d).0 (tell (count_answer source caps d) NoTree (valid source caps d _ refl) tt e),
        λ x. ap count_numbers ((no_tree_exactly source caps d).1 x),
      );
      fewest = λ n. (
        λ e. (fewest_exactly source caps d n).0 (tell (count_answer source caps d) (Fewest n) (valid source caps d _ refl) e.1 e.0),
        λ x. (ap count_numbers ((fewest_exactly source caps d n).1 x), least_small source caps d n x.0 x.1),
      );
      refused = λ number place. (
        λ e. (refused_exactly source caps d number place).0
            (tell (count_answer source caps d) (Refused number place) (valid source caps d _ refl) e.1 e.0),
        λ f. (ap count_numbers ((refused_exactly source caps d number place).1 f), refused_positive source caps d number place f),
      );
    }
