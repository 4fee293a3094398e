-- P1 to P12, and the nets of inputs that branch: the counts compute, and what is counted from a row that is a net's is true of its trees.
use Prim.Native.Nat.{ℕ, ◌<◌}
use mathlib.Core.Path.{◌≡◌, refl, subst}
use mathlib.Core.Bool.{Bool, true, ◌&&◌}
use mathlib.Core.List.{List, [], ◌∷◌, map}
use lib.Dec.{ltb}
use borrow.Author.Tests.{ltb-true}
use Rattle.facts.proofs.Bools.{and_l, and_r}
use Rattle.fanout.specs.declared.Count.{Count}
use Rattle.fanout.specs.Answer.{tree_count}
use Rattle.fanout.specs.Nets.{nodes, buffers}
use Rattle.fanout.specs.Trees.{Net, net_at}
use Rattle.fanout.specs.Worked.{Case, row_at, worked, branching}
use Rattle.fanout.specs.Promises.{Says, Holds, Every, WorkedTrue, BranchingTrue}
use Rattle.fanout.proofs.Rows.{within, row_of_distances}
use Rattle.fanout.proofs.Promises.{count_true}

answer_of : Case → Count
answer_of w = tree_count w.driver_capacity w.capacity (row_at w.distances)

-- a capacity above 0 and distances that a row has
abbrev fits : Case → Bool
fits w = ltb 0 w.capacity && within w.distances

abbrev all_fit : List Case → Bool
all_fit [] = true
all_fit (w ∷ ws) = fits w && all_fit ws

holds : (w : Case) → fits w ≡ true → answer_of w ≡ w.answer → Holds w
unfolding answer_of
holds w f e =
    let c : ℕ = w.driver_capacity in
    let s : ℕ = w.capacity in
    let net : Net = net_at w.distances in
    let pos : 0 < s = ltb-true 0 s (and_l (ltb 0 s) _ f) in
    let r = row_of_distances w.distances (and_r (ltb 0 s) _ f) in
    record {
      rowed = r;
      counted = e;
      said = subst (Says c s net) e (count_true c s net (row_at w.distances) pos r);
    }

every : (ws : List Case) → all_fit ws ≡ true → map answer_of ws ≡ map (λ w. w.answer) ws → Every Holds ws
every [] f e = tt
every (w ∷ ws) f e = (holds w (and_l (fits w) _ f) (cc), every ws (and_r (fits w) _ f) (cc))

pub worked_true : WorkedTrue
unfolding nodes buffers answer_of
worked_true = every worked refl refl

pub branching_true : BranchingTrue
unfolding nodes buffers answer_of
branching_true = every branching refl refl
