-- The promises about trees, from the bound (Least) and the built tree (Built).
use Prim.Native.Nat.{ℕ, ◌<◌, ◌≤◌}
use mathlib.Core.Path.{◌≡◌, refl}
use mathlib.Core.Logic.{◌↔◌}
use mathlib.Core.List.{List}
use mathlib.Core.Bool.{Bool, true, false, cond}
use Rattle.facts.proofs.Bools.{true_false}
use Rattle.facts.proofs.Reflect.{iff_trans, most}
use borrow.Author.Tests.{leb-true, le-leb}
use Rattle.fanout.specs.Nets.{row, sinks, nodes_at, has_tree, fewest}
use Rattle.fanout.specs.declared.Count.TheVariants.{Fewest, NoTree}
use Rattle.fanout.specs.Promises.{TreeExactly, LeastAtEach, LeastInAll, FewestAttained, LeastTree, CountTrue, Says, RowTrue, RowOfNet, NetTreeExactly}
use Rattle.fanout.specs.Trees.{Net, Tree, Legal, RowOf, net_of}
use Rattle.netlist.specs.Capacities.{capacities_of, gate_capacity}
use Rattle.netlist.specs.Records.{netlist, record_at}
use Rattle.netlist.proofs.Balance.{capacity_gate}
use Rattle.fanout.proofs.Nets.{row_at_lem}
use Rattle.fanout.proofs.Rows as rows
use Rattle.fanout.proofs.Least.{bound_at, bound_in_all, few_left}
use Rattle.fanout.proofs.Built.{attained}

pub least_at_each : LeastAtEach
least_at_each c s net r pos counts t legal = bound_at c s net r pos counts t legal

pub least_in_all : LeastInAll
least_in_all c s net r pos counts t legal = bound_in_all c s net r pos counts t legal

pub fewest_attained : FewestAttained
fewest_attained c s net r pos counts e = attained s net r pos counts c (leb-true (nodes_at s r 1) c e)

pub tree_exactly : TreeExactly
tree_exactly c s net r pos counts = (
  λ f. le-leb (nodes_at s r 1) c (few_left c s net r pos counts f.0 f.1),
  λ e. let a = fewest_attained c s net r pos counts e in (a.tree, a.legal),
)

-- a net with a tree has one with the counted buffers, and none with fewer
pub least_tree : (c s : ℕ) (net : Net) (r : List ℕ) → 0 < s → RowOf net r → has_tree c s r ≡ true → LeastTree c s net (fewest s r)
least_tree c s net r pos counts e =
    let a = fewest_attained c s net r pos counts e in
    record { tree = a.tree; legal = a.legal; size = a.in_all; least = least_in_all c s net r pos counts }

pub count_true : CountTrue
count_true c s net r pos counts = go (has_tree c s r) refl
  where
    go : (b : Bool) → has_tree c s r ≡ b → Says c s net (cond b (Fewest (fewest s r)) NoTree)
    go true e = least_tree c s net r pos counts e
    go false e = λ t legal. true_false (has_tree c s r) ((tree_exactly c s net r pos counts).0 (t, legal)) e

pub row_true : RowTrue
unfolding sinks
row_true source d x l = row_at_lem (netlist source) d x l

pub row_of_net : RowOfNet
row_of_net source is d = rows.row_of_net (netlist source) d is.is_source

pub net_tree_exactly : NetTreeExactly
net_tree_exactly source is s b d pos =
    record {
      inputs = λ e. rw e (left b);
      gates = λ e. rw (capacity_gate (capacities_of s b) (record_at source d).kind e) (left gate_capacity);
    }
  where
    left : (c : ℕ) → ((t : Tree) × Legal c s (net_of (netlist source) d) t) ↔ (nodes_at s (row (netlist source) d) 1 ≤ c)
    left c =
        iff_trans
        (tree_exactly c s (net_of (netlist source) d) (row (netlist source) d) pos (row_of_net source is d))
        (most (nodes_at s (row (netlist source) d) 1) c)
