-- What is promised of trees and of the counts: for any net, any driver capacity c and any buffer capacity s above 0.
use Rattle.std.specs.Prelude.{ℕ, ◌+◌, ◌^◌, ◌<◌, ◌≤◌, ◌≡◌, ◌⊎◌, ◌↔◌, true, ◌&&◌, List, [], ◌∷◌, get_or, eqb}
use Rattle.facts.specs.Answers.{Passed}
use Rattle.facts.specs.Sums.{count, count₂}
use Rattle.facts.specs.Refusals.{Conditions, Fails, ◌or◌, FirstAt, Exact}
use Rattle.netlist.specs.declared.Capacities.{Capacities}
use Rattle.netlist.specs.Kinds.{slots, top_level, input, output, is_gate, is_driver}
use Rattle.netlist.specs.Capacities.{capacities_of, capacity_of}
use Rattle.netlist.specs.Records.{Netlist, netlist, record_at, record_count, names}
use Rattle.netlist.specs.Source.{Source}
use Rattle.netlist.specs.Checks.{input_checks}
use Rattle.netlist.specs.Refusals.{InputFails}
use Rattle.fanout.specs.declared.Count.{Count}
use Rattle.fanout.specs.declared.Count.TheVariants.{Fewest, NoTree, Refused}
use Rattle.fanout.specs.Nets.{row, nodes_at, has_tree, buffers_at, fewest}
use Rattle.fanout.specs.Trees.{Net, Tree, Legal, RowOf, net_of, net_at, buffers_in}
use Rattle.fanout.specs.Answer.{tree_count, count_checks, count_answer, no_tree, count_numbers}
use Rattle.fanout.specs.Worked.{Case, row_at, worked, branching}

-- a legal tree exists exactly if at most c nodes are left at distance 1
abbrev pub TreeExactly : Type 0
TreeExactly =
    (c s : ℕ) (net : Net) (r : List ℕ) → 0 < s → RowOf net r →
    ((t : Tree) × Legal c s net t) ↔ (has_tree c s r ≡ true)

-- one exists where the sinks, at most s to the power h of them, all stand at distance 1 + h or more
abbrev pub FarTree : Type 0
FarTree =
    (c s h : ℕ) (net : Net) (r : List ℕ) → 0 < c → 0 < s → RowOf net r →
    count net.sink net.places ≤ s ^ h →
    ((x : ℕ) → x < net.places → net.sink x ≡ true → h < net.distance x) →
    (t : Tree) × Legal c s net t

-- every legal tree has at least the counted buffers at each distance
abbrev pub LeastAtEach : Type 0
LeastAtEach =
    (c s : ℕ) (net : Net) (r : List ℕ) → 0 < s → RowOf net r →
    (t : Tree) → Legal c s net t → (k : ℕ) → 0 < k → buffers_at s r k ≤ buffers_in t k

-- and at least the fewest in all
abbrev pub LeastInAll : Type 0
LeastInAll =
    (c s : ℕ) (net : Net) (r : List ℕ) → 0 < s → RowOf net r →
    (t : Tree) → Legal c s net t → fewest s r ≤ t.buffers

-- a tree with exactly the counted buffers at each distance and in all
pub record Attained (c s : ℕ) (net : Net) (r : List ℕ) : Type 0 where
  pub tree : Tree
  pub legal : Legal c s net tree
  pub at_each : (k : ℕ) → 0 < k → buffers_in tree k ≡ buffers_at s r k
  pub in_all : tree.buffers ≡ fewest s r

-- wherever there is a legal tree, one has exactly the counted buffers
abbrev pub FewestAttained : Type 0
FewestAttained =
    (c s : ℕ) (net : Net) (r : List ℕ) → 0 < s → RowOf net r → has_tree c s r ≡ true → Attained c s net r

-- entry x of a record's row is the number of used slots that name it and stand x levels above it
abbrev pub RowTrue : Type 0
RowTrue =
    (source : List ℕ) (d x : ℕ) → x ≤ top_level →
    get_or (row (netlist source) d) x 0
    ≡ count₂
    (λ i j. names (netlist source) d i j && eqb (record_at source i).level ((record_at source d).level + x))
    slots
    (record_count source)

-- and in a source it is its net's, whose distances are levels less the driver's
abbrev pub RowOfNet : Type 0
RowOfNet = (source : List ℕ) → Source source → (d : ℕ) → RowOf (net_of (netlist source) d) (row (netlist source) d)

-- there is a legal tree of d's net, whose driver feeds no more than its kind may
abbrev pub HasNetTree : Netlist → Capacities → ℕ → Type 0
HasNetTree m caps d = (t : Tree) × Legal (capacity_of caps (m.at d).kind) caps.buffer (net_of m d) t

-- in a source: of an input's net exactly if at most b nodes are left at distance 1, of a gate's exactly if at most one is
pub record NetTrees (m : Netlist) (s b d : ℕ) : Type 0 where
  pub inputs : (m.at d).kind ≡ input → HasNetTree m (capacities_of s b) d ↔ (nodes_at s (row m d) 1 ≤ b)
  pub gates : is_gate (m.at d).kind ≡ true → HasNetTree m (capacities_of s b) d ↔ (nodes_at s (row m d) 1 ≤ 1)

abbrev pub NetTreeExactly : Type 0
NetTreeExactly = (source : List ℕ) → Source source → (s b d : ℕ) → 0 < s → NetTrees (netlist source) s b d

-- no tree at all is legal
abbrev pub NoLegalTree : ℕ → ℕ → Net → Type 0
NoLegalTree c s net = (t : Tree) → Legal c s net t → ⊥

-- a legal tree has n buffers, and none has fewer
pub record LeastTree (c s : ℕ) (net : Net) (n : ℕ) : Type 0 where
  pub tree : Tree
  pub legal : Legal c s net tree
  pub size : tree.buffers ≡ n
  pub least : (t : Tree) → Legal c s net t → n ≤ t.buffers

-- what an answer says of a net
abbrev pub Says : ℕ → ℕ → Net → Count → Type 0
Says c s net (Fewest n) = LeastTree c s net n
Says c s net NoTree = NoLegalTree c s net
Says c s net (Refused number place) = ⊥

-- what is counted from a net's row is true of all its trees
abbrev pub CountTrue : Type 0
CountTrue = (c s : ℕ) (net : Net) (r : List ℕ) → 0 < s → RowOf net r → Says c s net (tree_count c s r)

-- a net worked through: its row is its net's, the count gives its answer, and that is true of all its trees
pub record Holds (w : Case) : Type 0 where
  pub rowed : RowOf (net_at w.distances) (row_at w.distances)
  pub counted : tree_count w.driver_capacity w.capacity (row_at w.distances) ≡ w.answer
  pub said : Says w.driver_capacity w.capacity (net_at w.distances) w.answer

-- each of a list
abbrev pub Every : (Case → Type 0) → List Case → Type 0
Every P [] = Unit {0}
Every P (w ∷ ws) = P w × Every P ws

-- P1 to P12
abbrev pub WorkedTrue : Type 0
WorkedTrue = Every Holds worked

-- the nets of inputs that branch
abbrev pub BranchingTrue : Type 0
BranchingTrue = Every Holds branching

-- what an answer says of d's net, whose driver feeds no more than its kind may
abbrev pub NetSays : Netlist → Capacities → ℕ → Count → Type 0
NetSays m caps d answer = Says (capacity_of caps (m.at d).kind) caps.buffer (net_of m d) answer

-- no tree of d's net is legal; a legal one has n buffers, and none has fewer
abbrev pub NoNetTree : Netlist → Capacities → ℕ → Type 0
NoNetTree m caps d = NetSays m caps d NoTree

abbrev pub LeastNetTree : Netlist → Capacities → ℕ → ℕ → Type 0
LeastNetTree m caps d n = NetSays m caps d (Fewest n)

-- what a count is asked of: source and capacities pass 1, 26 and 2 to 7, and the record is a driver
pub record Asked (source : List ℕ) (caps : Capacities) (d : ℕ) : Type 0 where
  pub passed : input_checks source caps ≡ Passed
  pub driver : is_driver (record_at source d).kind ≡ true

-- the call says 'no tree' exactly if it is asked of a driver for whose net no legal tree exists
abbrev pub NoTreeExactly : Type 0
NoTreeExactly =
    (source : List ℕ) (caps : Capacities) (d : ℕ) →
    (count_answer source caps d ≡ NoTree)
    ↔ (Asked source caps d × NoNetTree (netlist source) caps d)

-- and 'fewest n' exactly if a legal tree with n buffers exists and none with fewer
abbrev pub FewestExactly : Type 0
FewestExactly =
    (source : List ℕ) (caps : Capacities) (d n : ℕ) →
    (count_answer source caps d ≡ Fewest n)
    ↔ (Asked source caps d × LeastNetTree (netlist source) caps d n)

-- 20: the record is absent or an output
abbrev pub NoDriver : List ℕ → ℕ → Type 0
NoDriver source d = (record_count source ≤ d) ⊎ ((record_at source d).kind ≡ output)

-- 1, 26, 2 to 7, then 20
abbrev pub CountFails : List ℕ → Capacities → ℕ → Conditions
CountFails source caps d = InputFails source caps or Fails 20 d (NoDriver source d)

-- each of 1, 26, 2 to 7 and 20 fails exactly where its condition is the first that holds, and all pass exactly if none does
abbrev pub CountExact : Type 0
CountExact = (source : List ℕ) (caps : Capacities) (d : ℕ) → Exact (CountFails source caps d) (count_checks source caps d)

-- and the call refuses exactly by the first whose condition holds
abbrev pub RefusedExactly : Type 0
RefusedExactly =
    (source : List ℕ) (caps : Capacities) (d number place : ℕ) →
    (count_answer source caps d ≡ Refused number place) ↔ FirstAt (CountFails source caps d) number place

-- the same of the answer's numbers: they tell the three cases apart
pub record Numbers (source : List ℕ) (caps : Capacities) (d : ℕ) (numbers : List ℕ) : Type 0 where
  pub no_trees : (numbers ≡ count_numbers NoTree) ↔ (Asked source caps d × NoNetTree (netlist source) caps d)
  pub fewest : (n : ℕ) →
      ((numbers ≡ count_numbers (Fewest n)) × (n < no_tree))
      ↔ (Asked source caps d × LeastNetTree (netlist source) caps d n)
  pub refused : (number place : ℕ) →
      ((numbers ≡ count_numbers (Refused number place)) × (0 < number)) ↔ FirstAt (CountFails source caps d) number place

abbrev pub NumbersExactly : Type 0
NumbersExactly = (source : List ℕ) (caps : Capacities) (d : ℕ) → Numbers source caps d (count_numbers (count_answer source caps d))
