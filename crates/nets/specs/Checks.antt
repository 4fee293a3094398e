-- Check 8 (specification 3.3): each driver, rising, has a tree.
use Rattle.std.specs.Prelude.{ℕ, Bool, not}
use Rattle.facts.specs.Answers.{Checked}
use Rattle.facts.specs.Checks.{check, scan}
use Rattle.netlist.specs.declared.Capacities.{Capacities}
use Rattle.netlist.specs.Records.{Netlist}
use Rattle.fanout.specs.Nets.{net_has_tree}

-- 8: a driver without a tree
abbrev pub no_tree : Netlist → Capacities → ℕ → Bool
no_tree n caps d = not (net_has_tree n caps d)

-- 8 of driver d
abbrev pub tree_check : Netlist → Capacities → ℕ → Checked
tree_check n caps d = check 8 d (no_tree n caps d)

-- 8 of the first m records, and of all
abbrev pub trees_below : Netlist → Capacities → ℕ → Checked
trees_below n caps m = scan (tree_check n caps) 0 m

abbrev pub tree_checks : Netlist → Capacities → Checked
tree_checks n caps = trees_below n caps n.size
