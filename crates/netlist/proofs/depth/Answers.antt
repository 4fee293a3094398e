-- `depth` meets its contract: what the search finds from k on is what it finds in all.
use borrow.Author.Rules.{rules}
use Rattle.facts.proofs.Loops.{seek_start}
use Rattle.netlist.proofs.Checks.{depth_here, depth_more, depth_none}
use Rattle.netlist.proofs.depth.Goals as goal

pub loop-k-init : goal.loop-k-init
loop-k-init c = search (rules, seek_start)

pub returns-then-r-eq-OUTPUT : goal.returns-then-r-eq-OUTPUT
returns-then-r-eq-OUTPUT c = search depth_here

pub loop-k-preserved : goal.loop-k-preserved
loop-k-preserved c = search (rules, depth_more)

pub returns : goal.returns
returns c = search depth_none
