-- `check_indices` meets its contract: the answer from index k on is the answer.
use borrow.Author.Tests.{not-false}
use Rattle.facts.proofs.Loops.{scan_start, scan_end}
use Rattle.nets.proofs.ListedCounts.{indices_more, indices_stop}
use borrow.Author.Rules.{rules}
use Rattle.nets.proofs.counts.check_indices.Goals as goal

pub loop-k-init : goal.loop-k-init
loop-k-init c = search (rules, scan_start)

pub returns-then-not-is_driver : goal.returns-then-not-is_driver
returns-then-not-is_driver c = search (rules, indices_stop)

pub loop-k-preserved : goal.loop-k-preserved
loop-k-preserved c = (search rules, search (rules, indices_more, not-false))

pub returns : goal.returns
returns c = search (rules, scan_end)
