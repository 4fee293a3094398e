-- `any_bad_fanin` meets its contract: no slot below j is bad, until one is or all are passed.
use borrow.Author.Rules.{rules}
use Rattle.facts.proofs.Loops.{any_start, any_more, any_found}
use Rattle.strip.proofs.fanin_checks.any_bad_fanin.Goals as goal

pub loop-j-init : goal.loop-j-init
loop-j-init c = search any_start

pub returns-then-bad_fanin : goal.returns-then-bad_fanin
returns-then-bad_fanin c = search (any_found, rules)

pub loop-j-preserved : goal.loop-j-preserved
loop-j-preserved c = search (any_more, rules)
