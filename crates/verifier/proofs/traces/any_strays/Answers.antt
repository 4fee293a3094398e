-- `any_strays` meets its contract: no slot below j strays, until one does or all are passed.
use borrow.Author.Rules.{rules}
use Rattle.verifier.proofs.Walking.{strayed_start, strayed_found, strayed_more}
use Rattle.verifier.proofs.traces.any_strays.Goals as goal

pub loop-j-init : goal.loop-j-init
loop-j-init c = search (rules, strayed_start)

pub returns-then-walk-slot : goal.returns-then-walk-slot
returns-then-walk-slot c = search strayed_found

pub loop-j-preserved : goal.loop-j-preserved
loop-j-preserved c = (search strayed_more, search rules)
