-- `refuse_slots` meets its contract: no name below j is bad, until one is; where none is, a level is.
use Rattle.facts.proofs.Loops.{any_start, any_more}
use Rattle.verifier.proofs.Checks.{names_bad, levels_bad}
use Rattle.verifier.proofs.places.refuse_slots.Goals as goal

pub loop-j-init : goal.loop-j-init
loop-j-init c = search any_start

pub returns-then-bad_name : goal.returns-then-bad_name
returns-then-bad_name c = search names_bad

pub loop-j-preserved : goal.loop-j-preserved
loop-j-preserved c = search any_more

pub returns : goal.returns
returns c = search levels_bad
