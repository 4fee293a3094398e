-- `any_bad_empty` meets its contract: no slot below j is wrong, until one is or all are passed.
use Rattle.facts.proofs.Loops.{any_start}
use Rattle.verifier.proofs.Checks.{empty_used, empty_found, empty_kept}
use Rattle.verifier.proofs.places.any_bad_empty.Goals as goal
use Rattle.verifier.proofs.places.any_bad_empty.Goals.{else-arity-j-via-then-arity-j+else-slot, else-arity-j-via-else-arity-j}

pub loop-j-init : goal.loop-j-init
loop-j-init c = search any_start

pub returns-then-slot : goal.returns-then-slot
returns-then-slot c = search empty_found

pub loop-j-preserved : goal.loop-j-preserved
loop-j-preserved c =
    elim c.else-arity-j.branch [
      | else-arity-j-via-then-arity-j+else-slot w ↦ search empty_kept
      | else-arity-j-via-else-arity-j w ↦ search empty_used
    ]
