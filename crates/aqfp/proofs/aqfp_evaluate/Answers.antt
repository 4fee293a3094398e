-- `aqfp_evaluate` meets its contract: what the call leaves in its areas, and its numbers.
use Rattle.aqfp.proofs.Answers.{checked_as}
use Rattle.aqfp.proofs.aqfp_evaluate.Goals as goal

pub returns : goal.returns
returns c = search checked_as
