-- `aqfp_verify` meets its contract: the verifier's answer, in numbers.
use Rattle.aqfp.proofs.Answers.{verified_as}
use Rattle.aqfp.proofs.aqfp_verify.Goals as goal

pub returns : goal.returns
returns c = rw (← c.capacities_of-capacities.ensures) (search verified_as)
