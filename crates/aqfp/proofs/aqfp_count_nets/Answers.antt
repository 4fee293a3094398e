-- `aqfp_count_nets` meets its contract: what the call leaves in its areas, and its numbers.
use Rattle.aqfp.proofs.Answers.{checked_as}
use Rattle.aqfp.proofs.aqfp_count_nets.Goals as goal

pub returns : goal.returns
returns c = rw (← c.capacities_of-capacities.ensures) (search checked_as)
