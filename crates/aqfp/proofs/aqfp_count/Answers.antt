-- `aqfp_count` meets its contract: each case stores its own numbers.
use Rattle.aqfp.proofs.Answers.{counted_fewest, counted_none, counted_refused}
use Rattle.aqfp.proofs.aqfp_count.Goals as goal

pub returns-in-Fewest : goal.returns-in-Fewest
returns-in-Fewest c = rw (← c.capacities_of-capacities.ensures) (search counted_fewest)

pub returns-in-NoTree : goal.returns-in-NoTree
returns-in-NoTree c = rw (← c.capacities_of-capacities.ensures) (search counted_none)

pub returns-in-Refused : goal.returns-in-Refused
returns-in-Refused c = rw (← c.capacities_of-capacities.ensures) (search counted_refused)
