-- `aqfp_map` meets its contract: what the call leaves in its area, and its numbers.
use Rattle.std.proofs.Common.{rules}
use Rattle.mapper.specs.Answer.{mapping_numbers}
use Rattle.aqfp.proofs.aqfp_map.Goals as goal

pub returns-in-Ok-clause-answer : goal.returns-in-Ok-clause-answer
unfolding mapping_numbers
returns-in-Ok-clause-answer c =
    let mapped = c.in-Ok.ensures in
    rw (← c.capacities_of-capacities.ensures, ← mapped.value) (search rules)

pub returns-in-Err-clause-answer : goal.returns-in-Err-clause-answer
unfolding mapping_numbers
returns-in-Err-clause-answer c =
    let refused = c.in-Err.ensures in
    rw (← c.capacities_of-capacities.ensures, ← refused.value, ← c.number.ensures) (search rules)
