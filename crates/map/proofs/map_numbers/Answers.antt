-- `map_numbers` meets its contract: the mapper's answer in its seven numbers.
use Rattle.std.proofs.Common.{rules}
use Rattle.mapper.specs.Answer.{mapping_numbers}
use Rattle.map.proofs.map_numbers.Goals as goal

pub returns-in-Ok : goal.returns-in-Ok
unfolding mapping_numbers
returns-in-Ok c = rw (← c.in-Ok.ensures) (search rules)

pub returns-in-Err : goal.returns-in-Err
unfolding mapping_numbers
returns-in-Err c = rw (← c.in-Err.ensures, ← c.number.ensures) (search rules)
