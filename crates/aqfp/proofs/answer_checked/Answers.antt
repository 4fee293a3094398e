-- `answer_checked` meets its contract: each case stores its own numbers.
use Rattle.std.proofs.Common.{rules}
use Rattle.facts.specs.Checks.{checked_numbers}
use Rattle.aqfp.proofs.answer_checked.Goals as goal

pub returns-in-Ok : goal.returns-in-Ok
unfolding checked_numbers
returns-in-Ok c = rw c.in-Ok.is (search rules)

pub returns-in-Err : goal.returns-in-Err
unfolding checked_numbers
returns-in-Err c = rw (c.in-Err.is, ← c.number.ensures) (search rules)
