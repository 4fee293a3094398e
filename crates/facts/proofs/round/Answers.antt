-- `round` meets its contract: by its tests of the rest against what is missing to the next whole number.
use borrow.Author.Rules.{rules}
use Rattle.facts.proofs.Rounding.{rounded_none, missing_fits, rounded_below, raised_fits, parity_small, rounded_above, rounded_half}
use Rattle.facts.proofs.round.Goals as goal

pub returns-then-whole-eq0 : goal.returns-then-whole-eq0
returns-then-whole-eq0 c = search rounded_none

pub overflow_sub-missing : goal.overflow_sub-missing
overflow_sub-missing c = search missing_fits

pub returns-then-rest-missing : goal.returns-then-rest-missing
returns-then-rest-missing c = search rounded_below

pub overflow_add-result : goal.overflow_add-result
overflow_add-result c = search (rules, raised_fits)

pub returns-then-missing-rest : goal.returns-then-missing-rest
returns-then-missing-rest c = search rounded_above

pub overflow_add-result-2 : goal.overflow_add-result-2
overflow_add-result-2 c = search (rules, raised_fits, parity_small)

pub returns : goal.returns
returns c = search rounded_half
