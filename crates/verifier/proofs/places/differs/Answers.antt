-- `differs` meets its contract: where kinds, inversions and levels agree, the unused slots decide.
use borrow.Author.Rules.{rules}
use Rattle.verifier.proofs.Checks.{slots_differ}
use Rattle.verifier.proofs.places.differs.Goals as goal

pub returns-else-r-a-3 : goal.returns-else-r-a-3
returns-else-r-a-3 c = search (rules, slots_differ)
