-- `record_passes` meets its contract: 12 first, then the slots.
use borrow.Author.Rules.{rules}
use Rattle.verifier.proofs.Checks.{source_empty}
use Rattle.verifier.proofs.Feeding.{record_differs, record_decides, tallied_none, slots_tallied}
use Rattle.verifier.proofs.places.record_passes.Goals as goal

pub differs-requires : goal.differs-requires
differs-requires c = search source_empty

pub returns-then-differs : goal.returns-then-differs
returns-then-differs c = tallied_none _ _ 12 c.args.k _ _ (search record_differs)

pub returns : goal.returns
returns c = search (rules, slots_tallied, record_decides)
