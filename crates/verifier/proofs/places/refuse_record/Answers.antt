-- `refuse_record` meets its contract: 12 first, then the slots.
use Rattle.verifier.proofs.Checks.{source_empty}
use Rattle.verifier.proofs.Feeding.{record_differs, record_decides, slots_decide, slots_unfit}
use Rattle.verifier.proofs.places.refuse_record.Goals as goal

pub differs-requires : goal.differs-requires
differs-requires c = search source_empty

pub returns-then-differs : goal.returns-then-differs
returns-then-differs c = search record_differs

pub refuse_slots-requires : goal.refuse_slots-requires
refuse_slots-requires c = search (slots_unfit, record_decides)

pub returns : goal.returns
returns c = search (slots_decide, record_decides)
