-- `refuse_buffer` meets its contract: 13 first, then the slot.
use borrow.Author.Rules.{rules}
use Rattle.verifier.proofs.Feeding.{buffer_differs, buffer_decides, slots_decide, slots_unfit}
use Rattle.verifier.proofs.places.refuse_buffer.Goals as goal

pub returns-then-no_buffer : goal.returns-then-no_buffer
returns-then-no_buffer c = search (rules, buffer_differs)

pub refuse_slots-requires : goal.refuse_slots-requires
refuse_slots-requires c = search (rules, slots_unfit, buffer_decides)

pub returns : goal.returns
returns c = search (rules, slots_decide, buffer_decides)
