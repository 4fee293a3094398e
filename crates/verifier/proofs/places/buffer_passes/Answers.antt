-- `buffer_passes` meets its contract: 13 first, then the slot; a buffer has its fanin's driver.
use borrow.Author.Rules.{rules}
use Rattle.verifier.proofs.Feeding.{buffer_differs, buffer_tallied, tallied_none}
use Rattle.verifier.proofs.Walking.{fanin_room, buffer_known}
use Rattle.verifier.proofs.places.buffer_passes.Goals as goal

pub returns-then-no_buffer-clause-tallied_if : goal.returns-then-no_buffer-clause-tallied_if
returns-then-no_buffer-clause-tallied_if c = tallied_none _ _ 13 c.args.k _ _ (search (rules, buffer_differs))

pub known-d-requires : goal.known-d-requires
known-d-requires c = search fanin_room

pub returns-then-feed_slots : goal.returns-then-feed_slots
returns-then-feed_slots c = record { tallied_if = search (rules, buffer_tallied); known_after = search buffer_known }

pub returns-clause-tallied_if : goal.returns-clause-tallied_if
returns-clause-tallied_if c = search (rules, buffer_tallied)
