-- `write_source` meets its contract: 25, then the part of the area comes back into it.
use Rattle.strip.proofs.Answering.{short_refused, short_kept, room_passed, room_written}
use Rattle.strip.proofs.write_source.Goals as goal

pub returns-then-area-n : goal.returns-then-area-n
returns-then-area-n c = search (short_refused, short_kept)

pub returns : goal.returns
returns c = search (room_passed, room_written)
