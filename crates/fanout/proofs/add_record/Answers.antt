-- `add_record` meets its contract: the slots below j are counted.
use Rattle.fanout.proofs.Filling.{slots_room, slots_more, slots_end}
use Rattle.fanout.proofs.add_record.Goals as goal

pub add_slot-most-requires : goal.add_slot-most-requires
add_slot-most-requires c = search slots_room

pub loop-j-preserved : goal.loop-j-preserved
loop-j-preserved c = search slots_more

pub returns : goal.returns
returns c = search slots_end
