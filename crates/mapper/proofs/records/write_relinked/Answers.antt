-- `write_relinked` meets its contract: the slots come one by one.
use Rattle.mapper.proofs.WriteRecords.{relinked_is}
use Rattle.mapper.proofs.records.write_relinked.Goals as goal

pub returns : goal.returns
returns c = search relinked_is
