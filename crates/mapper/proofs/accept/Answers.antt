-- `accept` meets its contract: the numbers are those of the definition.
use Rattle.mapper.proofs.Answering.{accepted_is}
use Rattle.mapper.proofs.accept.Goals as goal

pub returns : goal.returns
returns c = search accepted_is
