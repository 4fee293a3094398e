-- `fill` meets its contract: the records below k are counted.
use Rattle.fanout.proofs.Filling.{records_start, records_end}
use Rattle.fanout.proofs.fill.Goals as goal

pub loop-k-init : goal.loop-k-init
loop-k-init c = search records_start

pub returns : goal.returns
returns c = search records_end
