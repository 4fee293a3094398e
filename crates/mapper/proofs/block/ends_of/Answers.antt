-- `ends_of` meets its contract: a driver has a block, another record none.
use Rattle.mapper.proofs.View.{ends_past, ends_driver, ends_other}
use Rattle.mapper.proofs.block.ends_of.Goals as goal

pub returns-then-n-d : goal.returns-then-n-d
returns-then-n-d c = search ends_past

pub returns-then-is_driver : goal.returns-then-is_driver
returns-then-is_driver c = search ends_driver

pub returns : goal.returns
returns c = search ends_other
