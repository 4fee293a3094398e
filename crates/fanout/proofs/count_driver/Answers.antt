-- `count_driver` meets its contract: the filled row is the driver's, and the walk counts it.
use Rattle.fanout.proofs.Walking.{input_walkable}
use Rattle.fanout.proofs.count_driver.Goals as goal

pub walk-tree-requires : goal.walk-tree-requires
walk-tree-requires c = search input_walkable
