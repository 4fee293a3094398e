-- `measure` meets its contract: no sink, a line, or a row that is filled and walked.
use Rattle.nets.proofs.ShortChains.{no_sink, few_sinks}
use Rattle.nets.proofs.Lines.{measured_few}
use Rattle.nets.proofs.TreeCounts.{measured_none}
use Rattle.fanout.proofs.Walking.{walkable, walked_clear}
use native.Mathlib.Omega.{arith}
use Rattle.nets.proofs.trees.measure.Goals as goal

pub overflow_cast-result : goal.overflow_cast-result
overflow_cast-result c = omega (arith, (few_sinks _ _ _ _ _ c.of_driver.ensures c.in-Short.is).near)

pub overflow_sub-result : goal.overflow_sub-result
overflow_sub-result c = (few_sinks _ _ _ _ _ c.of_driver.ensures c.in-Short.is).above

pub walk-requires : goal.walk-requires
walk-requires c = search walkable

pub returns-in-Empty-clause-measured : goal.returns-in-Empty-clause-measured
returns-in-Empty-clause-measured c = search (measured_none, no_sink)

pub returns-in-Short-clause-measured : goal.returns-in-Short-clause-measured
returns-in-Short-clause-measured c = search (measured_few, few_sinks)

pub returns-in-Long-clause-row_after : goal.returns-in-Long-clause-row_after
returns-in-Long-clause-row_after c = search walked_clear
