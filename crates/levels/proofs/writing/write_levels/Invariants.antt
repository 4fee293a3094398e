-- `write_levels` meets its contract: the source is copied, then the levels of the records below k are written.
use Rattle.std.proofs.Common.{◌≡◌}
use Rattle.netlist.specs.Bytes.{with_levels}
use Rattle.levels.specs.PrivateLevels.{entries}
use Rattle.levels.proofs.writing.write_levels.Given as goal

abbrev pub invariant-loop-k : goal.invariant-loop-k
invariant-loop-k l = l.area ≡ with_levels (entries l.levels) l.source l.k
