-- `read_full` ends: each round reads at least a byte, within the area, which keeps its length.
use Rattle.std.proofs.Common.{◌≤◌, ◌-◌, length}
use Rattle.reading.proofs.read_full.Given as goal

abbrev pub invariant-loop-done : goal.invariant-loop-done
invariant-loop-done g l = l.done ≤ length l.area

abbrev pub decreases-loop-done : goal.decreases-loop-done
decreases-loop-done g l = length l.area - l.done
