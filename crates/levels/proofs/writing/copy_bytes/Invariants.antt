-- `copy_bytes` meets its contract: the first k bytes are copied.
use Rattle.std.proofs.Common.{◌≡◌, ◌++◌, take, drop}
use Rattle.levels.proofs.writing.copy_bytes.Given as goal

abbrev pub invariant-loop-k : goal.invariant-loop-k
invariant-loop-k l = l.area ≡ take l.k l.source ++ drop l.k l.initial.area
