-- `first_high` meets its contract: the answer from k on is the answer.
use Rattle.facts.proofs.Loops.{Scanning}
use Rattle.levels.specs.Levels.{high_check}
use Rattle.levels.specs.PrivateLevels.{entries}
use Rattle.levels.proofs.writing.first_high.Given as goal

abbrev pub invariant-loop-k : goal.invariant-loop-k
invariant-loop-k l = Scanning (high_check (entries l.levels)) l.n l.k
