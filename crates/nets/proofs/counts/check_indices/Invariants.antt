-- `check_indices` meets its contract: the answer from index k on is the answer.
use mathlib.Core.Path.{◌≡◌}
use Rattle.facts.proofs.Loops.{Scanning}
use Rattle.nets.specs.Counts.{index_count, index_check}
use Rattle.nets.proofs.counts.check_indices.Given as goal

abbrev pub invariant-loop-k : goal.invariant-loop-k
invariant-loop-k l = (l.n ≡ index_count l.records) × Scanning (index_check l.source l.records) (index_count l.records) l.k
