-- `write_counts` meets its contract: the numbers of the indices before k are stored.
use lib.ListN.{get_or}
use Rattle.facts.proofs.Stored.{Stored}
use Rattle.nets.specs.Counts.{index_count, index_at}
use Rattle.nets.proofs.counts.write_counts.Given as goal

abbrev pub invariant-loop-k : goal.invariant-loop-k
invariant-loop-k l =
    Stored (λ i. get_or l.totals (index_at l.records i) 0) (index_count l.records) l.k l.counts l.initial.counts
