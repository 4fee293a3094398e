-- `most_fed` meets its contract: no count below k is above the largest so far.
use Rattle.verifier.specs.PrivateFeeding.{FedAtMost}
use Rattle.verifier.proofs.feeds.most_fed.Given as goal

abbrev pub invariant-loop-k : goal.invariant-loop-k
invariant-loop-k l = FedAtMost l.counts l.from l.k l.most
