-- `check_counts` meets its contract: where the buffers' largest count is within capacity, the records before them are enough.
use borrow.Author.Rules.{rules}
use Rattle.verifier.proofs.Feeding.{source_enough, source_few}
use Rattle.verifier.proofs.feeds.check_counts.Goals as goal

pub returns-then-from-le-GATE_CAPACITY : goal.returns-then-from-le-GATE_CAPACITY
returns-then-from-le-GATE_CAPACITY c = search (rules, source_few)

pub returns : goal.returns
returns c = search (rules, source_enough)
