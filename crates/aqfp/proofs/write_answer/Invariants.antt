-- `write_answer` meets its contract: the numbers below k are stored, the rest of the area is as it was.
use lib.ListN.{length, get_or}
use Rattle.facts.proofs.Stored.{Stored}
use Rattle.aqfp.proofs.write_answer.Given as goal

abbrev pub invariant-loop-k : goal.invariant-loop-k
invariant-loop-k l = Stored (λ i. get_or l.numbers i 0) (length l.numbers) l.k l.answer l.initial.answer
