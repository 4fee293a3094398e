-- `write_answer` meets its contract: the numbers below k are stored, the rest of the area is as it was.
use borrow.Author.Rules.{rules}
use Rattle.std.proofs.Common.{refl}
use Rattle.facts.proofs.Stored.{stored_start, stored_room, stored_more, stored_all}
use Rattle.aqfp.proofs.Answers.{storing_end}
use Rattle.aqfp.proofs.write_answer.Goals as goal

pub loop-k-init : goal.loop-k-init
loop-k-init c = search (rules, stored_start)

pub write_four-requires : goal.write_four-requires
write_four-requires c = search stored_room

pub loop-k-preserved : goal.loop-k-preserved
loop-k-preserved c = search stored_more

pub returns : goal.returns
returns c = storing_end _ _ _ (stored_all _ _ _ _ _ c.loop-k.invariant c.loop-k-test.false) refl
