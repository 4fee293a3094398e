-- `check_records` meets its contract: the answer from k on is the answer, and the first k records are counted.
use borrow.Author.Rules.{rules}
use Rattle.verifier.proofs.Feeding.{tallying_start, tallying_end, tallying_stop, tallying_more}
use Rattle.verifier.proofs.places.check_records.Goals as goal

pub loop-k-init : goal.loop-k-init
loop-k-init c = search (rules, tallying_start)

pub refuse_record-requires-clause-fails : goal.refuse_record-requires-clause-fails
refuse_record-requires-clause-fails c = c.record_passes.ensures.failed (search rules)

pub returns-then-not-record_passes : goal.returns-then-not-record_passes
returns-then-not-record_passes c = search (rules, tallying_stop, c.record_passes.ensures.failed)

pub loop-k-preserved : goal.loop-k-preserved
loop-k-preserved c = (search (rules, tallying_more, c.record_passes.ensures.passed), search rules)

pub returns : goal.returns
returns c = search tallying_end
