-- `check_buffers` meets its contract: the answer from k on is the answer, the first k records are counted, and what is known is right.
use borrow.Author.Rules.{rules}
use Rattle.verifier.proofs.Walking.{noting_start, noting_buffering, noting_end, noting_stop, noting_more}
use Rattle.verifier.proofs.places.check_buffers.Goals as goal

pub loop-k-init : goal.loop-k-init
loop-k-init c = search (rules, noting_start)

pub buffer_passes-requires-clause-buffering : goal.buffer_passes-requires-clause-buffering
buffer_passes-requires-clause-buffering c = search noting_buffering

pub refuse_buffer-requires-clause-fails : goal.refuse_buffer-requires-clause-fails
refuse_buffer-requires-clause-fails c = c.buffer_passes.ensures.tallied_if.failed (search rules)

pub returns-then-not-buffer_passes-clause-tallied_if_passed : goal.returns-then-not-buffer_passes-clause-tallied_if_passed
returns-then-not-buffer_passes-clause-tallied_if_passed c = search (rules, noting_stop, c.buffer_passes.ensures.tallied_if.failed)

pub loop-k-preserved : goal.loop-k-preserved
loop-k-preserved c = (search (rules, noting_more, c.buffer_passes.ensures.tallied_if.passed), search rules, search rules)

pub returns-clause-tallied_if_passed : goal.returns-clause-tallied_if_passed
returns-clause-tallied_if_passed c = search (rules, noting_end)
