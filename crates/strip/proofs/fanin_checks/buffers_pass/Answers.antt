-- `buffers_pass` meets its contract: the records from n on, below k, are good buffers, and what is known of their drivers is right.
use borrow.Author.Rules.{rules}
use Rattle.strip.proofs.Fanins.{buffers_start, buffers_more}
use Rattle.strip.proofs.fanin_checks.buffers_pass.Goals as goal

pub loop-k-init : goal.loop-k-init
loop-k-init c = search (rules, buffers_start)

pub loop-k-preserved : goal.loop-k-preserved
loop-k-preserved c = (search buffers_more, search rules)
