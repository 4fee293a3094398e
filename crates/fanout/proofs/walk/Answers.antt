-- `walk` meets its contract: from distance k on the row holds the buffers, or nothing.
use Rattle.std.proofs.Common.{◌≡◌, cond}
use Rattle.fanout.proofs.Walking.{walk_start, walk_few, walk_buffers, walk_nodes, walk_more}
use borrow.Author.Rules.{rules}
use Rattle.fanout.proofs.walk.Goals as goal
use Rattle.fanout.proofs.walk.Goals.{then-keep, else-keep}

pub loop-k-init : goal.loop-k-init
loop-k-init c = search (rules, walk_start)

pub up-b-requires-clause-n_le_node_limit : goal.up-b-requires-clause-n_le_node_limit
up-b-requires-clause-n_le_node_limit c = search (rules, walk_few)

pub overflow_add-buffers-in-loop-k : goal.overflow_add-buffers-in-loop-k
overflow_add-buffers-in-loop-k c = search (rules, walk_buffers)

pub overflow_add-nodes : goal.overflow_add-nodes
overflow_add-nodes c = search (rules, walk_nodes)

pub loop-k-preserved : goal.loop-k-preserved
loop-k-preserved c =
    let v : c.if-keep.row ≡ cond c.args.keep c.up-b.result 0 = elim c.if-keep.branch [ then-keep w ↦ cc | else-keep w ↦ cc ] in
    search walk_more
