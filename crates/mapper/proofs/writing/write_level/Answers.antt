-- `write_level` meets its contract: the first j buffers are written.
use Rattle.netlist.proofs.Bytes.{written_start}
use Rattle.mapper.proofs.WriteRecords.{level_parent, level_more}
use borrow.Author.Rules.{rules}
use Rattle.mapper.proofs.writing.write_level.Goals as goal

pub loop-j-init : goal.loop-j-init
loop-j-init c = search written_start

pub parent_of-requires-clause-q_bound : goal.parent_of-requires-clause-q_bound
parent_of-requires-clause-q_bound c = search level_parent

pub loop-j-preserved : goal.loop-j-preserved
loop-j-preserved c =
    let w = c.before in
    let l = w.before in
    level_more _ _ _ _ _ _ _ _ _ l.loop-j.invariant _ _ _ (search rules) (search rules) w.parent_of.ensures w.buffer_of.ensures w.write_record.ensures
