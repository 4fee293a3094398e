-- `write_source` meets its contract: the first i records are written.
use Rattle.netlist.proofs.Bytes.{written_start}
use Rattle.mapper.proofs.WriteRecords.{source_more}
use borrow.Author.Rules.{rules}
use Rattle.mapper.proofs.records.write_source.Goals as goal

pub loop-i-init : goal.loop-i-init
loop-i-init c = search written_start

pub loop-i-preserved : goal.loop-i-preserved
loop-i-preserved c =
    let w = c.before in
    let l = w.before in
    source_more _ _ _ _ _ _ l.loop-i.invariant _ _ l.requires.source_in_bounds_2 (search rules)
    w.record_at.ensures w.write_relinked.ensures
