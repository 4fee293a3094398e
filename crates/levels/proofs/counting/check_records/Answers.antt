-- `check_records` meets its contract: the records below k are checked and counted.
use Rattle.std.proofs.Common.{rules, ◌≡◌, Err}
use Rattle.levels.proofs.SinkCounts.{counted_start, counted_next, counted_more, counted_stop, counted_end}
use Rattle.levels.proofs.counting.check_records.Goals as goal

pub loop-k-init : goal.loop-k-init
loop-k-init c = search counted_start

pub check_record-requires : goal.check_record-requires
check_record-requires c = search (rules, counted_next)

pub returns-in_err-check_record : goal.returns-in_err-check_record
returns-in_err-check_record c =
    let e : c.from_residual.result ≡ Err c.in_err-check_record.field-0.0 = search rules in
    rw e (search (counted_stop, c.in_err-check_record.ensures))

pub loop-k-preserved : goal.loop-k-preserved
loop-k-preserved c = search (counted_more, c.in_ok-check_record.ensures)

pub returns : goal.returns
returns c = search counted_end
