-- `check_structured` meets its contract: the size first, then every record.
use Rattle.std.proofs.Common.{rules, ◌≡◌, Err}
use Rattle.levels.proofs.SinkCounts.{count_fits, uncounted, structure_passed, structure_refused}
use Rattle.levels.proofs.counting.check_structured.Goals as goal

pub overflow_cast-record_count : goal.overflow_cast-record_count
overflow_cast-record_count c = record { fits = search (count_fits, c.in_ok-check_size.ensures) }

pub check_records-requires : goal.check_records-requires
check_records-requires c = search (uncounted, c.in_ok-check_size.ensures)

pub returns-in_err-check_size : goal.returns-in_err-check_size
returns-in_err-check_size c =
    let e : c.from_residual.result ≡ Err c.in_err-check_size.field-0.0 = search rules in
    rw e (search (structure_refused, c.in_err-check_size.ensures))

pub returns : goal.returns
returns c = search (structure_passed, c.in_ok-check_size.ensures)
