-- `check_with` meets its contract: the records below the source's size, the buffers, the traces, then the feeding.
use Rattle.std.proofs.Common.{rules, ◌≡◌, Err}
use Rattle.verifier.proofs.Feeding.{kept_refused, added_refused, places_placed, traced_refused, feeds_decide}
use Rattle.verifier.proofs.Walking.{passed_walkable}
use Rattle.verifier.proofs.check_with.Goals as goal

pub returns-in_err-check_records : goal.returns-in_err-check_records
returns-in_err-check_records c =
    let e : c.from_residual.result ≡ Err c.in_err-check_records.field-0.0 = search rules in
    rw e (search (kept_refused, c.in_err-check_records.ensures))

pub returns-in_err-check_buffers : goal.returns-in_err-check_buffers
returns-in_err-check_buffers c =
    let e : c.from_residual-in_err-check_buffers.result ≡ Err c.in_err-check_buffers.field-0.0 = search rules in
    rw e (search (added_refused, c.in_err-check_buffers.ensures))

pub check_traces-requires-clause-places_passed : goal.check_traces-requires-clause-places_passed
check_traces-requires-clause-places_passed c = search (places_placed, c.in_ok-check_buffers.ensures)

pub returns-in_err-check_traces : goal.returns-in_err-check_traces
returns-in_err-check_traces c =
    let e : c.from_residual-in_err-check_traces.result ≡ Err c.in_err-check_traces.field-0.0 = search rules in
    rw e (search (traced_refused, c.in_ok-check_buffers.ensures, c.in_err-check_traces.ensures))

pub check_counts-requires-clause-walkable : goal.check_counts-requires-clause-walkable
check_counts-requires-clause-walkable c = search (passed_walkable, places_placed, c.in_ok-check_buffers.ensures)

pub returns : goal.returns
returns c = search (feeds_decide, c.in_ok-check_buffers.ensures, c.in_ok-check_traces.ensures)
