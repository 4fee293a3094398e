-- `check_used` meets its contract: where the checks pass, the used slots are counted.
use Rattle.std.proofs.Common.{rules, ◌≡◌, Err}
use Rattle.levels.proofs.SinkCounts.{slots_fit, record_counted, record_refused}
use Rattle.levels.proofs.counting.check_used.Goals as goal

pub add_sinks-requires : goal.add_sinks-requires
add_sinks-requires c = search (slots_fit, c.in_ok-check_structure.ensures)

pub returns-in_err-check_structure : goal.returns-in_err-check_structure
returns-in_err-check_structure c =
    let e : c.from_residual.result ≡ Err c.in_err-check_structure.field-0.0 = search rules in
    rw e (search (record_refused, c.in_err-check_structure.ensures))

pub returns : goal.returns
returns c = search (record_counted, c.in_ok-check_structure.ensures)
