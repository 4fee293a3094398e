-- `verify` meets its contract: what passes every check is legal, so that its buffers are the records from the source's size on.
use Rattle.std.proofs.Common.{rules, ◌≡◌, Err}
use Rattle.verifier.proofs.Accepted.{source_first, buffers_fit, verify_passed, answer_refused}
use Rattle.verifier.proofs.verify.Goals as goal

pub overflow_sub-result : goal.overflow_sub-result
overflow_sub-result c = search (source_first, c.in_ok-check_mapping.ensures)

pub overflow_cast-result : goal.overflow_cast-result
overflow_cast-result c = search (buffers_fit, c.in_ok-check_mapping.ensures)

pub returns-in_err-check_mapping : goal.returns-in_err-check_mapping
returns-in_err-check_mapping c =
    let e : c.from_residual.result ≡ Err c.in_err-check_mapping.field-0.0 = search rules in
    rw e (search (answer_refused, c.in_err-check_mapping.ensures))

pub returns : goal.returns
returns c = search (verify_passed, c.in_ok-check_mapping.ensures)
