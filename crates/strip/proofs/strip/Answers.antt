-- `strip` meets its contract: N where all checks pass.
use Rattle.std.proofs.Common.{rules, ◌≡◌, Err}
use Rattle.strip.proofs.Answering.{size_fits, strip_passed, strip_refused}
use Rattle.strip.proofs.strip.Goals as goal

pub overflow_cast-result : goal.overflow_cast-result
overflow_cast-result c = search (size_fits, c.in_ok-strip_checked.ensures)

pub returns-in_err-strip_checked-clause-answer : goal.returns-in_err-strip_checked-clause-answer
returns-in_err-strip_checked-clause-answer c =
    let e : c.from_residual.result ≡ Err c.in_err-strip_checked.field-0.0 = search rules in
    rw e (search (strip_refused, c.in_err-strip_checked.ensures))

pub returns-clause-answer : goal.returns-clause-answer
returns-clause-answer c = search (strip_passed, c.in_ok-strip_checked.ensures)
