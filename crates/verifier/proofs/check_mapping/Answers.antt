-- `check_mapping` meets its contract: capacities and source, the length, then 12 to 17; what 1, 26, 2 to 7 and 11 leave lets every count fit.
use Rattle.std.proofs.Common.{rules, ◌≡◌, Err}
use Rattle.verifier.proofs.Checks.{verify_refused, verify_length, verify_legal, mapped_sized}
use Rattle.verifier.proofs.check_mapping.Goals as goal

pub returns-in_err-check_input : goal.returns-in_err-check_input
returns-in_err-check_input c =
    let e : c.from_residual.result ≡ Err c.in_err-check_input.field-0.0 = search rules in
    rw e (search (verify_refused, c.in_err-check_input.ensures))

pub returns-then-bad_length : goal.returns-then-bad_length
returns-then-bad_length c = search (verify_length, c.in_ok-check_input.ensures)

pub check_legal-requires-clause-sized : goal.check_legal-requires-clause-sized
check_legal-requires-clause-sized c = search (mapped_sized, c.in_ok-check_input.ensures)

pub returns : goal.returns
returns c = search (verify_legal, c.in_ok-check_input.ensures)
