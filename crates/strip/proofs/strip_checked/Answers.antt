-- `strip_checked` meets its contract: 1, then the rest.
use Rattle.std.proofs.Common.{rules, ◌≡◌, Err}
use Rattle.strip.proofs.Answering.{allowed_answered, allowed_written, capacity_refused, capacity_kept}
use Rattle.strip.proofs.strip_checked.Goals as goal

pub returns-in_err-check_capacities-clause-value : goal.returns-in_err-check_capacities-clause-value
returns-in_err-check_capacities-clause-value c =
    let e : c.from_residual.result ≡ Err c.in_err-check_capacities.field-0.0 = search rules in
    rw e (search (capacity_refused, c.in_err-check_capacities.ensures))

pub returns-in_err-check_capacities-clause-area_after : goal.returns-in_err-check_capacities-clause-area_after
returns-in_err-check_capacities-clause-area_after c = search (capacity_kept, c.in_err-check_capacities.ensures)

pub returns-clause-value : goal.returns-clause-value
returns-clause-value c = search (allowed_answered, c.in_ok-check_capacities.ensures)

pub returns-clause-area_after : goal.returns-clause-area_after
returns-clause-area_after c = search (allowed_written, c.in_ok-check_capacities.ensures)
