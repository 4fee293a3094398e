-- `assign_levels` meets its contract: 1 first, then the rest.
use Rattle.std.proofs.Common.{rules, ◌≡◌, Err}
use Rattle.levels.proofs.Answering.{allowed_low, allowed_high, allowed_answered, allowed_written, capacity_refused, capacity_kept}
use Rattle.levels.proofs.assign_levels.Goals as goal

pub level_source-requires : goal.level_source-requires
level_source-requires c = search (allowed_low, allowed_high, c.in_ok-check_capacity.ensures)

pub returns-in_err-check_capacity : goal.returns-in_err-check_capacity
returns-in_err-check_capacity c =
    let e : c.from_residual.result ≡ Err c.in_err-check_capacity.field-0.0 = search rules in
    record {
      answer = rw e (search (capacity_refused, c.in_err-check_capacity.ensures));
      area = search (capacity_kept, c.in_err-check_capacity.ensures);
    }

pub returns : goal.returns
returns c = record {
  answer = search (allowed_answered, c.in_ok-check_capacity.ensures);
  area = search (allowed_written, c.in_ok-check_capacity.ensures);
}
