-- `Netlists::bad_rows` meets its contract: R × inputs fits, and each test is the definition's.
use Rattle.simulator.proofs.Checks.{product_fits}
use Rattle.simulator.proofs.area_checks.Netlists.bad_rows.Goals as goal

pub overflow_mul-row_count : goal.overflow_mul-row_count
overflow_mul-row_count c = record { fits = search product_fits }
