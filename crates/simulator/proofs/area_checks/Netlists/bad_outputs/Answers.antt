-- `Netlists::bad_outputs` meets its contract: R × outputs fits, and is compared.
use Rattle.simulator.proofs.Checks.{outs_fit}
use Rattle.simulator.proofs.area_checks.Netlists.bad_outputs.Goals as goal

pub overflow_mul-result : goal.overflow_mul-result
overflow_mul-result c = record { fits = search outs_fit }
