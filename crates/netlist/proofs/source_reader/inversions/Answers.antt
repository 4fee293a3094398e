-- `inversions` meets its contract: a gate's byte has one bit for each slot it uses.
use Rattle.netlist.proofs.Checks.{limit_gate, limit_other, arity_fits, arity_below}
use Rattle.netlist.proofs.source_reader.inversions.Goals as goal

pub overflow_cast-result : goal.overflow_cast-result
overflow_cast-result c = search arity_fits

pub overflow_shl-result : goal.overflow_shl-result
overflow_shl-result c = search arity_below

pub returns-then-is_gate : goal.returns-then-is_gate
returns-then-is_gate c = search limit_gate

pub returns : goal.returns
returns c = search limit_other
