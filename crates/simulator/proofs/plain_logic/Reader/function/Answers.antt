-- `Reader::function` meets its contract: a gate is a majority, an output and a buffer copy.
use Rattle.simulator.proofs.Values.{function_majority, function_none, function_copy}
use Rattle.simulator.proofs.plain_logic.Reader.function.Goals as goal

pub returns-then-is_gate : goal.returns-then-is_gate
returns-then-is_gate c = search function_majority

pub returns-then-arity-eq0 : goal.returns-then-arity-eq0
returns-then-arity-eq0 c = search function_none

pub returns : goal.returns
returns c = search function_copy
