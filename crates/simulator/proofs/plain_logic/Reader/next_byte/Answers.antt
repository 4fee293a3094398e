-- `Reader::next_byte` meets its contract: an input is given its byte, every other record has its function's value.
use Rattle.simulator.proofs.Values.{value_input, value_gate}
use Rattle.simulator.proofs.plain_logic.Reader.next_byte.Goals as goal

pub returns-then-self-eq-INPUT : goal.returns-then-self-eq-INPUT
returns-then-self-eq-INPUT c = search value_input

pub returns : goal.returns
returns c = search value_gate
