-- `map_source` meets its contract: the arrays are long enough.
use Rattle.nets.proofs.TreeCounts.{input_source}
use Rattle.nets.proofs.Chains.{records_few, slots_few}
use Rattle.mapper.proofs.map_source.Goals as goal

pub map_in-requires-2-clause-n_in_bounds : goal.map_in-requires-2-clause-n_in_bounds
map_in-requires-2-clause-n_in_bounds c = (search (input_source, records_few), search (input_source, slots_few))
