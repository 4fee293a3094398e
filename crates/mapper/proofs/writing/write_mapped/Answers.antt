-- `write_mapped` meets its contract: the buffers, then the source.
use Rattle.mapper.proofs.Whole.{whole_area}
use Rattle.mapper.proofs.writing.write_mapped.Goals as goal

pub returns-clause-area_after : goal.returns-clause-area_after
returns-clause-area_after c = search whole_area
