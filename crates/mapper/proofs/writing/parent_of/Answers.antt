-- `parent_of` meets its contract: at distance 1 the first parent itself, else q / s behind it.
use Rattle.mapper.proofs.WriteRecords.{behind_near, behind_far, behind_fits, back_fits}
use Rattle.mapper.proofs.writing.parent_of.Goals as goal

pub overflow_cast-result : goal.overflow_cast-result
overflow_cast-result c = search back_fits

pub overflow_add-result : goal.overflow_add-result
overflow_add-result c = search behind_fits

pub returns-then-k-lt2 : goal.returns-then-k-lt2
returns-then-k-lt2 c = search behind_near

pub returns-else-k-lt2 : goal.returns-else-k-lt2
returns-else-k-lt2 c = search behind_far
