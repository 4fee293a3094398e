-- `raise` meets its contract: levels are worked out below k.
use Rattle.std.proofs.Common.{rules}
use Rattle.levels.proofs.FaninLevels.{levelling_start, slots_inside, entry_fits, levelling_more}
use Rattle.levels.proofs.raising.raise.Goals as goal

pub loop-k-init : goal.loop-k-init
loop-k-init c = search levelling_start

pub level_of-level-requires : goal.level_of-level-requires
level_of-level-requires c = search (rules, slots_inside)

pub overflow_add-reach : goal.overflow_add-reach
overflow_add-reach c = record { fits = search entry_fits }

pub loop-k-preserved : goal.loop-k-preserved
loop-k-preserved c = search levelling_more
