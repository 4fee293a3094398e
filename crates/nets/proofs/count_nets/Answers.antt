-- `count_nets` meets its contract.
use Rattle.std.proofs.Common.{sym}
use Rattle.nets.proofs.ListedCounts.{counts_kept}
use Rattle.nets.proofs.count_nets.Goals as goal

pub write_list-requires : goal.write_list-requires
write_list-requires c = sym c.in_ok-check_counts.ensures

pub returns-in_err-check_counts-clause-area_after : goal.returns-in_err-check_counts-clause-area_after
returns-in_err-check_counts-clause-area_after c = search (counts_kept, c.in_err-check_counts.ensures)
