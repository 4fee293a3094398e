-- `check_lists` meets its contract.
use Rattle.nets.proofs.ListedCounts.{lists_few, lists_bad, lists_good}
use Rattle.nets.proofs.counts.check_lists.Goals as goal

pub returns-then-bad_lists : goal.returns-then-bad_lists
returns-then-bad_lists c = search lists_bad

pub check_indices-requires : goal.check_indices-requires
check_indices-requires c = search lists_few

pub returns : goal.returns
returns c = search lists_good
