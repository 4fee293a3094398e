-- `check_list` meets its contract: the length, then the prices.
use Rattle.prices.proofs.Lists.{length_short, list_refused, list_passed}
use Rattle.prices.proofs.check_list.Goals as goal

pub returns-then-bad_list_length : goal.returns-then-bad_list_length
returns-then-bad_list_length c = search list_refused

pub check_prices-requires : goal.check_prices-requires
check_prices-requires c = search length_short

pub returns : goal.returns
returns c = search list_passed
