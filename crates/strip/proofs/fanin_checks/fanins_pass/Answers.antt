-- `fanins_pass` meets its contract: the records before the first buffer, then the buffers.
use Rattle.strip.proofs.Fanins.{records_inside, record_refused, fanins_decided}
use Rattle.strip.proofs.fanin_checks.fanins_pass.Goals as goal

pub any_bad_record-requires : goal.any_bad_record-requires
any_bad_record-requires c = search records_inside

pub returns-then-any_bad_record : goal.returns-then-any_bad_record
returns-then-any_bad_record c = search record_refused

pub returns : goal.returns
returns c = search fanins_decided
