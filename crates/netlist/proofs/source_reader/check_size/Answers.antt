-- `check_size` meets its contract: each return follows from the tests that led there.
use borrow.Author.Tests.{ne_eqb}
use Rattle.netlist.proofs.Checks.{length_large, length_good}
use Rattle.netlist.proofs.source_reader.check_size.Goals as goal

pub returns-then-bytes-ne0 : goal.returns-then-bytes-ne0
returns-then-bytes-ne0 c = search ne_eqb

pub returns-then-record_count-gt-SOURCE_LIMIT : goal.returns-then-record_count-gt-SOURCE_LIMIT
returns-then-record_count-gt-SOURCE_LIMIT c = search length_large

pub returns : goal.returns
returns c = search length_good
