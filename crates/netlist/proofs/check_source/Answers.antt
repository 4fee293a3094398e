-- `check_source` meets its contract: the size first, then every record.
use Rattle.std.proofs.Common.{rules}
use Rattle.netlist.specs.Checks.{source_checks}
use Rattle.netlist.proofs.check_source.Goals as goal

pub returns-in_err-check_size : goal.returns-in_err-check_size
unfolding source_checks
returns-in_err-check_size c = search rules

pub returns : goal.returns
unfolding source_checks
returns c = search rules
