-- `bad_level` meets its contract: the own level first, then the fanins.
use Rattle.netlist.proofs.Checks.{misplaced_bad, fanins_bad}
use Rattle.netlist.proofs.source_reader.bad_level.Goals as goal

pub returns-then-is_misplaced : goal.returns-then-is_misplaced
returns-then-is_misplaced c = search misplaced_bad

pub returns : goal.returns
returns c = search fanins_bad
