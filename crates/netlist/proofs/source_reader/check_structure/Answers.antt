-- `check_structure` meets its contract: each return follows from the tests that led there.
use borrow.Author.Tests.{lt-ltb}
use Rattle.netlist.proofs.Checks.{inversion_bad, slots_bad, structure_good}
use Rattle.netlist.proofs.source_reader.check_structure.Goals as goal

pub returns-then-r-gt-OUTPUT : goal.returns-then-r-gt-OUTPUT
returns-then-r-gt-OUTPUT c = search lt-ltb

pub returns-then-inversions-r : goal.returns-then-inversions-r
returns-then-inversions-r c = search inversion_bad

pub returns-then-bad_slots : goal.returns-then-bad_slots
returns-then-bad_slots c = search slots_bad

pub returns : goal.returns
returns c = search structure_good
