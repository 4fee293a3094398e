-- `is_misplaced` meets its contract: each return follows from the tests that led there.
use borrow.Author.Tests.{lt-ltb, le-ltb, eq-eqb, ne_eqb}
use Rattle.netlist.proofs.Checks.{level_input}
use Rattle.netlist.proofs.source_reader.is_misplaced.Goals as goal

pub returns-then-r-gt-TOP_LEVEL : goal.returns-then-r-gt-TOP_LEVEL
returns-then-r-gt-TOP_LEVEL c = search lt-ltb

pub returns-then-r-eq-INPUT : goal.returns-then-r-eq-INPUT
returns-then-r-eq-INPUT c = search level_input

pub returns-then-r-eq-OUTPUT : goal.returns-then-r-eq-OUTPUT
returns-then-r-eq-OUTPUT c = search (le-ltb, eq-eqb, ne_eqb)

pub returns : goal.returns
returns c = search (le-ltb, ne_eqb)
