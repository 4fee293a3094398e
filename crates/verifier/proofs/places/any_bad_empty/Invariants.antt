-- `any_bad_empty` meets its contract: no slot below j is wrong, until one is or all are passed.
use Rattle.facts.proofs.Loops.{NoneYet}
use Rattle.netlist.specs.Kinds.{slots}
use Rattle.netlist.specs.Records.{blank}
use Rattle.verifier.specs.Checks.{bad_empty}
use Rattle.verifier.proofs.places.any_bad_empty.Given as goal

abbrev pub invariant-loop-j : goal.invariant-loop-j
invariant-loop-j l = NoneYet (bad_empty l.kind blank l.r) slots l.j
