-- `bad_slots` meets its contract: no slot below j is bad, until one is or all are passed.
use borrow.Author.Rules.{rules}
use Rattle.facts.proofs.Loops.{any_start, any_more, any_found, any_end}
use Rattle.netlist.proofs.source_reader.bad_slots.Goals as goal

pub loop-j-init : goal.loop-j-init
loop-j-init c = search (rules, any_start)

pub returns-then-bad_slot : goal.returns-then-bad_slot
returns-then-bad_slot c = search any_found

pub loop-j-preserved : goal.loop-j-preserved
loop-j-preserved c = search any_more

pub returns : goal.returns
returns c = search any_end
