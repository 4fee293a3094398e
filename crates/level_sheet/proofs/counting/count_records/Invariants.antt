-- `count_records` meets its contract: the records below k are counted.
use Rattle.netlist.specs.Records.{netlist}
use Rattle.level_sheet.proofs.Table.{Counting}
use Rattle.level_sheet.proofs.counting.count_records.Given as goal

abbrev pub invariant-loop-k : goal.invariant-loop-k
invariant-loop-k l = Counting (netlist l.mapped) l.k-end l.table l.k
