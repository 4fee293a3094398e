-- `buffers_pass` meets its contract: the records from n on, below k, are good buffers, and what is known of their drivers is right.
use mathlib.Core.Path.{◌≡◌}
use lib.ListN.{length}
use Rattle.netlist.specs.Records.{netlist}
use Rattle.strip.proofs.Fanins.{BuffersSoFar}
use Rattle.strip.proofs.fanin_checks.buffers_pass.Given as goal

abbrev pub invariant-loop-k : goal.invariant-loop-k
invariant-loop-k l = BuffersSoFar l.n (netlist l.mapped) l.m l.drivers l.k × (length l.drivers ≡ length l.initial.drivers)
