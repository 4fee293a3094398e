-- The trace as a computation: back through buffers, a level a step (specification 2.3).
use Rattle.std.specs.Prelude.{ℕ, zero, suc, cond, eqb}
use Rattle.netlist.specs.Kinds.{buffer}
use Rattle.netlist.specs.Records.{Netlist, fanin}

-- back from record x through at most `level` buffers
unfoldable pub walk : Netlist → ℕ → ℕ → ℕ
walk m zero x = x
walk m (suc level) x = cond (eqb (m.at x).kind buffer) (walk m level (fanin m x 0)) x

-- where record x, traced back, ends: at most as many buffers as its level
abbrev pub driver : Netlist → ℕ → ℕ
driver m x = walk m (m.at x).level x
