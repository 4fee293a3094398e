-- Specification 7.1: the capacities as a program reads them.
use Rattle.std.specs.Prelude.{ℕ, List, get_or}
use Rattle.netlist.specs.declared.Capacities.{Capacities}
use Rattle.netlist.specs.Capacities.{capacities_of}
use Rattle.netlist.specs.Records.{field}

-- bytes that they take
abbrev pub capacity_bytes : ℕ
capacity_bytes = 3

-- one byte for s, then two for b, low byte first; a missing byte counts as 0
abbrev pub capacities_in : List ℕ → Capacities
capacities_in bytes = capacities_of (get_or bytes 0 0) (field bytes 1)
