-- For functions inside the engine alone: what they are handed once 1, 26 and 2 to 7 have passed.
use Rattle.std.specs.Prelude.{ℕ, List}
use Rattle.netlist.specs.declared.Capacities.{Capacities}
use Rattle.netlist.specs.Capacities.{Allowed}
use Rattle.netlist.specs.Source.{Source}

-- what passing checks 1, 26 and 2 to 7 means: a source and capacities
pub record Input (source : List ℕ) (caps : Capacities) : Type 0 where
  pub is_source : Source source
  pub allowed : Allowed caps
