-- For private functions alone: the areas of a run.
use Rattle.std.specs.Prelude.{ℕ, ◌*◌, ◌<◌, ◌≤◌, ◌≡◌, List, length, get_or}
use Rattle.netlist.specs.Records.{Netlist}
use Rattle.simulator.specs.Step.{row_limit}
use Rattle.netlist.specs.Counts.{inputs, outputs}

-- a row: one byte, 0 or 1, for each input
pub record IsRow (n : Netlist) (row : List ℕ) : Type 0 where
  pub long : length row ≡ inputs n
  pub bits : (k : ℕ) → k < length row → get_or row k 0 ≤ 1

-- the areas of a run of r rows: every byte of the rows is 0 or 1
pub record IsRun (n m : Netlist) (r : ℕ) (rows area outs : List ℕ) : Type 0 where
  pub few : r ≤ row_limit
  pub long : length rows ≡ r * inputs n
  pub bits : (k : ℕ) → k < length rows → get_or rows k 0 ≤ 1
  pub state : length area ≡ 2 * m.size
  pub room : length outs ≡ r * outputs n
