-- For functions inside the engine alone: what the local array of all nets' numbers holds.
use Rattle.std.specs.Prelude.{ℕ, ◌<◌, ◌≡◌, List, get_or}
use Rattle.netlist.specs.declared.Capacities.{Capacities}
use Rattle.netlist.specs.Kinds.{source_limit}
use Rattle.netlist.specs.Records.{Netlist}
use Rattle.fanout.specs.Answer.{net_count, count_numbers}
use Rattle.nets.specs.Counts.{index_count, index_at}

-- what the single call's third number is for record d, if it is a driver
abbrev pub net_number : Netlist → Capacities → ℕ → ℕ
net_number n caps d = get_or (count_numbers (net_count n caps d)) 2 0

-- the numbers of the first m records
pub record NetNumbers (n : Netlist) (caps : Capacities) (m : ℕ) (totals : List ℕ) : Type 0 where
  pub at : (d : ℕ) → d < m → get_or totals d 0 ≡ net_number n caps d

-- every index of a list stands within an array for the largest source
pub record IndicesIn (records : List ℕ) : Type 0 where
  pub at : (k : ℕ) → k < index_count records → index_at records k < source_limit
