-- For private functions alone: what the count's code keeps while it fills the row of one driver.
use Rattle.std.specs.Prelude.{ℕ, suc, ◌+◌, ◌-◌, ◌≤◌, ◌<◌, ◌^◌, ◌≡◌, cond, List, length, get_or, replicate, ltb, eqb}
use Rattle.facts.specs.Sums.{count, count₂}
use Rattle.netlist.specs.declared.Record.{Record}
use Rattle.netlist.specs.Kinds.{slots, top_level}
use Rattle.netlist.specs.Records.{Netlist, slot}
use Rattle.netlist.specs.Source.{IsSource}
use Rattle.fanout.specs.Nets.{sink_at, added}

-- sinks of d at distance x among the records below i and the first j slots of record i
abbrev pub sinks_so_far : Netlist → ℕ → ℕ → ℕ → ℕ → ℕ
sinks_so_far m d i j x = count₂ (sink_at m d x) slots i + count (sink_at m d x i) j

-- a row holds the sinks so far, none of them beyond `far`
pub record RowSoFar (m : Netlist) (d i j : ℕ) (r : List ℕ) (far : ℕ) : Type 0 where
  pub long : length r ≡ suc top_level
  pub entry : (x : ℕ) → x ≤ top_level → get_or r x 0 ≡ sinks_so_far m d i j x
  pub within : far ≤ top_level
  pub past : (x : ℕ) → far < x → get_or r x 0 ≡ 0

-- a record of a source, its level, and its row filled up to a record
pub record RowAtRecord (m : Netlist) (d below i : ℕ) (r : List ℕ) (far : ℕ) : Type 0 where
  pub is_source : IsSource m
  pub present : d < m.size
  pub driver : below ≡ (m.at d).level
  pub inside : i < m.size
  pub filled : RowSoFar m d i 0 r far

-- a record of a source, and a row of zeros
pub record Empty (m : Netlist) (d : ℕ) (r : List ℕ) : Type 0 where
  pub is_source : IsSource m
  pub present : d < m.size
  pub zeros : r ≡ replicate (suc top_level) 0

-- there is room for one more sink at a distance
pub record SinkRoom (r : List ℕ) (x : ℕ) : Type 0 where
  pub in_row : x ≤ top_level
  pub fits : get_or r x 0 + 1 < 2 ^ 32

-- slot j of a record that stands above the driver, where it names it, and room for it
pub record Slot (row : List ℕ) (d below : ℕ) (r : Record) (j : ℕ) : Type 0 where
  pub above : slot r j ≡ d → below ≤ r.level
  pub room : slot r j ≡ d → SinkRoom row (r.level - below)

-- the larger of two distances
abbrev pub farther : ℕ → ℕ → ℕ
farther far x = cond (ltb far x) x far

-- the row and its largest distance after slot j of a record: one more sink where it names d
abbrev pub row_with : ℕ → ℕ → Record → ℕ → List ℕ → List ℕ
row_with d below r j row = cond (eqb (slot r j) d) (added row (r.level - below)) row

abbrev pub far_with : ℕ → ℕ → Record → ℕ → ℕ → ℕ
far_with d below r j far = cond (eqb (slot r j) d) (farther far (r.level - below)) far
