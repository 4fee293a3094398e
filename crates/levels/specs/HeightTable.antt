-- Specification 2.7: the table that heights are looked up in, a row for each capacity.
use Rattle.std.specs.Prelude.{ℕ, ◌^◌, min, ◌≤◌, ◌≡◌, ◌↔◌, List, get_or, leb}
use Rattle.facts.specs.Sums.{seek}
use Rattle.facts.specs.Lists.{tabulate}
use Rattle.fanout.specs.Nets.{sink_limit}
use Rattle.levels.specs.Levels.{height}

-- how many heights the table has: 0 to 15
abbrev pub heights : ℕ
heights = 16

-- the largest number of sinks of height at most h: s to the power h, capped at the slots of the largest source
abbrev pub most_sinks : ℕ → ℕ → ℕ
most_sinks s h = min (s ^ h) sink_limit

-- the row of s: these numbers, by height
abbrev pub height_row : ℕ → List ℕ
height_row s = tabulate (most_sinks s) heights

-- the height of n sinks by a row: the first whose entry is at least n, or 16 where none is
unfoldable pub height_in : List ℕ → ℕ → ℕ
height_in row n = seek (λ h. leb n (get_or row h 0)) 0 heights

-- up to the cap, n is at most the entry of h exactly if its height is at most h
abbrev pub MostExact : Type 0
MostExact = (s n h : ℕ) → 2 ≤ s → n ≤ sink_limit → (n ≤ most_sinks s h) ↔ (height s n ≤ h)

-- up to the cap, what is looked up in the row of s is the height
abbrev pub LookedUp : Type 0
LookedUp = (s n : ℕ) → 2 ≤ s → n ≤ sink_limit → height_in (height_row s) n ≡ height s n
