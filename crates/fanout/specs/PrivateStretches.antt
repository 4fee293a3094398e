-- For functions inside the engine alone: the way down a row over stretches of distances without sinks.
use Rattle.std.specs.Prelude.{ℕ, suc, ◌/◌, ◌%◌, ◌^◌, ◌≤◌, ◌<◌, ◌≡◌, Bool, false, List, get_or}

-- distances of a stretch
abbrev pub stretch : ℕ
stretch = 64

-- bit i of a word
abbrev pub bit_at : ℕ → ℕ → ℕ
bit_at word i = word / 2 ^ i % 2

-- each distance below k with sinks lies in a stretch whose bit is set; more bits do no harm
pub record InStretches (counts : List ℕ) (k stretches : ℕ) : Type 0 where
  pub at : (x : ℕ) → x < k → 0 < get_or counts x 0 → bit_at stretches (x / stretch) ≡ 1

-- a distance below x, at least 1; what lies between them stands in stretches whose bits are not set
pub record NextByStretch (stretches x r : ℕ) : Type 0 where
  pub above : 1 ≤ r
  pub below : r < x
  pub between : (y : ℕ) → r < y → y < x → bit_at stretches (y / stretch) ≡ 0

-- a distance below k, at least 1, with no sinks between them
pub record NextSinks (counts : List ℕ) (k r : ℕ) : Type 0 where
  pub above : 1 ≤ r
  pub below : r < k
  pub between : (x : ℕ) → r < x → x < k → get_or counts x 0 ≡ 0

-- the distance to go to from k: distances are passed by a single node only, and where no buffers are kept
pub record NextDistance (counts : List ℕ) (keep : Bool) (nodes k r : ℕ) : Type 0 where
  pub next : NextSinks counts k r
  pub single : suc r < k → nodes ≡ 1
  pub unkept : suc r < k → keep ≡ false
