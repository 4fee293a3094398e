-- Numbers of four bytes, low byte first.
use Rattle.std.specs.Prelude.{ℕ, ◌*◌, List, length, take, drop, cond, ltb}
use Rattle.std.specs.Int.{from_le_bytes, w32}

-- how many bytes a number has
abbrev pub number_bytes : ℕ
number_bytes = 4

-- the number at the start of some bytes, 0 where they end before it does
abbrev pub first_number : List ℕ → ℕ
first_number bytes = cond (ltb (length bytes) number_bytes) 0 (from_le_bytes w32 (take number_bytes bytes))

-- number k of some bytes
abbrev pub number_at : List ℕ → ℕ → ℕ
number_at bytes k = first_number (drop (number_bytes * k) bytes)
