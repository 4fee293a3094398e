-- Numbers as bytes, low byte first, and lists of bytes.
use Rattle.std.specs.Prelude.{ℕ, ◌/◌, ◌%◌, ◌<◌, List, [], ◌∷◌, length, get_or}

-- every entry is a byte
pub record AreBytes (l : List ℕ) : Type 0 where
  pub each : (i : ℕ) → i < length l → get_or l i 0 < 256

-- a number's two bytes
abbrev pub two_bytes : ℕ → List ℕ
two_bytes v = v % 256 ∷ v / 256 % 256 ∷ []

-- a number's four bytes
abbrev pub four : ℕ → List ℕ
four n = n % 256 ∷ n / 256 % 256 ∷ n / 65536 % 256 ∷ n / 16777216 % 256 ∷ []
