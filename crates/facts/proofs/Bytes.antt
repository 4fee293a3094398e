-- Laws of numbers as bytes: two of them give the number back, four tell it, and two stores at a place put a number's bytes there.
use Prim.Native.Nat.{ℕ, zero, suc, ◌+◌, ◌*◌, ◌/◌, ◌%◌, ◌<◌}
use native.Mathlib.Omega.{arith}
use native.Mathlib.Nat.{zero-add, mod-eq_of_lt, div-eq_of_lt, add-mul-div_left, add-mul-mod_self_left}
use native.Mathlib.Numerals.{add-one}
use mathlib.Core.Path.{◌≡◌, sym, ◌∙◌, ap}
use mathlib.Core.List.{List, [], ◌∷◌}
use lib.ListN.{length, get_or, set}
use Rattle.facts.specs.Bytes.{two_bytes, four}
use Rattle.facts.specs.Areas.{put}
use Rattle.facts.proofs.Areas.{sets_put}

-- a two-byte number from its bytes
pub two_back : (v : ℕ) → v < 65536 → v % 256 + 256 * (v / 256 % 256) ≡ v
two_back v l = omega arith

-- and the bytes from the number
pub two_from : (a b : ℕ) → a < 256 → b < 256 → two_bytes (a + 256 * b) ≡ a ∷ b ∷ []
two_from a b l m =
    let high : (a + 256 * b) / 256 ≡ b = add-mul-div_left a b (omega arith) ∙ rw (div-eq_of_lt l) (zero-add b) in
    rw (add-mul-mod_self_left a 256 b, mod-eq_of_lt l, high, mod-eq_of_lt m)

-- two bytes are bytes
pub two_below : (v i : ℕ) → i < 2 → get_or (two_bytes v) i 0 < 256
two_below v zero l = omega arith
two_below v (suc zero) l = omega arith
two_below v (suc (suc i)) l = absurd (omega arith)

pub stores_two : (area : List ℕ) (at v : ℕ) → at + 1 < length area → set (set area at (v % 256)) (at + 1) (v / 256 % 256) ≡ put area at (two_bytes v)
stores_two area at v l = rw (add-one at) (sets_put (two_bytes v) area at (omega arith))

-- a four-byte number from its bytes, which so tell it
from_four : List ℕ → ℕ
from_four b = get_or b 0 0 + (256 * get_or b 1 0 + (65536 * get_or b 2 0 + 16777216 * get_or b 3 0))

together : (n a b c d q r t : ℕ) → n ≡ a + 256 * q → q ≡ b + 256 * r → r ≡ c + 256 * t → t ≡ d →
    a + (256 * b + (65536 * c + 16777216 * d)) ≡ n
together n a b c d q r t e f g h = omega arith

four_back : (n : ℕ) → n < 4294967296 → from_four (four n) ≡ n
unfolding from_four
four_back n l =
    together n (n % 256) (n / 256 % 256) (n / 65536 % 256) (n / 16777216 % 256) (n / 256) (n / 65536) (n / 16777216)
    (omega arith) (omega arith) (omega arith) (omega arith)

pub four_same : (a b : ℕ) → a < 4294967296 → b < 4294967296 → four a ≡ four b → a ≡ b
four_same a b l m e = sym (four_back a l) ∙ ap from_four e ∙ four_back b m
