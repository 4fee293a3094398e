-- Checks 27 and 28 (specification 3.3): the length of a price list, then a price of 0.
use Rattle.std.specs.Prelude.{ℕ, Bool, not, ◌&&◌, List, length, get_or, eqb}
use Rattle.facts.specs.Answers.{Checked}
use Rattle.facts.specs.Checks.{check, ◌and_then◌, scan}
use Rattle.prices.specs.Prices.{list_length}

-- 27: neither empty nor 11 bytes long
abbrev pub bad_list_length : List ℕ → Bool
bad_list_length list = not (eqb (length list) 0) && not (eqb (length list) list_length)

-- 28 at position p: a price of 0
abbrev pub price_check : List ℕ → ℕ → Checked
price_check list p = check 28 p (eqb (get_or list p 0) 0)

-- 27 and 28
unfoldable pub price_list_checks : List ℕ → Checked
price_list_checks list = check 27 0 (bad_list_length list) and_then scan (price_check list) 0 (length list)
