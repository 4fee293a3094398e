-- For functions inside the engine alone: the eleven prices that apply.
use Rattle.std.specs.Prelude.{ℕ, ◌≤◌, ◌≡◌, List, [], ◌∷◌, length, get_or}
use Rattle.facts.specs.Answers.{Passed}
use Rattle.prices.specs.Prices.{list_length}
use Rattle.prices.specs.Checks.{price_list_checks}

-- the prices of an empty list, written as a list: six for gates, five for buffers
abbrev pub plain_list : List ℕ
plain_list = 6 ∷ 6 ∷ 6 ∷ 6 ∷ 6 ∷ 6 ∷ 2 ∷ 2 ∷ 2 ∷ 2 ∷ 2 ∷ []

-- the list that applies
abbrev pub applied : List ℕ → List ℕ
applied [] = plain_list
applied (p ∷ ps) = p ∷ ps

-- eleven prices that 27 and 28 pass, each of one byte
pub record AppliedPrices (prices : List ℕ) : Type 0 where
  pub size : length prices ≡ list_length
  pub small : (p : ℕ) → get_or prices p 0 ≤ 255
  pub passes : price_list_checks prices ≡ Passed
