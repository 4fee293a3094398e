-- Specification 8.3: shares worked through.
use Rattle.std.specs.Prelude.{ℕ, ◌≡◌, List, [], ◌∷◌, map}
use Rattle.mapper.specs.Answer.{share}

-- JJs of the buffers, JJs in all, and the share that is answered
pub record ShareCase : Type 0 where
  pub part : ℕ
  pub whole : ℕ
  pub answer : ℕ

-- a row of them
abbrev pub share_case : ℕ → ℕ → ℕ → ShareCase
share_case part whole answer = record { part = part; whole = whole; answer = answer }

-- 12.5, 13.5, 12.53, 13.49, 33.3, 66.7 and 50 percent, and no JJs
abbrev pub shares : List ShareCase
shares =
    share_case 6 48 12
    ∷ share_case 162 1200 14
    ∷ share_case 92 734 13
    ∷ share_case 160 1186 13
    ∷ share_case 6 18 33
    ∷ share_case 12 18 67
    ∷ share_case 6 12 50
    ∷ share_case 0 0 0
    ∷ []

-- each is the mapper's share
abbrev pub SharesTrue : Type 0
SharesTrue = map (λ c. share c.part c.whole) shares ≡ map (λ c. c.answer) shares
