-- Checks in order: the answer of a call is its first failing check (specification 3.3).
use Rattle.std.specs.Prelude.{ℕ, zero, suc, Bool, true, false, List, [], ◌∷◌}
use Rattle.facts.specs.Answers.{Checked, Passed, Refused}

infixr 20 ◌and_then◌
-- one check: refused, with its number and place, where its condition holds
abbrev pub check : ℕ → ℕ → Bool → Checked
check number place true = Refused number place
check number place false = Passed

-- a's answer where a refuses, else b's
abbrev pub ◌and_then◌ : Checked → Checked → Checked
Passed and_then b = b
(Refused number place) and_then b = Refused number place

-- what passing gives, or what a refusal's number and place give
abbrev pub outcome : {A : Type 0} → Checked → A → (ℕ → ℕ → A) → A
outcome Passed passed refused = passed
outcome (Refused number place) passed refused = refused number place

-- what passing gives; a refusal leaves what was there
abbrev pub unless_refused : {A : Type 0} → Checked → A → A → A
unless_refused answer new old = outcome answer new (λ number place. old)

-- whether checks refuse
abbrev pub refuses : Checked → Bool
refuses answer = outcome answer false (λ number place. true)

-- n places from i on, rising
unfoldable pub scan : (ℕ → Checked) → ℕ → ℕ → Checked
scan f i zero = Passed
scan f i (suc n) = f i and_then scan f (suc i) n

-- the numbers of an answer (specification 3.1): number and place
unfoldable pub checked_numbers : Checked → List ℕ
checked_numbers Passed = 0 ∷ 0 ∷ []
checked_numbers (Refused number place) = number ∷ place ∷ []
