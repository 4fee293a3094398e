-- The table of checks (specification 3.3) as an order, and what it is for an answer to be the first failing check.
use Rattle.std.specs.Prelude.{ℕ, ◌<◌, ◌≡◌, ◌⊎◌, ◌↔◌, List, [], ◌∷◌, get_or}
use Rattle.facts.specs.Answers.{Checked, Passed, Refused}

infixr 15 ◌or◌
-- entry n is the row of number n in the table; rows are checked from 1 on
abbrev pub rows : List ℕ
rows = 0 ∷ 1 ∷ 7 ∷ 8 ∷ 9 ∷ 9 ∷ 9 ∷ 9 ∷ 12 ∷ 13 ∷ 14 ∷ 15 ∷ 16 ∷ 16 ∷ 16 ∷ 16 ∷ 17 ∷ 18 ∷ 19 ∷ 20 ∷ 22 ∷ 21 ∷ 10 ∷ 11 ∷ 5 ∷ 6 ∷ 2 ∷ 3 ∷ 4 ∷ []

abbrev pub row_of : ℕ → ℕ
row_of number = get_or rows number 0

-- number m at place q is checked before number n at place p: by row, then by place, then by number
abbrev pub Earlier : ℕ → ℕ → ℕ → ℕ → Type 0
Earlier m q n p = (row_of m < row_of n) ⊎ ((row_of m ≡ row_of n) × ((q < p) ⊎ ((q ≡ p) × (m < n))))

-- conditions by number and place: F n p says that check n fails at place p
abbrev pub Conditions : Type 1
Conditions = ℕ → ℕ → Type 0

-- one number at one place, on one condition
abbrev pub Fails : ℕ → ℕ → Type 0 → Conditions
Fails number place C n p = (n ≡ number) × (p ≡ place) × C

-- either's conditions
abbrev pub ◌or◌ : Conditions → Conditions → Conditions
(F or G) n p = F n p ⊎ G n p

-- the conditions of each index below size
abbrev pub Each : ℕ → (ℕ → Conditions) → Conditions
Each size F n p = (i : ℕ) × (i < size) × F i n p

-- nothing fails
abbrev pub Clear : Conditions → Type 0
Clear F = (n p : ℕ) → F n p → ⊥

-- n fails at p, and nothing that is checked earlier does
abbrev pub FirstAt : Conditions → ℕ → ℕ → Type 0
FirstAt F n p = F n p × ((m q : ℕ) → Earlier m q n p → F m q → ⊥)

-- the answer is the first failing check, in order
pub record First (F : Conditions) (a : Checked) : Type 0 where
  pub clear : a ≡ Passed → Clear F
  pub fails : (n p : ℕ) → a ≡ Refused n p → FirstAt F n p

-- so a number is answered exactly where it is the first that fails, and the call accepts exactly if nothing fails
pub record Exact (F : Conditions) (a : Checked) : Type 0 where
  pub refused : (n p : ℕ) → (a ≡ Refused n p) ↔ FirstAt F n p
  pub passed : (a ≡ Passed) ↔ Clear F
