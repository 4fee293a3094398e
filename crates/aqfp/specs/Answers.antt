-- Specification 3.2: an answer's numbers in an area of their own, four bytes each, low byte first, in the order given.
use Rattle.std.specs.Prelude.{ℕ, ◌≡◌, List, [], ◌∷◌, ◌++◌}
use Rattle.facts.specs.Bytes.{four}

-- the bytes of an answer's numbers
unfoldable pub numbers : List ℕ → List ℕ
numbers [] = []
numbers (n ∷ ns) = four n ++ numbers ns

-- an answer's first number, which the call also returns
abbrev pub first : List ℕ → ℕ
first [] = 0
first (n ∷ ns) = n

-- the numbers of a call that counts one number: accepted, and refused
abbrev pub counted : ℕ → List ℕ
counted n = 0 ∷ 0 ∷ n ∷ []

abbrev pub refused : ℕ → ℕ → List ℕ
refused number place = number ∷ place ∷ 0 ∷ []

-- a call's answer: the first number returned, and all of them in the answer's area
pub record Answered (returned : ℕ) (area : List ℕ) (answer : List ℕ) : Type 0 where
  pub number : returned ≡ first answer
  pub written : area ≡ numbers answer
