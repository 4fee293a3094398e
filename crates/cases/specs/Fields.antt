-- Fields of a file: each is a number, which is its length, and its bytes.
use Rattle.std.specs.Prelude.{ℕ, ◌≡◌, ◌+◌, ◌<◌, ◌++◌, List, [], length, take, Option}
use Rattle.std.specs.Borrow.{Bor}
use Rattle.std.specs.Option.{MatchOption}
use Rattle.cases.specs.declared.Fields.{Fields}
use Rattle.cases.specs.Numbers.{number_bytes, first_number}

-- the bytes that are not read yet
abbrev pub left : Fields → List ℕ
left f = f.rest.now

-- one step from a to b: a field is what stands behind its length; where none stands whole, nothing is left
abbrev pub GivesField : Fields → Option (Bor (List ℕ)) → Fields → Type 0
GivesField a r b =
    MatchOption r ((length (left a) < number_bytes + first_number (left a)) × (left b ≡ []))
    (λ field. (length field.now ≡ first_number (left a)) × (left a ≡ take number_bytes (left a) ++ (field.now ++ left b)))
