-- A call's answer in the numbers of specification 3: passed, or the number of the first failing check (3.3) and its place; and these
-- numbers of what code hands back.
use Rattle.std.specs.Prelude.{ℕ, ◌≡◌, Result, Ok, Err}
use Rattle.facts.specs.declared.refusal.Check.{Check}
use Rattle.facts.specs.declared.refusal.Check.TheVariants as check
use Rattle.facts.specs.declared.refusal.Refusal.{Refusal}

-- all checks passed, or the number of the first that failed and its place
pub data Checked : Type 0 where
  Passed : Checked
  Refused : (number place : ℕ) → Checked

-- the number of each check in the table
abbrev pub number_of : Check → ℕ
number_of check.BufferCapacity = 1
number_of check.SourceLength = 2
number_of check.SourceSize = 3
number_of check.SourceKind = 4
number_of check.Inversion = 5
number_of check.Slots = 6
number_of check.Level = 7
number_of check.NoTree = 8
number_of check.MappedSize = 9
number_of check.MappedRoom = 10
number_of check.MappedLength = 11
number_of check.SourceKept = 12
number_of check.BufferRecord = 13
number_of check.Fanin = 14
number_of check.FaninLevel = 15
number_of check.Driver = 16
number_of check.Capacity = 17
number_of check.RowLengths = 18
number_of check.Bit = 19
number_of check.NoDriver = 20
number_of check.ListLengths = 21
number_of check.LeastLevel = 22
number_of check.CopyLength = 23
number_of check.NoSource = 24
number_of check.SourceRoom = 25
number_of check.InputCapacity = 26
number_of check.PriceListLength = 27
number_of check.Price = 28

-- no two checks have one number: an answer told in numbers is told whole
abbrev pub NumbersApart : Type 0
NumbersApart = (a b : Check) → number_of a ≡ number_of b → a ≡ b

-- an answer told by cases: what is accepted, or a refusal's number and place
abbrev pub told : {A B : Type 0} → Result A Refusal → (A → B) → (ℕ → ℕ → B) → B
told (Ok a) accepted refused = accepted a
told (Err r) accepted refused = refused (number_of r.check) r.place

-- an answer that accepts with nothing to tell
abbrev pub numbered : {A : Type 0} → Result A Refusal → Checked
numbered answer = told answer (λ a. Passed) Refused
