-- No two checks have one number: the table, read from a number, gives the check back.
use Rattle.std.proofs.Common.{ℕ, ◌≡◌, List, [], ◌∷◌, refl, sym, ap, ◌∙◌, ◌-◌, slice_index_or}
use Rattle.facts.specs.declared.refusal.Check.{Check}
use Rattle.facts.specs.declared.refusal.Check.TheVariants as check
use Rattle.facts.specs.Answers.{number_of, NumbersApart}

-- the checks by rising number, from 1 on
table : List Check
table =
    check.BufferCapacity ∷ check.SourceLength ∷ check.SourceSize ∷ check.SourceKind ∷ check.Inversion ∷ check.Slots ∷
    check.Level ∷ check.NoTree ∷ check.MappedSize ∷ check.MappedRoom ∷ check.MappedLength ∷ check.SourceKept ∷
    check.BufferRecord ∷ check.Fanin ∷ check.FaninLevel ∷ check.Driver ∷ check.Capacity ∷ check.RowLengths ∷
    check.Bit ∷ check.NoDriver ∷ check.ListLengths ∷ check.LeastLevel ∷ check.CopyLength ∷ check.NoSource ∷
    check.SourceRoom ∷ check.InputCapacity ∷ check.PriceListLength ∷ check.Price ∷ []

check_of : ℕ → Check
check_of number = slice_index_or table (number - 1) check.Price

given_back : (a : Check) → check_of (number_of a) ≡ a
unfolding table check_of
given_back check.BufferCapacity = refl
given_back check.SourceLength = refl
given_back check.SourceSize = refl
given_back check.SourceKind = refl
given_back check.Inversion = refl
given_back check.Slots = refl
given_back check.Level = refl
given_back check.NoTree = refl
given_back check.MappedSize = refl
given_back check.MappedRoom = refl
given_back check.MappedLength = refl
given_back check.SourceKept = refl
given_back check.BufferRecord = refl
given_back check.Fanin = refl
given_back check.FaninLevel = refl
given_back check.Driver = refl
given_back check.Capacity = refl
given_back check.RowLengths = refl
given_back check.Bit = refl
given_back check.NoDriver = refl
given_back check.ListLengths = refl
given_back check.LeastLevel = refl
given_back check.CopyLength = refl
given_back check.NoSource = refl
given_back check.SourceRoom = refl
given_back check.InputCapacity = refl
given_back check.PriceListLength = refl
given_back check.Price = refl

pub numbers_apart : NumbersApart
numbers_apart a b e = sym (given_back a) ∙ (ap check_of e ∙ given_back b)
