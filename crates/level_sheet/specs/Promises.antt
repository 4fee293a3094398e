-- What a sheet says of a netlist: its lines, its columns and its totals, over the bytes that were handed in.
use Rattle.std.specs.Prelude.{ℕ, suc, ◌+◌, ◌*◌, ◌-◌, ◌≤◌, ◌<◌, ◌≡◌, ◌↔◌, ◌≢◌, List, [], ◌∷◌, length, get_or, take}
use Rattle.facts.specs.Answers.{Passed, Refused}
use Rattle.facts.specs.Sums.{sum}
use Rattle.netlist.specs.declared.Capacities.{Capacities}
use Rattle.netlist.specs.Records.{netlist, record_count, record_at}
use Rattle.netlist.specs.Checks.{input_checks}
use Rattle.verifier.specs.Checks.{Buffers}
use Rattle.verifier.specs.Checks.{verify_answer}
use Rattle.level_sheet.specs.Counts.{columns, counts_at, totals, line_count}
use Rattle.level_sheet.specs.Text.{digit_zero, decimal, refusal_line, sheet_text}

-- a level has a line exactly if a record stands at it or above it
abbrev pub LinesExactly : Type 0
LinesExactly =
    (mapped : List ℕ) (level : ℕ) →
    (level < line_count (netlist mapped)) ↔ ((k : ℕ) × (k < record_count mapped) × (level ≤ (record_at mapped k).level))

-- each column of the lines adds up to its total
abbrev pub ColumnsAdd : Type 0
ColumnsAdd =
    (mapped : List ℕ) (column : ℕ) →
    sum (λ level. get_or (counts_at (netlist mapped) level) column 0) (line_count (netlist mapped))
    ≡ get_or (totals (netlist mapped)) column 0

-- a level at which no record stands has zeros in every column
abbrev pub EmptyLevel : Type 0
EmptyLevel =
    (mapped : List ℕ) (level column : ℕ) → ((k : ℕ) → k < record_count mapped → (record_at mapped k).level ≢ level) →
    get_or (counts_at (netlist mapped) level) column 0 ≡ 0

-- where the verifier accepts, every record is counted: the totals are M together
abbrev pub AllCounted : Type 0
AllCounted =
    (source : List ℕ) (caps : Capacities) (mapped : List ℕ) (buffers : ℕ) →
    verify_answer source caps mapped ≡ Buffers buffers →
    sum (λ column. get_or (totals (netlist mapped)) column 0) columns ≡ record_count mapped

-- where the verifier accepts, no line has zeros in every column
abbrev pub NoEmptyLine : Type 0
NoEmptyLine =
    (source : List ℕ) (caps : Capacities) (mapped : List ℕ) (buffers level : ℕ) →
    verify_answer source caps mapped ≡ Buffers buffers → level < line_count (netlist mapped) →
    0 < sum (λ column. get_or (counts_at (netlist mapped) level) column 0) columns

-- the number that digits stand for, read on from a number
unfoldable pub read_on : ℕ → List ℕ → ℕ
read_on n [] = n
read_on n (digit ∷ digits) = read_on (10 * n + (digit - digit_zero)) digits

-- a number in decimal
pub record DecimalExact : Type 0 where
  -- it has a digit, and nothing but digits
  pub some : (n : ℕ) → 0 < length (decimal n)
  pub digits : (n i : ℕ) → i < length (decimal n) → (digit_zero ≤ get_or (decimal n) i 0) × (get_or (decimal n) i 0 < digit_zero + 10)
  -- they stand for the number
  pub read : (n : ℕ) → read_on 0 (decimal n) ≡ n
  -- and begin with 0 for no number but 0
  pub first : (n : ℕ) → 0 < n → get_or (decimal n) 0 0 ≢ digit_zero

-- the most bytes of a mapped file
abbrev pub file_limit : ℕ
file_limit = 60000

-- what is read of a mapped file: one byte more than it may have
abbrev pub part_read : List ℕ → List ℕ
part_read file = take (suc file_limit) file

-- what is printed of the part of a mapped file that is read
pub record FileJudged : Type 0 where
  -- of a file of more than 60,000 bytes: 11, where 1, 26 and 2 to 7 pass
  pub long : (source : List ℕ) (caps : Capacities) (file : List ℕ) → file_limit < length file →
      input_checks source caps ≡ Passed → sheet_text source caps (part_read file) ≡ refusal_line 11 0
  -- and else the first of these
  pub first : (source : List ℕ) (caps : Capacities) (file : List ℕ) (number place : ℕ) → file_limit < length file →
      input_checks source caps ≡ Refused number place → sheet_text source caps (part_read file) ≡ refusal_line number place
  -- any other file is read whole
  pub whole : (file : List ℕ) → length file ≤ file_limit → part_read file ≡ file
