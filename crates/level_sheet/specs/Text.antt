-- Specification 7.2: a sheet as it is printed, in ASCII.
use Rattle.std.specs.Prelude.{ℕ, zero, suc, ◌+◌, ◌*◌, ◌/◌, ◌%◌, cond, List, [], ◌∷◌, ◌++◌, ltb}
use Rattle.facts.specs.Checks.{outcome}
use Rattle.facts.specs.Lists.{joined}
use Rattle.netlist.specs.declared.Capacities.{Capacities}
use Rattle.netlist.specs.Kinds.{top_level}
use Rattle.netlist.specs.Records.{Netlist, netlist}
use Rattle.verifier.specs.Checks.{verify_checks}
use Rattle.level_sheet.specs.Counts.{counts_at, totals, line_count}

-- the digit 0, a space, and the end of a line
abbrev pub digit_zero : ℕ
digit_zero = 48

abbrev pub space : ℕ
space = 32

abbrev pub line_end : ℕ
line_end = 10

-- the last digits of a number in decimal, as many as the first argument allows
unfoldable pub decimal_in : ℕ → ℕ → List ℕ
decimal_in zero n = []
decimal_in (suc most) n =
    cond (ltb n 10) ((digit_zero + n) ∷ []) (decimal_in most (n / 10) ++ ((digit_zero + n % 10) ∷ []))

-- a number in decimal; it never has more than n + 1 digits
abbrev pub decimal : ℕ → List ℕ
decimal n = decimal_in (suc n) n

-- a space and a number
abbrev pub spaced : ℕ → List ℕ
spaced n = space ∷ decimal n

-- numbers behind the first word of a line, a space before each, and the end of the line
unfoldable pub numbers_behind : List ℕ → List ℕ
numbers_behind [] = line_end ∷ []
numbers_behind (n ∷ ns) = spaced n ++ numbers_behind ns

-- a line of numbers
abbrev pub line : ℕ → List ℕ → List ℕ
line n ns = decimal n ++ numbers_behind ns

-- the line of a level: the level, inputs, gates, buffers, outputs
abbrev pub level_line : Netlist → ℕ → List ℕ
level_line m level = line level (counts_at m level)

-- the word sum
abbrev pub sum_word : List ℕ
sum_word = 115 ∷ 117 ∷ 109 ∷ []

-- the last line: the word sum and the totals
abbrev pub sum_line : Netlist → List ℕ
sum_line m = sum_word ++ numbers_behind (totals m)

-- the sheet of a netlist: its levels, rising, then the totals
abbrev pub sheet_of : Netlist → List ℕ
sheet_of m = joined (level_line m) (line_count m) ++ sum_line m

-- the line of a refusal: its number and its place
abbrev pub refusal_line : ℕ → ℕ → List ℕ
refusal_line number place = line number (place ∷ [])

-- what is printed: the sheet of a mapped netlist that the verifier accepts, else its refusal
abbrev pub sheet_text : List ℕ → Capacities → List ℕ → List ℕ
sheet_text source caps mapped = outcome (verify_checks source caps mapped) (sheet_of (netlist mapped)) refusal_line

-- the most bytes of a line: five numbers of up to five digits, each with a byte behind it
abbrev pub line_limit : ℕ
line_limit = 30

-- room for every text: a line for each level from 0 to the highest, and the last line
abbrev pub text_limit : ℕ
text_limit = line_limit * (suc top_level + 1)
