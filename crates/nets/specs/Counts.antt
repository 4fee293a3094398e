-- Specification 4.9, the list of counts: its answer, and what its area holds afterwards.
use Rattle.std.specs.Prelude.{ℕ, ◌*◌, ◌/◌, ◌%◌, Bool, not, ◌||◌, List, length, get_or, ltb, eqb}
use Rattle.facts.specs.Answers.{Checked}
use Rattle.facts.specs.Checks.{check, ◌and_then◌, unless_refused, scan}
use Rattle.facts.specs.Bytes.{four}
use Rattle.facts.specs.Lists.{joined}
use Rattle.netlist.specs.declared.Capacities.{Capacities}
use Rattle.netlist.specs.Kinds.{is_driver}
use Rattle.netlist.specs.Records.{field, record_at}
use Rattle.netlist.specs.Checks.{input_checks}
use Rattle.fanout.specs.Answer.{count_answer, count_numbers}

-- the most indices of a list
abbrev pub index_limit : ℕ
index_limit = 65535

-- how many whole indices a list has
abbrev pub index_count : List ℕ → ℕ
index_count records = length records / 2

-- index k of a list, low byte first
abbrev pub index_at : List ℕ → ℕ → ℕ
index_at records k = field records (2 * k)

-- 21: no whole indices, too many, or a list of counts that is not twice as long
abbrev pub bad_lists : List ℕ → List ℕ → Bool
bad_lists records counts =
    (not (eqb (length records % 2) 0) || ltb index_limit (index_count records)) || not (eqb (length counts) (2 * length records))

-- 20 of index k: the record is absent or an output
abbrev pub index_check : List ℕ → List ℕ → ℕ → Checked
index_check source records k = check 20 k (not (is_driver (record_at source (index_at records k)).kind))

-- 21, then 20 at the first such index
unfoldable pub list_checks : List ℕ → List ℕ → List ℕ → Checked
list_checks source records counts =
    check 21 0 (bad_lists records counts) and_then scan (index_check source records) 0 (index_count records)

-- 1, 26, 2 to 7, 21, 20
unfoldable pub counts_answer : List ℕ → Capacities → List ℕ → List ℕ → Checked
counts_answer source caps records counts = input_checks source caps and_then list_checks source records counts

-- the third number of the count of one net
abbrev pub single_count : List ℕ → Capacities → ℕ → ℕ
single_count source caps d = get_or (count_numbers (count_answer source caps d)) 2 0

-- the area: each index's count in four bytes; a refusal leaves it
unfoldable pub counts_area : List ℕ → Capacities → List ℕ → List ℕ → List ℕ
counts_area source caps records counts =
    unless_refused (counts_answer source caps records counts)
    (joined (λ k. four (single_count source caps (index_at records k))) (index_count records))
    counts
