-- For functions inside the engine alone: each record's number of sinks in a local array, while records are checked.
use Rattle.std.specs.Prelude.{ℕ, suc, ◌+◌, ◌≤◌, ◌<◌, ◌≡◌, List, length, get_or, eqb}
use Rattle.facts.specs.Answers.{Checked, Passed}
use Rattle.facts.specs.Checks.{scan}
use Rattle.facts.specs.Sums.{count, count₂}
use Rattle.netlist.specs.declared.Record.{Record}
use Rattle.netlist.specs.Kinds.{slots, source_limit}
use Rattle.netlist.specs.Records.{Netlist, netlist, record_count, slot, names}
use Rattle.netlist.specs.Checks.{structure_at, structure_checks}

-- the first slots of a record name entries of an array, each with room for all of them
pub record SlotsFit (r : Record) (used : ℕ) (sinks : List ℕ) : Type 0 where
  pub inside : (j : ℕ) → j < used → slot r j < length sinks
  pub room : (d : ℕ) → get_or sinks d 0 + used < 65536

-- one more for each of the first j slots, at the record that it names
pub record SinksAdded (r : Record) (j : ℕ) (before after : List ℕ) : Type 0 where
  pub long : length after ≡ length before
  pub at : (d : ℕ) → get_or after d 0 ≡ get_or before d 0 + count (λ i. eqb (slot r i) d) j

-- each entry is the number of used slots of the records below i that name that record
pub record SinksSoFar (m : Netlist) (i : ℕ) (sinks : List ℕ) : Type 0 where
  pub at : (d : ℕ) → d < length sinks → get_or sinks d 0 ≡ count₂ (names m d) slots i

-- the records below k are counted, k is the next, and there is an entry for every record and one more
pub record Counting (source : List ℕ) (k : ℕ) (sinks : List ℕ) : Type 0 where
  pub present : k < record_count source
  pub few : record_count source ≤ source_limit
  pub long : record_count source < length sinks
  pub so_far : SinksSoFar (netlist source) k sinks

-- an answer of checks; where they pass, the slots of the records below i are counted
pub record CountedIfPassed (source : List ℕ) (i : ℕ) (a right : Checked) (before after : List ℕ) : Type 0 where
  pub answer : a ≡ right
  pub long : length after ≡ length before
  pub counted : a ≡ Passed → SinksSoFar (netlist source) i after

-- checks 4 to 6 of record k, with its slots counted; of all records; and checks 2 to 6
abbrev pub RecordCounted : List ℕ → ℕ → Checked → List ℕ → List ℕ → Type 0
RecordCounted source k a = CountedIfPassed source (suc k) a (structure_at (netlist source) k)

abbrev pub RecordsCounted : List ℕ → Checked → List ℕ → List ℕ → Type 0
RecordsCounted source a = CountedIfPassed source (record_count source) a (scan (structure_at (netlist source)) 0 (record_count source))

abbrev pub SourceCounted : List ℕ → Checked → List ℕ → List ℕ → Type 0
SourceCounted source a = CountedIfPassed source (record_count source) a (structure_checks source)

-- nothing is counted yet, and there is an entry for every record and one more
pub record Uncounted (source : List ℕ) (n : ℕ) (sinks : List ℕ) : Type 0 where
  pub all : n ≡ record_count source
  pub few : record_count source ≤ source_limit
  pub long : record_count source < length sinks
  pub zeros : (d : ℕ) → get_or sinks d 0 ≡ 0

-- zeros, an entry for every record of the largest source and one more
pub record Zeros (sinks : List ℕ) : Type 0 where
  pub long : length sinks ≡ suc source_limit
  pub zeros : (d : ℕ) → get_or sinks d 0 ≡ 0
