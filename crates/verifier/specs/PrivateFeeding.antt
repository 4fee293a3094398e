-- For private functions alone: check 17's counts, made while 14 and 15 pass over the used slots: a count stops above the largest capacity, so that none can wrap.
use Rattle.std.specs.Prelude.{ℕ, zero, suc, ◌+◌, ◌<◌, ◌≤◌, ◌≡◌, ◌≢◌, Bool, true, false, cond, not, ◌||◌, List, length, get_or, set, replicate, ltb}
use Rattle.facts.specs.Answers.{Checked, Passed}
use Rattle.facts.specs.Checks.{check, ◌and_then◌}
use Rattle.facts.specs.Sums.{any}
use Rattle.netlist.specs.declared.Capacities.{Capacities}
use Rattle.netlist.specs.declared.Record.{Record}
use Rattle.netlist.specs.Kinds.{arity}
use Rattle.netlist.specs.Records.{Netlist, slot}
use Rattle.netlist.specs.Capacities.{most_input_capacity, capacity_of}
use Rattle.verifier.specs.Checks.{no_buffer, bad_name, not_one_lower, slot_checks}

-- where a count stops: one above the largest capacity, an input's
abbrev pub stop : ℕ
stop = suc most_input_capacity

-- one more, up to the stop
abbrev pub more : ℕ → ℕ
more count = cond (ltb count stop) (count + 1) count

-- the counts once a slot names x
abbrev pub fed_once : List ℕ → ℕ → List ℕ
fed_once counts x = set counts x (more (get_or counts x 0))

-- the counts once the first n slots of a record are counted
unfoldable pub fed_by : List ℕ → Record → ℕ → List ℕ
fed_by counts r zero = counts
fed_by counts r (suc j) = fed_once (fed_by counts r j) (slot r j)

-- the counts of the first records, in a list of a length
unfoldable pub tally : ℕ → Netlist → ℕ → List ℕ
tally entries m zero = replicate entries 0
tally entries m (suc i) = fed_by (tally entries m i) (m.at i) (arity (m.at i).kind)

-- 14 and 15, one used slot
abbrev pub bad_fanin : Netlist → Record → ℕ → Bool
bad_fanin m r j = bad_name m r j || not_one_lower m r j

-- 13 to 15 of record k
abbrev pub buffer_checks : Netlist → ℕ → Checked
buffer_checks m k = check 13 k (no_buffer (m.at k)) and_then slot_checks m k (m.at k)

-- whether none of the first n slots of a record is bad; if so, all are counted
pub record Fed (m : Netlist) (r : Record) (n : ℕ) (b : Bool) (before after : List ℕ) : Type 0 where
  pub good : b ≡ not (any (bad_fanin m r) n)
  pub counted : b ≡ true → after ≡ fed_by before r n

-- the first k records are counted, with an entry for every record
pub record Tallied (m : Netlist) (k : ℕ) (counts : List ℕ) : Type 0 where
  pub room : m.size ≤ length counts
  pub counted : counts ≡ tally (length counts) m k

-- an answer of checks; if all pass, the first k records are counted
pub record TalliedIfPassed (a right : Checked) (m : Netlist) (k : ℕ) (counts : List ℕ) : Type 0 where
  pub answer : a ≡ right
  pub tallied : a ≡ Passed → Tallied m k counts

-- whether checks pass; if they do, the first k records are counted
pub record TalliedIf (b : Bool) (right : Checked) (m : Netlist) (k : ℕ) (counts : List ℕ) : Type 0 where
  pub passed : b ≡ true → TalliedIfPassed Passed right m k counts
  pub failed : b ≡ false → right ≢ Passed

-- 17 of record k, by the counts
abbrev pub count_check : Capacities → Netlist → List ℕ → ℕ → Checked
count_check caps m counts k = check 17 k (ltb (capacity_of caps (m.at k).kind) (get_or counts k 0))

-- none of the records from `from` on, below `to`, feeds more slots than `most`, by the counts
pub record FedAtMost (counts : List ℕ) (from to most : ℕ) : Type 0 where
  pub bound : (k : ℕ) → from ≤ k → k < to → get_or counts k 0 ≤ most
