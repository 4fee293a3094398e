-- What is promised of the list of counts.
use Rattle.std.specs.Prelude.{ℕ, ◌*◌, ◌<◌, ◌%◌, ◌≡◌, ◌⊎◌, ◌↔◌, ◌≢◌, List, length, take, drop}
use Rattle.facts.specs.Answers.{Passed, Refused}
use Rattle.facts.specs.Bytes.{four}
use Rattle.facts.specs.Refusals.{Conditions, Fails, ◌or◌, Each, Exact}
use Rattle.netlist.specs.declared.Capacities.{Capacities}
use Rattle.netlist.specs.Records.{netlist}
use Rattle.netlist.specs.Refusals.{InputFails}
use Rattle.fanout.specs.Answer.{no_tree}
use Rattle.fanout.specs.Promises.{NoDriver, NoNetTree, LeastNetTree}
use Rattle.nets.specs.Counts.{index_limit, index_count, index_at, counts_answer, single_count, counts_area}

-- 21: an odd length, too many indices, or a list of counts that is not twice as long
abbrev pub BadLists : List ℕ → List ℕ → Type 0
BadLists records counts =
    ((length records % 2 ≢ 0) ⊎ (index_limit < index_count records)) ⊎ (length counts ≢ 2 * length records)

-- 20: index k names a record that is absent or an output
abbrev pub IndexFails : List ℕ → List ℕ → ℕ → Conditions
IndexFails source records k = Fails 20 k (NoDriver source (index_at records k))

-- 1, 26, 2 to 7, 21, 20
abbrev pub CountsFail : List ℕ → Capacities → List ℕ → List ℕ → Conditions
CountsFail source caps records counts =
    InputFails source caps or (Fails 21 0 (BadLists records counts) or Each (index_count records) (IndexFails source records))

-- each number is answered exactly where its condition is the first that holds, and a call is accepted exactly if none does
abbrev pub CountsExact : Type 0
CountsExact =
    (source : List ℕ) (caps : Capacities) (records counts : List ℕ) →
    Exact (CountsFail source caps records counts) (counts_answer source caps records counts)

-- a refused call leaves the area
abbrev pub CountsKeep : Type 0
CountsKeep =
    (source : List ℕ) (caps : Capacities) (records counts : List ℕ) (number place : ℕ) →
    counts_answer source caps records counts ≡ Refused number place → counts_area source caps records counts ≡ counts

-- count k of an area, in its four bytes
abbrev pub count_bytes : List ℕ → ℕ → List ℕ
count_bytes area k = take 4 (drop (4 * k) area)

-- the area of an accepted call: of the length it had, and by index
pub record Listed (source : List ℕ) (caps : Capacities) (records counts area : List ℕ) : Type 0 where
  pub long : length area ≡ length counts
  -- what the single call gives for that index
  pub single : (k : ℕ) → k < index_count records → count_bytes area k ≡ four (single_count source caps (index_at records k))
  -- what stands for no tree, exactly where no tree is legal
  pub no_trees : (k : ℕ) → k < index_count records →
      (count_bytes area k ≡ four no_tree) ↔ NoNetTree (netlist source) caps (index_at records k)
  -- n, exactly where a legal tree has n buffers and none has fewer
  pub fewest : (k n : ℕ) → k < index_count records →
      ((count_bytes area k ≡ four n) × (n < no_tree)) ↔ LeastNetTree (netlist source) caps (index_at records k) n

abbrev pub CountsListed : Type 0
CountsListed =
    (source : List ℕ) (caps : Capacities) (records counts : List ℕ) →
    counts_answer source caps records counts ≡ Passed → Listed source caps records counts (counts_area source caps records counts)
