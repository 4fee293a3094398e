-- For private functions alone: the records from the source's size on, which a step copies.
use Rattle.std.specs.Prelude.{ℕ, ◌+◌, ◌<◌, ◌≤◌, ◌≡◌, List, get_or}
use Rattle.netlist.specs.Kinds.{buffer}
use Rattle.facts.specs.Lists.{tabulate}
use Rattle.netlist.specs.Records.{record_count, record_at, slot}

-- from record n on, a mapped netlist's records are buffers that name one of its records
pub record Buffered (mapped : List ℕ) (n : ℕ) : Type 0 where
  pub within : n ≤ record_count mapped
  pub kind : (i : ℕ) → n ≤ i → i < record_count mapped → (record_at mapped i).kind ≡ buffer
  pub inversion : (i : ℕ) → n ≤ i → i < record_count mapped → (record_at mapped i).inversion ≡ 0
  pub named : (i : ℕ) → n ≤ i → i < record_count mapped → slot (record_at mapped i) 0 < record_count mapped

-- what the k records from n on copy out of an area
unfoldable pub copied : List ℕ → List ℕ → ℕ → ℕ → List ℕ
copied mapped held n k = tabulate (λ j. get_or held (slot (record_at mapped (n + j)) 0) 0) k
