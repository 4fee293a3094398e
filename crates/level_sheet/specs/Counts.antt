-- Specification 7.2: the numbers of a sheet, the records of a netlist by level.
use Rattle.std.specs.Prelude.{ℕ, suc, Bool, ◌&&◌, List, [], ◌∷◌, eqb}
use Rattle.facts.specs.Sums.{count, largest}
use Rattle.netlist.specs.Kinds.{input, output, buffer, is_gate}
use Rattle.netlist.specs.Records.{Netlist}
use Rattle.netlist.specs.Counts.{inputs, outputs, gates, buffer_count}

-- columns of a sheet: inputs, gates, buffers, outputs
abbrev pub columns : ℕ
columns = 4

-- how many records at a level are of a kind that passes a test
unfoldable pub count_at : Netlist → (ℕ → Bool) → ℕ → ℕ
count_at m test level = count (λ k. test (m.at k).kind && eqb (m.at k).level level) m.size

-- how many are of one kind
abbrev pub count_of_at : Netlist → ℕ → ℕ → ℕ
count_of_at m kind = count_at m (λ k. eqb k kind)

-- the columns of one level: inputs, gates, buffers, outputs
abbrev pub counts_at : Netlist → ℕ → List ℕ
counts_at m level = count_of_at m input level ∷ count_at m is_gate level ∷ count_of_at m buffer level ∷ count_of_at m output level ∷ []

-- the columns of all records: inputs, gates, buffers, outputs
abbrev pub totals : Netlist → List ℕ
totals m = inputs m ∷ gates m ∷ buffer_count m ∷ outputs m ∷ []

-- how many levels have a line: 0 to the highest at which a record stands, none without records
unfoldable pub line_count : Netlist → ℕ
line_count m = largest (λ k. suc (m.at k).level) m.size
