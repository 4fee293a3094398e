-- A netlist's records by kind (specification 1.2): how many inputs, gates, outputs and buffers it has.
use Rattle.std.specs.Prelude.{ℕ, Bool, eqb}
use Rattle.facts.specs.Sums.{count}
use Rattle.netlist.specs.Kinds.{input, output, buffer, is_gate}
use Rattle.netlist.specs.Records.{Netlist}

-- record k is an input
abbrev pub is_input : Netlist → ℕ → Bool
is_input m k = eqb (m.at k).kind input

-- record k is a buffer
abbrev pub is_buffer : Netlist → ℕ → Bool
is_buffer m k = eqb (m.at k).kind buffer

-- how many records are of a kind that passes a test
abbrev pub count_kind : Netlist → (ℕ → Bool) → ℕ
count_kind m test = count (λ k. test (m.at k).kind) m.size

-- how many are of one kind
abbrev pub count_of : Netlist → ℕ → ℕ
count_of m kind = count_kind m (λ k. eqb k kind)

abbrev pub inputs : Netlist → ℕ
inputs m = count_of m input

abbrev pub outputs : Netlist → ℕ
outputs m = count_of m output

unfoldable pub gates : Netlist → ℕ
gates m = count_kind m is_gate

-- a netlist's buffers: its records of kind 5
unfoldable pub buffer_count : Netlist → ℕ
buffer_count m = count_of m buffer
