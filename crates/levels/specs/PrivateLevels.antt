-- For functions inside the engine alone: what the local arrays hold while levels are worked out.
use Rattle.std.specs.Prelude.{ℕ, ◌≤◌, ◌<◌, ◌≡◌, cond, List, length, get_or, eqb}
use Rattle.netlist.specs.declared.Record.{Record}
use Rattle.netlist.specs.Kinds.{slots, unused, source_limit, arity}
use Rattle.netlist.specs.Records.{Netlist, netlist, record_count, slot, feeds, is_output}
use Rattle.netlist.specs.Source.{Unlevelled}
use Rattle.levels.specs.Levels.{sink_level, lowest, output_level}

-- an array's entries, by index
abbrev pub entries : List ℕ → ℕ → ℕ
entries array k = get_or array k 0

-- where a slot's fanin has its entry: an unused slot has entry n
abbrev pub entry_place : ℕ → ℕ → ℕ
entry_place n x = cond (eqb x unused) n x

-- the entry of the fanin in slot j
abbrev pub fanin_entry : List ℕ → ℕ → Record → ℕ → ℕ
fanin_entry reach n r j = get_or reach (entry_place n (slot r j)) 0

-- every slot of a record has an entry, and those that its kind does not use a 0
pub record EntriesInside (reach : List ℕ) (n : ℕ) (r : Record) : Type 0 where
  pub inside : (j : ℕ) → j < slots → entry_place n (slot r j) < length reach
  pub near : (j : ℕ) → j < slots → entry_place n (slot r j) ≤ source_limit
  pub zero : (j : ℕ) → arity r.kind ≤ j → j < slots → fanin_entry reach n r j ≡ 0

-- records below k have how low their sinks may stand, the other entries their number of sinks
pub record Raised (s : ℕ) (m : Netlist) (k : ℕ) (reach : List ℕ) : Type 0 where
  pub room : m.size < length reach
  pub below : (d : ℕ) → d < k → get_or reach d 0 ≡ sink_level s m (lowest s m) d
  pub rest : (d : ℕ) → k ≤ d → d < length reach → get_or reach d 0 ≡ feeds m d

-- sinks are counted, and there is a level for every record
pub record Unraised (source : List ℕ) (s : ℕ) (reach levels : List ℕ) : Type 0 where
  pub unlevelled : Unlevelled source s
  pub raised : Raised s (netlist source) 0 reach
  pub enough : record_count source ≤ length levels

-- each record has how low it may stand, and `top` is the outputs' level
pub record WorkedOut (source : List ℕ) (s : ℕ) (before levels : List ℕ) (top : ℕ) : Type 0 where
  pub long : length levels ≡ length before
  pub own : (k : ℕ) → k < record_count source → get_or levels k 0 ≡ lowest s (netlist source) k
  pub outputs : top ≡ output_level s (netlist source)

-- each output has the outputs' level, and every other record its own
pub record WithOutputs (m : Netlist) (top : ℕ) (before levels : List ℕ) : Type 0 where
  pub long : length levels ≡ length before
  pub at : (k : ℕ) → k < m.size → get_or levels k 0 ≡ cond (is_output m k) top (get_or before k 0)
