-- For private functions alone: check 16's traces with the drivers that are known: each buffer is walked through once, so that all traces take one pass.
use Rattle.std.specs.Prelude.{ℕ, suc, ◌≤◌, ◌<◌, ◌≡◌, ◌≢◌, Bool, cond, List, length, get_or, ltb}
use Rattle.netlist.specs.declared.Record.{Record}
use Rattle.netlist.specs.Kinds.{mapped_limit, buffer}
use Rattle.netlist.specs.Records.{Netlist, slot}
use Rattle.netlist.specs.Source.{IsSource}
use Rattle.netlist.specs.Balance.{Named, Balanced}
use Rattle.verifier.specs.Trace.{driver}

-- what 1, 26, 2 to 7 and 11 leave: a source of so many records, and a mapped netlist of a size that fits
pub record Sized (n m : Netlist) (first all : ℕ) : Type 0 where
  pub source : IsSource n
  pub records : first ≡ n.size
  pub size : all ≡ m.size
  pub whole : first ≤ all
  pub fits : all ≤ mapped_limit

-- what 12 leaves: none of the first n records is a buffer
pub record Driven (n : ℕ) (m : Netlist) : Type 0 where
  pub driver : (x : ℕ) → x < n → (m.at x).kind ≢ buffer

-- a record from the source's size on, once those below it passed
pub record Buffering (n : ℕ) (m : Netlist) (k : ℕ) : Type 0 where
  pub from : n ≤ k
  pub here : k < m.size
  pub driven : Driven n m

-- what stands for a driver that is not known yet
abbrev pub unknown : ℕ
unknown = 65535

-- the drivers that are known so far are right
pub record Known (m : Netlist) (drivers : List ℕ) : Type 0 where
  pub room : m.size ≤ length drivers
  pub right : (x : ℕ) → x < m.size → get_or drivers x 0 ≢ unknown → get_or drivers x 0 ≡ driver m x

-- what is known of record x's driver, where none of the first n records is a buffer
abbrev pub known_driver : ℕ → List ℕ → ℕ → ℕ
known_driver n drivers x = cond (ltb x n) x (get_or drivers x 0)

-- what 12 to 15 leave for the trace: records that are kept, buffers, and slots that name records one level lower
pub record PlacesPassed (n m : Netlist) : Type 0 where
  pub whole : n.size ≤ m.size
  pub kinds : (k : ℕ) → k < n.size → (m.at k).kind ≡ (n.at k).kind
  pub buffers : (k : ℕ) → n.size ≤ k → k < m.size → (m.at k).kind ≡ buffer
  pub named : Named m
  pub balanced : Balanced m

-- what the walk goes by: the records from n on are the buffers, and slots name records one level lower
pub record Walkable (n : ℕ) (m : Netlist) : Type 0 where
  pub driven : Driven n m
  pub buffers : (x : ℕ) → n ≤ x → x < m.size → (m.at x).kind ≡ buffer
  pub named : Named m
  pub balanced : Balanced m

-- a record from which a trace may start, with its level
pub record Traceable (n : ℕ) (m : Netlist) (drivers : List ℕ) (level x : ℕ) : Type 0 where
  pub walkable : Walkable n m
  pub here : x < m.size
  pub stands : level ≡ (m.at x).level
  pub known : Known m drivers

-- where it ends, with what is known then
pub record Traced (m : Netlist) (x d : ℕ) (drivers : List ℕ) : Type 0 where
  pub ends : d ≡ driver m x
  pub known : Known m drivers

-- the first slots of a record, each of which may be traced from, one level lower
pub record SlotsTraceable (n : ℕ) (m : Netlist) (drivers : List ℕ) (r : Record) (used : ℕ) : Type 0 where
  pub walkable : Walkable n m
  pub slots : (j : ℕ) → j < used → slot r j < m.size
  pub lower : (j : ℕ) → j < used → r.level ≡ suc (m.at (slot r j)).level
  pub known : Known m drivers

-- an answer on the traces of slots, with what is known then
pub record SlotsTraced (m : Netlist) (b right : Bool) (drivers : List ℕ) : Type 0 where
  pub answer : b ≡ right
  pub known : Known m drivers
