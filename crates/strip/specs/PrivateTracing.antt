-- For private functions alone: what a mapped netlist must have before its slots are traced, the source while it is written, and the area
-- once it is decided.
use Rattle.std.specs.Prelude.{ℕ, ◌*◌, ◌≤◌, ◌<◌, ◌≡◌, Bool, true, false, not, ◌||◌, List, length, eqb}
use Rattle.facts.specs.Areas.{onto}
use Rattle.facts.specs.Checks.{unless_refused}
use Rattle.facts.specs.Sums.{any}
use Rattle.netlist.specs.declared.Capacities.{Capacities}
use Rattle.netlist.specs.declared.Record.{Record}
use Rattle.netlist.specs.Kinds.{width, source_limit, mapped_limit, buffer, arity}
use Rattle.netlist.specs.Records.{Netlist, netlist}
use Rattle.verifier.specs.PrivateFeeding.{bad_fanin}
use Rattle.verifier.specs.PrivateWalking.{Walkable, Known}
use Rattle.strip.specs.Answer.{source_size, traced_record, stripped_bytes, stripping_checks}

-- the area once 24 and 25 are decided
abbrev pub stripping_area : Capacities → List ℕ → List ℕ → List ℕ
stripping_area caps mapped area = unless_refused (stripping_checks caps mapped area) (onto (stripped_bytes mapped) area) area

-- record k fails 14 or 15
abbrev pub bad_fanins : Netlist → ℕ → Bool
bad_fanins m k = any (bad_fanin m (m.at k)) (arity (m.at k).kind)

-- a record is no buffer, or fails 14 or 15
abbrev pub bad_buffer : Netlist → Record → Bool
bad_buffer m r = not (eqb r.kind buffer) || bad_fanin m r 0

-- the sizes, once they are within the limits
pub record SizesFit (m : Netlist) (n all : ℕ) : Type 0 where
  pub size : n ≡ source_size m
  pub records : all ≡ m.size
  pub few : n ≤ source_limit
  pub fits : all ≤ mapped_limit

-- whether all records from n on are buffers that pass 14 and 15; what is known of their drivers is right
pub record BuffersDecided (n : ℕ) (m : Netlist) (b : Bool) (drivers : List ℕ) : Type 0 where
  pub good : b ≡ true → (k : ℕ) → n ≤ k → k < m.size → bad_buffer m (m.at k) ≡ false
  pub bad : b ≡ false → (k : ℕ) × (n ≤ k) × (k < m.size) × (bad_buffer m (m.at k) ≡ true)
  pub known : Known m drivers

-- every record passes 14 and 15, and those from n on are buffers
pub record FaninsPass (n : ℕ) (m : Netlist) : Type 0 where
  pub buffers : (k : ℕ) → n ≤ k → k < m.size → (m.at k).kind ≡ buffer
  pub fanins : (k : ℕ) → k < m.size → bad_fanins m k ≡ false

-- whether they do
pub record FaninsDecided (n : ℕ) (m : Netlist) (b : Bool) (drivers : List ℕ) : Type 0 where
  pub good : b ≡ true → Walkable n m
  pub bad : b ≡ false → FaninsPass n m → ⊥
  pub known : Known m drivers

-- a record with its used slots traced back, and what is known then
pub record RecordTraced (m : Netlist) (r traced : Record) (drivers : List ℕ) : Type 0 where
  pub same : traced ≡ traced_record m r
  pub known : Known m drivers

-- what is left of a mapped netlist can be written
pub record LeftReady (m : Netlist) (n : ℕ) (drivers source : List ℕ) : Type 0 where
  pub walkable : Walkable n m
  pub size : n ≡ source_size m
  pub known : Known m drivers
  pub room : width * n ≤ length source

-- it was written at the start of an area, or the mapped netlist is no legal one
pub record LeftWritten (mapped : List ℕ) (b : Bool) (before after : List ℕ) : Type 0 where
  pub good : b ≡ true → after ≡ onto (stripped_bytes mapped) before
  pub bad : b ≡ false → FaninsPass (source_size (netlist mapped)) (netlist mapped) → ⊥
