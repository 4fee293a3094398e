-- For functions inside the engine alone: records that fit their bytes, and an area while they are written into it.
use Rattle.std.specs.Prelude.{ℕ, ◌*◌, ◌<◌, ◌≡◌, List, length}
use Rattle.facts.specs.Areas.{put}
use Rattle.netlist.specs.declared.Record.{Record}
use Rattle.netlist.specs.Kinds.{width}
use Rattle.netlist.specs.Records.{Netlist, slot}
use Rattle.netlist.specs.Bytes.{recs}

-- an area in which n records from record i on are written at their places
abbrev pub with_records : Netlist → ℕ → ℕ → List ℕ → List ℕ
with_records m i n area = put area (width * i) (recs m i n)

-- a record whose fields fit their bytes
pub record Fits (r : Record) : Type 0 where
  pub kind : r.kind < 256
  pub inversion : r.inversion < 256
  pub level : r.level < 65536
  pub slots : (j : ℕ) → slot r j < 65536
  pub all : length r.slots ≡ Rattle.netlist.specs.Kinds.slots
