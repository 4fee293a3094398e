-- `write_level` meets its contract: the part that was stored is the level's two bytes.
use mathlib.Core.Path.{refl, ◌∙◌}
use Rattle.facts.proofs.Areas.{part_back}
use Rattle.netlist.specs.Bytes.{with_level}
use Rattle.netlist.proofs.record_writer.write_level.Goals as goal

pub returns : goal.returns
unfolding with_level
returns c = part_back c.args.area.now c.copy_from_slice.new.self _ _ 2 (c.copy_from_slice.ensures.after ∙ c.to_le_bytes.ensures) refl
