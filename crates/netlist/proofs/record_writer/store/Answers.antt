-- `store` meets its contract: its stores write a part of ten bytes whole.
use mathlib.Core.Path.{ap, ◌∙◌}
use Rattle.facts.specs.Bytes.{two_bytes}
use Rattle.netlist.proofs.Bytes.{stored_fields}
use Rattle.netlist.proofs.record_writer.store.Goals as goal

pub returns : goal.returns
returns c =
    stored_fields c.args.r _ _ _ _ c.args.part.now c.requires
    (c.copy_from_slice.ensures.after ∙ c.to_le_bytes.ensures)
    (c.copy_from_slice-2.ensures.after ∙ c.to_le_bytes-2.ensures ∙ ap two_bytes c.slot.ensures)
    (c.copy_from_slice-3.ensures.after ∙ c.to_le_bytes-3.ensures ∙ ap two_bytes c.slot-2.ensures)
    (c.copy_from_slice-4.ensures.after ∙ c.to_le_bytes-4.ensures ∙ ap two_bytes c.slot-3.ensures)
