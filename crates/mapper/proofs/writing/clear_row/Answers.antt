-- `clear_row` meets its contract: entries up to top are written, and those beyond are zero.
use Rattle.mapper.proofs.ClearedRow.{cleared}
use Rattle.mapper.proofs.writing.clear_row.Goals as goal

pub returns : goal.returns
returns c = cleared c.args.row.now c.args.top c.requires c.fill.new.self (c.fill.ensures.after (λ y e. e))
