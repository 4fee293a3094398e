-- `put_levels` meets its contract: the lines of the levels below `level` are put.
use borrow.Author.Rules.{rules}
use Rattle.level_sheet.proofs.Lines.{levels_start, level_room, levels_more, levels_end, levels_put}
use Rattle.level_sheet.proofs.writing.put_levels.Goals as goal

pub loop-level-init : goal.loop-level-init
loop-level-init c = search (rules, levels_start)

pub put_line-end-requires : goal.put_line-end-requires
put_line-end-requires c = search (rules, level_room)

pub loop-level-preserved : goal.loop-level-preserved
loop-level-preserved c = search (rules, levels_more)

pub returns : goal.returns
returns c = search (levels_end, levels_put)
