-- `write_sheet` meets its contract: the sheet where all checks pass, else the line of the refusal.
use borrow.Author.Rules.{rules}
use Rattle.level_sheet.proofs.Sheets.{passed_countable, passed_length, passed_onto, refused_length, refused_onto, refusal_room}
use Rattle.level_sheet.proofs.write_sheet.Goals as goal

pub put_sheet-requires : goal.put_sheet-requires
put_sheet-requires c = search (rules, passed_countable, c.in-Ok.ensures)

pub put_line-requires : goal.put_line-requires
put_line-requires c = search (rules, refusal_room)

pub returns-in-Ok : goal.returns-in-Ok
returns-in-Ok c = search (passed_length, passed_onto, c.in-Ok.ensures)

pub returns-in-Err : goal.returns-in-Err
returns-in-Err c = search (refused_length, refused_onto, c.in-Err.ensures)
