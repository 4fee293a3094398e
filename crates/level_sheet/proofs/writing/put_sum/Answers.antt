-- `put_sum` meets its contract: the word, then the totals behind it.
use Rattle.std.proofs.Common.{rules, ◌++◌, drop}
use mathlib.Core.Path.{refl}
use Rattle.level_sheet.proofs.Lines.{onto_behind}
use Rattle.level_sheet.specs.Text.{numbers_behind, sum_word}
use Rattle.level_sheet.proofs.writing.put_sum.Goals as goal

pub returns-clause-text_after : goal.returns-clause-text_after
returns-clause-text_after c =
    let word = c.copy_from_slice.new.self ++ drop 3 c.args.text.now in
    onto_behind sum_word (numbers_behind c.args.totals.now) c.args.text.now word c.put_numbers.new.text 3 refl (search rules) (search rules)
