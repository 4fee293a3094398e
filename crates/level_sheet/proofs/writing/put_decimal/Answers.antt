-- `put_decimal` meets its contract: the digits are copied into a part of the text, which comes back into it.
use borrow.Author.Rules.{rules}
use Rattle.level_sheet.proofs.Decimals.{decimal_end, decimal_inside, decimal_part, decimal_parts, decimal_put}
use Rattle.level_sheet.proofs.writing.put_decimal.Goals as goal

pub slice_bounds-copy_from_slice-end : goal.slice_bounds-copy_from_slice-end
slice_bounds-copy_from_slice-end c = search (rules, decimal_inside)

pub slice_bounds-copy_from_slice-end-2 : goal.slice_bounds-copy_from_slice-end-2
slice_bounds-copy_from_slice-end-2 c = search (rules, decimal_part)

pub copy_from_slice-requires : goal.copy_from_slice-requires
copy_from_slice-requires c = search (rules, decimal_parts)

pub returns : goal.returns
returns c = search (decimal_end, decimal_put)
