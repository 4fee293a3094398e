-- `block_of` meets its contract: the part between the ends, or none where the area ends before.
use native.Mathlib.Omega.{arith}
use Rattle.mapper.proofs.View.{view_empty, view_order, view_end, view_part}
use Rattle.mapper.proofs.block_of.Goals as goal

pub returns-then-record_count-to : goal.returns-then-record_count-to
returns-then-record_count-to c = search view_empty

pub overflow_mul-result : goal.overflow_mul-result
overflow_mul-result c =
    let area = c.args.mapped.now in
    let e = c.block_ends-ends.ensures in
    let m = c.record_count.ensures in
    omega (arith, view_order _ area _ _ _ e _ m c.if-record_count-to.false, view_end _ area _ _ _ e _ m c.if-record_count-to.false)

pub slice_bounds-result-count-2 : goal.slice_bounds-result-count-2
slice_bounds-result-count-2 c = search view_order

pub slice_bounds-result-start-2 : goal.slice_bounds-result-start-2
slice_bounds-result-start-2 c = search view_order

pub returns : goal.returns
returns c = search view_part
