-- A turn sets the next number, and the rest goes on behind it.
use Rattle.std.proofs.Common.{ℕ, ◌*◌, drop, ap, ◌∙◌, arith, rules}
use Rattle.std.proofs.lemmas.List.{drop-drop}
use Rattle.cases.specs.Numbers.{number_bytes, first_number, number_at}
use Rattle.cases.proofs.Sets.{agree_more}
use Rattle.cases.proofs.numbers.Goals as goal

pub loop-k-preserved : goal.loop-k-preserved
loop-k-preserved g c =
    let kept = c.loop-k.invariant in (
      search rules,
      c.after_number-rest.ensures
          ∙ ap (drop number_bytes) kept.1
          ∙ drop-drop number_bytes (number_bytes * c.loop-k.k) c.args.bytes.now
          ∙ ap (λ (n : ℕ). drop n c.args.bytes.now) (omega arith),
      agree_more c.loop-k.numbers (number_at c.args.bytes.now) c.loop-k.k c.first_number.result
          (omega (arith, kept.0, c.loop-k-test.true))
          (c.first_number.ensures ∙ ap first_number kept.1) kept.2,
    )
