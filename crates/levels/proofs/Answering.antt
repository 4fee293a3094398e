-- The call's answer from its parts: 1, then 2 to 6, then 22 and 23.
use Prim.Native.Nat.{ℕ, suc, ◌≤◌}
use native.Mathlib.Omega.{arith}
use mathlib.Core.Path.{◌≡◌, refl, sym, ap, ◌∙◌}
use mathlib.Core.List.{List}
use lib.ListN.{replicate, length-replicate}
use Rattle.facts.specs.Answers.{Checked, Passed, Refused}
use Rattle.facts.specs.Checks.{◌and_then◌, unless_refused}
use Rattle.facts.proofs.Lists.{get_or_replicated}
use Rattle.facts.proofs.Reflect.{then_assoc, then_go, then_stop, stop_kept, go_written}
use Rattle.netlist.specs.Kinds.{source_limit}
use Rattle.netlist.specs.Records.{feeds}
use Rattle.netlist.specs.Checks.{capacity_check, structure_checks}
use Rattle.netlist.proofs.Source.{capacity_passed, structured_passed}
use Rattle.levels.specs.Levels.{least_checks, least_copy, levels_answer, levels_area}
use Rattle.levels.specs.PrivateSinks.{Zeros, SourceCounted}
use Rattle.levels.specs.PrivateLevels.{Unraised}

-- the arrays before anything is counted
pub zeros_start : Zeros (replicate (suc source_limit) 0)
zeros_start = record { long = length-replicate {A = ℕ} (suc source_limit) 0; zeros = λ d. get_or_replicated (suc source_limit) d 0 }

-- where 2 to 6 pass, levels can be worked out
pub unraised : (source : List ℕ) (s : ℕ) (before reach : List ℕ) → (2 ≤ s) × (s ≤ 4) → Zeros before →
    SourceCounted source Passed before reach → Unraised source s reach (replicate source_limit 0)
unfolding feeds
unraised source s before reach allowed z c =
    let whole = (structured_passed source).0 (sym c.answer) in
    let few = whole.structured.few in
    record {
      unlevelled = record { low = allowed.0; high = allowed.1; source = whole };
      raised =
          record {
            room = omega (arith, few, z.long, c.long);
            below = λ d l. absurd (omega arith);
            rest = λ d l h. (c.counted refl).at d h;
          };
      enough = omega (arith, few, length-replicate {A = ℕ} source_limit 0);
    }

-- 1, then the rest
module _ (s : ℕ) (p : Passed ≡ capacity_check s) where
  pub allowed_low : 2 ≤ s
  allowed_low = ((capacity_passed s).0 (sym p)).0

  pub allowed_high : s ≤ 4
  allowed_high = ((capacity_passed s).0 (sym p)).1

module _ (source : List ℕ) (s : ℕ) (area : List ℕ) where
  abbrev rest : Checked
  rest = structure_checks source and_then least_checks source s area

  whole : (capacity_check s and_then rest) ≡ levels_answer source s area
  unfolding levels_answer
  whole = sym (then_assoc (capacity_check s) (structure_checks source) (least_checks source s area))

  module _ (p : Passed ≡ capacity_check s) where
    pub allowed_answered : (b : Checked) → b ≡ (structure_checks source and_then least_checks source s area) → b ≡ levels_answer source s area
    allowed_answered b f = then_go (capacity_check s) rest b p f ∙ whole

    pub allowed_written : (after : List ℕ) → after ≡ unless_refused (structure_checks source and_then least_checks source s area) (least_copy source s) area →
        after ≡ levels_area source s area
    unfolding levels_area
    allowed_written after f =
        go_written (capacity_check s) rest (least_copy source s) area after p f ∙ ap (λ (c : Checked). unless_refused c (least_copy source s) area) whole

  module _ (number place : ℕ) (p : Refused number place ≡ capacity_check s) where
    pub capacity_refused : Refused number place ≡ levels_answer source s area
    capacity_refused = then_stop (capacity_check s) rest number place p ∙ whole

    pub capacity_kept : area ≡ levels_area source s area
    unfolding levels_area
    capacity_kept =
        stop_kept (capacity_check s) rest (least_copy source s) area number place p
        ∙ ap (λ (c : Checked). unless_refused c (least_copy source s) area) whole
