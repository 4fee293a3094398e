-- Output rows are plain logic's, for any state areas that follow from one another by the step.
use Prim.Native.Nat.{ℕ, suc, ◌+◌, ◌-◌, ◌<◌, ◌≤◌}
use mathlib.Core.Path.{◌≡◌, refl, sym, ◌∙◌, ap}
use mathlib.Core.Bool.{Bool, true, false}
use mathlib.Core.List.{List}
use native.Mathlib.Omega.{arith}
use native.Mathlib.Nat.{add-sub_of_le}
use lib.ListN.{get_or, take}
use lib.Dec.{eqb}
use borrow.Author.Tests.{eqb-true, ne_eqb}
use Rattle.facts.specs.Sums.{bit}
use Rattle.netlist.specs.declared.Capacities.{Capacities}
use Rattle.netlist.specs.Kinds.{output}
use Rattle.netlist.specs.Records.{Netlist, is_output, depth}
use Rattle.netlist.specs.Source.{IsSource}
use Rattle.verifier.specs.Legal.{Legal}
use Rattle.verifier.specs.Legal.Traces.{here}
use Rattle.simulator.specs.Logic.{on, next, values, output_row, outputs_below}
use Rattle.simulator.specs.Step.{stepped}
use Rattle.simulator.proofs.Logic.{value_plain, outputs_cong, outputs_same, outputs_none}
use Rattle.simulator.proofs.Steps.{stepped_at, stepped_on}
use Rattle.simulator.proofs.Waves.{wave}

module _ (n : Netlist) (caps : Capacities) (m : Netlist) (source : IsSource n) (legal : Legal n caps m) where
  -- the mapped netlist's outputs are the source's
  pub outputs_kept : (area : List ℕ) → output_row m area ≡ output_row n area
  outputs_kept area =
      ap (outputs_below m area) (sym (add-sub_of_le legal.whole))
      ∙ outputs_none m area n.size (m.size - n.size) added
      ∙ outputs_same m n area n.size (λ i l. ap (λ (k : ℕ). eqb k output) (legal.kept i l).kind)
    where
      added : (i : ℕ) → n.size ≤ i → i < n.size + (m.size - n.size) → is_output m i ≡ false
      added i l r = ne_eqb (m.at i).kind output (λ e. omega (arith, (legal.buffers i l (omega (arith, legal.whole))).kind))

  module _ (rows areas : ℕ → List ℕ) (steps : ℕ)
      (step : (k : ℕ) → k < steps → areas (suc k) ≡ stepped m (rows k) (areas k)) where
    state : ℕ → ℕ → Bool
    state k = on (take m.size (areas k))

    follows : (k i : ℕ) → k < steps → i < m.size → state (suc k) i ≡ next m (rows k) (state k) i
    unfolding state
    follows k i l u = rw (step k l) (stepped_on m (rows k) (areas k) i u)

    byte : (k i : ℕ) → k < steps → i < m.size → get_or (areas (suc k)) i 0 ≡ bit (state (suc k) i)
    unfolding state
    byte k i l u =
        ap (λ (a : List ℕ). get_or a i 0) (step k l)
        ∙ stepped_at m (rows k) (areas k) i u
        ∙ ap bit (sym (follows k i l u))

    -- the outputs of step t + D are plain logic's for the row of step t
    pub wave_outputs : (t : ℕ) → t + depth n < steps →
        output_row n (areas (suc (t + depth n))) ≡ output_row n (values n (rows t) n.size)
    wave_outputs t l = outputs_cong n _ _ n.size same
      where
        same : (i : ℕ) → i < n.size → is_output n i ≡ true → get_or (areas (suc (t + depth n))) i 0 ≡ get_or (values n (rows t) n.size) i 0
        same i u o =
            byte (t + depth n) i l (omega (arith, legal.whole))
            ∙ ap bit
            (wave n caps m source legal rows state steps follows (depth n) t (t + depth n) i i (omega arith) l
            (omega (arith, legal.whole))
            ((legal.kept i u).level ∙ source.outputs i u kind)
            (here refl (λ e. omega (arith, kind, (legal.kept i u).kind))))
            ∙ sym (value_plain n (rows t) n.size i u)
          where
            kind : (n.at i).kind ≡ output
            kind = eqb-true (n.at i).kind output o
