-- A legal mapped netlist of a source is path-balanced: its records are the source's, at their levels, and buffers. So what the verifier
-- accepts is path-balanced and properly branched.
use Prim.Native.Nat.{ℕ, ◌<◌}
use native.Mathlib.Decide.{dec_lt}
use native.Mathlib.Omega.{arith}
use mathlib.Core.Path.{◌≡◌, sym, ◌∙◌}
use mathlib.Core.Logic.{◌≢◌}
use Rattle.netlist.specs.declared.Capacities.{Capacities}
use Rattle.netlist.specs.Kinds.{output, buffer}
use Rattle.netlist.specs.Records.{Netlist, netlist, depth}
use Rattle.netlist.specs.Source.{IsSource, OutputsAt}
use Rattle.netlist.specs.Balance.{PathBalanced}
use Rattle.netlist.proofs.Balance.{properly_branched}
use Rattle.verifier.specs.Legal.{Legal}
use Rattle.verifier.specs.Balance.{AcceptedBalanced}
use Rattle.verifier.proofs.Accepted.{accepted_exactly}

module _ (n : Netlist) (caps : Capacities) (m : Netlist) (source : IsSource n) (legal : Legal n caps m) where
  -- what is no buffer is a source record
  source_record : (k : ℕ) → k < m.size → (m.at k).kind ≢ buffer → k < n.size
  source_record k l e =
      elim (dec_lt k n.size) [
        | yes a ↦ a
        | no a ↦ absurd (e (legal.buffers k (omega arith) l).kind)
      ]

  output_level_lem : (k : ℕ) → k < m.size → (m.at k).kind ≡ output → (m.at k).level ≡ depth n
  output_level_lem k l e =
      let a = source_record k l (λ b. omega arith) in
      let kept = legal.kept k a in
      kept.level ∙ source.outputs k a (sym kept.kind ∙ e)

  -- its outputs stand where the source's do
  pub outputs_kept : OutputsAt n (depth n) → OutputsAt m (depth n)
  outputs_kept outputs =
      record {
        level = output_level_lem;
        none = λ h. outputs.none (λ k l e. h k (omega (arith, legal.whole)) ((legal.kept k l).kind ∙ e));
      }

  pub path_balanced : PathBalanced m
  path_balanced =
      record {
        fanins = legal.balanced;
        inputs = λ k l e.
            let a = source_record k l (λ b. omega arith) in
            let kept = legal.kept k a in
            kept.level ∙ source.inputs k a (sym kept.kind ∙ e);
        outputs = λ k i a b e f. output_level_lem k a e ∙ sym (output_level_lem i b f);
      }

pub accepted_balanced_lem : AcceptedBalanced
accepted_balanced_lem source caps mapped buffers e =
    let a = ((accepted_exactly source caps mapped buffers).0 e).0 in (
      path_balanced (netlist source) caps (netlist mapped) a.is_source.is_source a.legal,
      properly_branched (netlist mapped) caps a.legal.branched,
    )
