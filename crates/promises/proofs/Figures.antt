-- The numbers of an accepted mapping are the facts of `Figures`, and no other numbers are: the netlist written has the source's
-- outputs, it is the one that was priced, and a fraction is rounded to one number.
use Prim.Native.Nat.{ℕ, ◌*◌}
use native.Mathlib.Omega.{arith}
use mathlib.Core.Path.{◌≡◌, refl, sym, ap, subst, ◌∙◌}
use mathlib.Core.List.{List, [], ◌∷◌}
use lib.ListN.{take}
use Rattle.facts.proofs.Rounding.{rounded_exact}
use Rattle.netlist.specs.declared.Capacities.{Capacities}
use Rattle.netlist.specs.Kinds.{width}
use Rattle.netlist.specs.Records.{Netlist, netlist, depth}
use Rattle.netlist.proofs.Source.{outputs_at, outputs_at_one}
use Rattle.verifier.proofs.Balance.{outputs_kept}
use Rattle.prices.specs.Prices.{junctions, buffer_junctions}
use Rattle.mapper.specs.Mapped.{mapped}
use Rattle.mapper.specs.Answer.{share, map_answer}
use Rattle.promises.specs.Written.{Maps, written}
use Rattle.promises.specs.Numbers.{Figures}
use Rattle.promises.proofs.Written.{maps_passed, answer_size, written_netlist, written_legal, buffers_one_number}

module _ (source : List ℕ) (caps : Capacities) (list area : List ℕ) (maps : Maps source caps list area) where
  answers : ((map_answer source caps list area).depth ≡ depth (netlist source))
      × ((map_answer source caps list area).junctions ≡ junctions list (mapped (netlist source) caps))
      × ((map_answer source caps list area).share
      ≡ share (buffer_junctions list (mapped (netlist source) caps)) (junctions list (mapped (netlist source) caps)))
  unfolding map_answer
  answers = rw (maps_passed source caps list area maps) (refl, refl, refl)

  pub figures_hold :
      Figures source caps list (written source caps list area) (map_answer source caps list area).size (map_answer source caps list area).buffers
      (map_answer source caps list area).depth (map_answer source caps list area).junctions (map_answer source caps list area).share
  figures_hold =
      let n = netlist source in
      let m = netlist (written source caps list area) in
      let a = written_legal source caps list area maps in
      let one = buffers_one_number source caps list area maps in
      let same = written_netlist source caps list area maps in
      record {
        records = ap (λ (x : Netlist). x.size) same ∙ sym (answer_size source caps list area maps);
        added = one.added;
        kinds = sym one.kinds;
        fewest = sym one.counts;
        outputs = rw answers.0 (outputs_kept n caps m a.is_source.is_source a.legal (outputs_at source a.is_source));
        prices = answers.1 ∙ ap (junctions list) (sym same);
        part = rw (same, answers.1, answers.2) (rounded_exact.computed _ _);
      }

-- two lists of figures for one netlist written
module _ (source : List ℕ) (caps : Capacities) (list m : List ℕ) (M B D J P M' B' D' J' P' : ℕ) (f : Figures source caps list m M B D J P)
    (g : Figures source caps list m M' B' D' J' P') where
  figures_one : 0 ∷ 0 ∷ M ∷ B ∷ D ∷ J ∷ P ∷ [] ≡ 0 ∷ 0 ∷ M' ∷ B' ∷ D' ∷ J' ∷ P' ∷ []
  figures_one =
      let same : J ≡ J' = f.prices ∙ sym g.prices in
      cc (
        sym f.records ∙ g.records,
        f.kinds ∙ sym g.kinds,
        outputs_at_one (netlist m) D D' f.outputs g.outputs,
        same,
        rounded_exact.one (100 * buffer_junctions list (netlist m)) J' P P' (rw same at f.part) g.part,
      )

-- and for the first M records of one area
pub figures_same : (source : List ℕ) (caps : Capacities) (list area : List ℕ) (M B D J P M' B' D' J' P' : ℕ) →
    Figures source caps list (take (width * M) area) M B D J P → Figures source caps list (take (width * M') area) M' B' D' J' P' →
    0 ∷ 0 ∷ M ∷ B ∷ D ∷ J ∷ P ∷ [] ≡ 0 ∷ 0 ∷ M' ∷ B' ∷ D' ∷ J' ∷ P' ∷ []
figures_same source caps list area M B D J P M' B' D' J' P' f g =
    let same : M ≡ M' = omega (arith, f.added, g.added, f.fewest, g.fewest) in
    figures_one source caps list (take (width * M') area) M B D J P M' B' D' J' P'
    (subst (λ (x : ℕ). Figures source caps list (take (width * x) area) M B D J P) same f) g
