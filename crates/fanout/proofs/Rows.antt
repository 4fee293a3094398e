-- Rows of level counts are what they say: of a source's driver, and of a list of distances.
use Prim.Native.Nat.{ℕ, zero, suc, ◌+◌, ◌*◌, ◌-◌, ◌≤◌, ◌<◌, ◌/◌, ◌%◌}
use mathlib.Core.Path.{◌≡◌, refl, sym, ◌∙◌, ap, subst}
use mathlib.Core.Bool.{Bool, true, false, ◌&&◌}
use mathlib.Core.List.{List, [], ◌∷◌}
use native.Mathlib.Omega.{arith}
use native.Mathlib.Nat.{zero-add}
use native.Mathlib.Decide.{dec_le, ℕ_discrete}
use lib.ListN.{length, get_or, replicate, length-set, length-replicate, get_or-eq_default}
use lib.Dec.{eqb, ltb, leb}
use borrow.Author.Tests.{eqb-true, eq-eqb, ne_eqb, ltb-true, leb-true}
use Rattle.facts.specs.Sums.{bit, sum, count}
use Rattle.facts.proofs.Bools.{and_l, and_r}
use Rattle.facts.proofs.Lists.{get_or_replicated, added_at}
use Rattle.facts.proofs.Sums.{sum_first, count_cong, count_none, count₂_flat, count₂_le, count₂_none}
use Rattle.netlist.specs.Kinds.{slots, top_level, arity, is_driver}
use Rattle.netlist.specs.Records.{Netlist, names, used, fanin}
use Rattle.netlist.specs.Source.{IsSource}
use Rattle.netlist.proofs.Source.{is_output_lem}
use Rattle.fanout.specs.Nets.{sink_limit, sink_at, sinks, row, added}
use Rattle.fanout.specs.Trees.{RowOf, net_of, net_at, sinks_at}
use Rattle.fanout.specs.Worked.{added_all, row_at}
use Rattle.fanout.proofs.Nets.{row_length, row_at_lem}

-- every distance of a list lies from 1 to 4,095
abbrev pub within : List ℕ → Bool
within [] = true
within (d ∷ ds) = (ltb 0 d && leb d top_level) && within ds

module _ (d : ℕ) (ds : List ℕ) (e : within (d ∷ ds) ≡ true) where
  first_within : (0 < d) × (d ≤ top_level)
  first_within =
      let h = and_l (ltb 0 d && leb d top_level) _ e in
      (ltb-true 0 d (and_l (ltb 0 d) _ h), leb-true d top_level (and_r (ltb 0 d) _ h))

  others_within : within ds ≡ true
  others_within = and_r (ltb 0 d && leb d top_level) _ e

added_all_at : (r ds : List ℕ) (k : ℕ) → length r ≡ suc top_level → within ds ≡ true →
    get_or (added_all r ds) k 0 ≡ get_or r k 0 + count (λ x. eqb (get_or ds x 0) k) (length ds)
unfolding count sum
added_all_at r [] k h e = omega arith
added_all_at r (d ∷ ds) k h e =
    omega (
      arith,
      added_all_at (added r d) ds k (length-set r d _ ∙ h) (others_within d ds e),
      added_at r d k (omega (arith, (first_within d ds e).1)),
      sum_first (λ x. bit (eqb (get_or (d ∷ ds) x 0) k)) (length ds),
    )

within_at : (ds : List ℕ) (x : ℕ) → within ds ≡ true → x < length ds → 0 < get_or ds x 0
within_at [] x e l = absurd (omega arith)
within_at (d ∷ ds) zero e l = (first_within d ds e).0
within_at (d ∷ ds) (suc x) e l = within_at ds x (others_within d ds e) (omega arith)

-- the row of a list of distances
pub row_of_distances : (ds : List ℕ) → within ds ≡ true → RowOf (net_at ds) (row_at ds)
unfolding sinks_at
row_of_distances ds e =
    record {
      entry = λ k.
          added_all_at (replicate (suc top_level) 0) ds k (length-replicate {A = ℕ} (suc top_level) 0) e
          ∙ ap (λ (n : ℕ). n + sinks_at (net_at ds) k) (get_or_replicated (suc top_level) k 0)
          ∙ zero-add (sinks_at (net_at ds) k);
      above = λ x l h. within_at ds x e l;
    }

-- a level against the driver's and a distance
pub level_test : (a b k : ℕ) → b < a → eqb a (b + k) ≡ eqb (a - b) k
level_test a b k l =
    elim (ℕ_discrete a (b + k)) [
      | yes e ↦ eq-eqb a (b + k) e ∙ sym (eq-eqb (a - b) k (omega arith))
      | no g ↦ ne_eqb a (b + k) g ∙ sym (ne_eqb (a - b) k (λ e. g (omega arith)))
    ]

-- a distance without sinks
pub row_none : (m : Netlist) (d x : ℕ) → sinks m d x ≡ 0 → get_or (row m d) x 0 ≡ 0
row_none m d x e =
    elim (dec_le x top_level) [
      | yes h ↦ row_at_lem m d x h ∙ e
      | no g ↦ get_or-eq_default (row m d) 0 {n = x} (omega (arith, row_length m d))
    ]

module _ (m : Netlist) (d : ℕ) (source : IsSource m) where
  -- a used slot that names d stands above d
  pub sink_above : (i j : ℕ) → i < m.size → names m d i j ≡ true → (m.at d).level < (m.at i).level
  sink_above i j l e =
      subst (λ (x : ℕ). (m.at x).level < (m.at i).level) (eqb-true (fanin m i j) d (and_r (used m i j) _ e))
      (source.lower i j l (ltb-true j (arity (m.at i).kind) (and_l (used m i j) _ e)))

  same_test : (k i j : ℕ) → i < m.size →
      sink_at m d k i j ≡ (names m d i j && eqb ((m.at i).level - (m.at d).level) k)
  same_test k i j l = go (names m d i j) refl
    where
      go : (b : Bool) → names m d i j ≡ b →
          (b && eqb (m.at i).level ((m.at d).level + k)) ≡ (b && eqb ((m.at i).level - (m.at d).level) k)
      go true e = level_test (m.at i).level (m.at d).level k (sink_above i j l e)
      go false e = refl

  record_of : (x : ℕ) → x < slots * m.size → x / slots < m.size
  record_of x l = omega arith

  -- no sink lies past the row
  past : (k x : ℕ) → top_level < k → x < slots * m.size →
      ((net_of m d).sink x && eqb ((net_of m d).distance x) k) ≡ true → ⊥
  past k x g l e =
      omega (
        arith,
        eqb-true ((net_of m d).distance x) k (and_r ((net_of m d).sink x) _ e),
        source.levels (x / slots) (record_of x l),
      )

  entry_at : (k : ℕ) → get_or (row m d) k 0 ≡ sinks_at (net_of m d) k
  unfolding sinks sinks_at
  entry_at k =
      elim (dec_le k top_level) [
        | yes h ↦
            row_at_lem m d k h
            ∙ count₂_flat (sink_at m d k) slots m.size (omega arith)
            ∙ count_cong _ _ (slots * m.size) (λ x l. same_test k (x / slots) (x % slots) (record_of x l))
        | no g ↦
            get_or-eq_default (row m d) 0 (omega (arith, row_length m d))
            ∙ sym (count_none _ (slots * m.size) (λ x l e. past k x (omega arith) l e))
      ]

  -- the row of a source's driver
  pub row_of_net : RowOf (net_of m d) (row m d)
  row_of_net =
      record {
        entry = entry_at;
        above = λ x l e. omega (arith, sink_above (x / slots) (x % slots) (record_of x l) e);
      }

  -- its entries are small, and no sink stands beside the driver
  pub row_small : (k : ℕ) → get_or (row m d) k 0 ≤ sink_limit
  unfolding sinks
  row_small k =
      elim (dec_le k top_level) [
        | yes h ↦ omega (arith, row_at_lem m d k h, count₂_le (sink_at m d k) slots m.size, source.few)
        | no g ↦ omega (arith, get_or-eq_default (row m d) 0 {n = k} (omega (arith, row_length m d)))
      ]

  pub row_apart : get_or (row m d) 0 0 ≡ 0
  unfolding sinks
  row_apart =
      row_none m d 0
      (count₂_none (sink_at m d 0) slots m.size
      (λ i j l b e.
      omega (
        arith,
        sink_above i j l (and_l (names m d i j) _ e),
        eqb-true (m.at i).level ((m.at d).level + 0) (and_r (names m d i j) _ e),
      )))

  -- what is no driver has no sinks
  pub no_sinks : is_driver (m.at d).kind ≡ false → (k : ℕ) → sinks m d k ≡ 0
  unfolding sinks
  no_sinks e k =
      count₂_none (sink_at m d k) slots m.size
      (λ i j l b t.
      let n = and_l (names m d i j) _ t in
      let u : j < arity (m.at i).kind = ltb-true j (arity (m.at i).kind) (and_l (used m i j) _ n) in
      let f : fanin m i j ≡ d = eqb-true (fanin m i j) d (and_r (used m i j) _ n) in
      source.no_output i j l u
      (is_output_lem m source (fanin m i j) (omega (arith, source.earlier i j l u)) (ap (λ (x : ℕ). is_driver (m.at x).kind) f ∙ e)))
