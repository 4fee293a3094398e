-- The least levels keep the rules, and no assignment that keeps them is lower at any record.
use Prim.Native.Nat.{ℕ, zero, suc, ◌+◌, ◌≤◌, ◌<◌}
use native.Mathlib.Decide.{dec_lt}
use native.Mathlib.Omega.{arith}
use mathlib.Core.Path.{◌≡◌, refl, sym, ap, subst, ◌∙◌}
use mathlib.Core.Bool.{Bool, true, false, cond}
use mathlib.Core.List.{[], ◌∷◌}
use lib.ListN.{length, get_or, length-append, get_or-append}
use lib.Seq.{get_or_at}
use borrow.Author.Tests.{ltb-true, eq-eqb, ne_eqb, eqb-true}
use Rattle.facts.specs.Sums.{sum, largest}
use Rattle.facts.proofs.Sums.{sum_add, sum_const, sum_more, count₂_le, fibres, le_largest, largest_le, largest_cong}
use Rattle.netlist.specs.Kinds.{slots, source_limit, output, arity}
use Rattle.netlist.specs.Records.{Netlist, netlist, used, fanin, names, feeds, is_output}
use Rattle.netlist.specs.Source.{Structured}
use Rattle.fanout.specs.Nets.{sink_limit}
use Rattle.levels.specs.Rules.{KeepsRules}
use Rattle.levels.specs.Levels.{height, sink_level, over_fanins, lowest_below, lowest, output_lowest, output_level, least_level}
use Rattle.levels.specs.Promises.{LevelsLeast}
use Rattle.levels.proofs.Heights.{height_small, height_exact}

module _ (s : ℕ) (m : Netlist) where
  abbrev own : ℕ → ℕ
  own k = over_fanins s m (λ d. get_or (lowest_below s m k) d 0) k

  length_lowest : (n : ℕ) → length (lowest_below s m n) ≡ n
  unfolding lowest_below
  length_lowest zero = refl
  length_lowest (suc n) = omega (arith, length-append (lowest_below s m n) (own n ∷ []), length_lowest n)

  lowest_own : (k : ℕ) → lowest s m k ≡ own k
  unfolding lowest_below lowest
  lowest_own k = get_or_at (lowest_below s m k) (own k) [] 0 k (length_lowest k)

  lowest_at : (n d : ℕ) → d < n → get_or (lowest_below s m n) d 0 ≡ lowest s m d
  unfolding lowest_below
  lowest_at zero d l = absurd (omega arith)
  lowest_at (suc n) d l =
      elim (dec_lt d n) [
        | yes b ↦ get_or-append (lowest_below s m n) (own n ∷ []) 0 d (omega (arith, length_lowest n)) ∙ lowest_at n d b
        | no g ↦ (let e : d ≡ n = omega arith in rw e (get_or_at (lowest_below s m n) (own n) [] 0 n (length_lowest n) ∙ sym (lowest_own n)))
      ]

  module _ (structured : Structured m) where
    -- how low a record may stand, by how low its fanins do
    pub lowest_over : (k : ℕ) → k < m.size → lowest s m k ≡ over_fanins s m (lowest s m) k
    lowest_over k l =
        lowest_own k
        ∙ largest_cong _ _ (arity (m.at k).kind)
        (λ j u. ap (λ (x : ℕ). x + suc (height s (feeds m (fanin m k j)))) (lowest_at k (fanin m k j) (structured.earlier k j l u)))

    -- a driver's sinks are few
    pub sinks_few : (d : ℕ) → feeds m d ≤ sink_limit
    unfolding feeds
    sinks_few d = omega (arith, count₂_le (names m d) slots m.size, structured.few)

    -- every slot is a sink of one driver
    sinks_total : sum (feeds m) m.size ≤ sink_limit
    unfolding feeds
    sinks_total =
        omega (
          arith,
          fibres (used m) (fanin m) slots m.size m.size
              (λ i j l h e. omega (arith, structured.earlier i j l (ltb-true j (arity (m.at i).kind) e))),
          count₂_le (used m) slots m.size,
          structured.few,
        )

    -- a driver and its sinks
    abbrev weight : ℕ → ℕ
    weight d = 1 + feeds m d

    weights : sum weight m.size ≤ source_limit + sink_limit
    weights = omega (arith, sum_add (λ d. 1) (feeds m) m.size, sum_const 1 m.size, sinks_total, structured.few)

    -- what stands below a record is at most the drivers before it and their sinks
    lowest_below_lem : (n k : ℕ) → k < n → k < m.size → lowest s m k ≤ sum weight k
    unfolding sum
    lowest_below_lem zero k b l = absurd (omega arith)
    lowest_below_lem (suc n) k b l =
        subst (λ (x : ℕ). x ≤ sum weight k) (sym (lowest_over k l))
        (largest_le _ (arity (m.at k).kind) (sum weight k)
        (λ j u.
        let f = structured.earlier k j l u in
        omega (
          arith,
          lowest_below_lem n (fanin m k j) (omega arith) (omega arith),
          height_small s (feeds m (fanin m k j)),
          sum_more weight (suc (fanin m k j)) k f,
        )))

    pub sink_small : (k : ℕ) → k < m.size → sink_level s m (lowest s m) k ≤ source_limit + sink_limit
    unfolding sum
    sink_small k l =
        omega (arith, lowest_below_lem (suc k) k (omega arith) l, height_small s (feeds m k), sum_more weight (suc k) m.size l, weights)

    -- a sink's least level over its driver's
    over : (k j : ℕ) → k < m.size → j < arity (m.at k).kind → sink_level s m (lowest s m) (fanin m k j) ≤ lowest s m k
    over k j l u =
        subst (λ (x : ℕ). sink_level s m (lowest s m) (fanin m k j) ≤ x) (sym (lowest_over k l))
        (le_largest (λ j. sink_level s m (lowest s m) (fanin m k j)) j (arity (m.at k).kind) u)

    output_is : (k : ℕ) → (m.at k).kind ≡ output → least_level s m k ≡ output_level s m
    output_is k e = rw (eq-eqb (m.at k).kind output e)

    other_is : (k : ℕ) → ((m.at k).kind ≡ output → ⊥) → least_level s m k ≡ lowest s m k
    other_is k e = rw (ne_eqb (m.at k).kind output e)

    -- a record stands at least as high as its fanins let it
    least_over : (k : ℕ) → k < m.size → lowest s m k ≤ least_level s m k
    least_over k l = go (is_output m k) refl
      where
        go : (b : Bool) → is_output m k ≡ b → lowest s m k ≤ least_level s m k
        go true e = rw e (rw e at (le_largest (output_lowest s m) k m.size l))
        go false e = rw e (omega arith)

    least_keeps : 2 ≤ s → KeepsRules s m (least_level s m)
    unfolding largest
    least_keeps two =
        record {
          inputs = λ k l e.
              other_is k (λ o. omega arith) ∙ lowest_over k l ∙ ap (largest (λ j. sink_level s m (lowest s m) (fanin m k j))) (ap arity e);
          outputs = λ k i l h e f. output_is k e ∙ sym (output_is i f);
          sinks = λ k j h l u x.
              let same : h ≡ height s (feeds m (fanin m k j)) = height_exact.one s _ _ _ x (height_exact.computed s _ two) in
              omega (arith, over k j l u, least_over k l, other_is (fanin m k j) (structured.no_output k j l u));
        }

    -- no assignment that keeps the rules is lower
    module _ (two : 2 ≤ s) (level : ℕ → ℕ) (keeps : KeepsRules s m level) where
      lowest_least : (n k : ℕ) → k < n → k < m.size → lowest s m k ≤ level k
      lowest_least zero k b l = absurd (omega arith)
      lowest_least (suc n) k b l =
          subst (λ (x : ℕ). x ≤ level k) (sym (lowest_over k l))
          (largest_le _ (arity (m.at k).kind) (level k)
          (λ j u.
          let f = structured.earlier k j l u in
          omega (
            arith,
            lowest_least n (fanin m k j) (omega arith) (omega arith),
            keeps.sinks k j _ l u (height_exact.computed s (feeds m (fanin m k j)) two),
          )))

      least_least : (k : ℕ) → k < m.size → least_level s m k ≤ level k
      least_least k l = go (is_output m k) refl
        where
          one : (e : is_output m k ≡ true) (i : ℕ) → i < m.size → (b : Bool) → is_output m i ≡ b → cond b (lowest s m i) 0 ≤ level k
          one e i h true o =
              omega (
                arith,
                lowest_least (suc i) i (omega arith) h,
                keeps.outputs i k h l (eqb-true (m.at i).kind output o) (eqb-true (m.at k).kind output e),
              )
          one e i h false o = omega arith

          go : (b : Bool) → is_output m k ≡ b → least_level s m k ≤ level k
          go true e = rw e (largest_le (output_lowest s m) m.size (level k) (λ i h. one e i h (is_output m i) refl))
          go false e = rw e (lowest_least (suc k) k (omega arith) l)

pub levels_least : LevelsLeast
levels_least source s u =
    record {
      keeps = least_keeps s (netlist source) u.source.structured u.low;
      least = least_least s (netlist source) u.source.structured u.low;
    }
