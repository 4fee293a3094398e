-- A legal netlist with the fewest buffers in all has the fewest on each net and at each level, since each is at least the fewest
-- and they sum up to it.
use Prim.Native.Nat.{ℕ, suc, ◌+◌, ◌-◌, ◌≤◌, ◌<◌}
use native.Mathlib.Decide.{dec_lt}
use native.Mathlib.Omega.{arith}
use mathlib.Core.Path.{◌≡◌, subst}
use borrow.Author.Tests.{eqb-true}
use Rattle.facts.proofs.Bools.{and_l, and_r}
use Rattle.facts.proofs.Sums.{count_none, tight}
use Rattle.netlist.specs.declared.Capacities.{Capacities}
use Rattle.netlist.specs.Kinds.{top_level}
use Rattle.netlist.specs.Records.{Netlist}
use Rattle.netlist.specs.Source.{IsSource}
use Rattle.netlist.specs.Counts.{buffer_count}
use Rattle.fanout.specs.Nets.{row, buffers_at, tree_size, fewest_in_all}
use Rattle.fanout.proofs.Nets.{fewest_sum, row_length}
use Rattle.verifier.specs.Legal.{Legal}
use Rattle.verifier.specs.Fewest.{on_net, on_net_at, buffers_on, buffers_on_at, LeastEverywhere}
use Rattle.verifier.proofs.Fewest.{above, at_levels_lem, on_nets_lem, in_all_lem, levels_sum, nets_sum}

module _ (n : Netlist) (caps : Capacities) (m : Netlist) (p : 0 < caps.buffer) (source : IsSource n) (legal : Legal n caps m)
    (few : buffer_count m ≤ fewest_in_all n caps) where
  net_least : (d : ℕ) → d < n.size → buffers_on m d ≤ tree_size n caps d
  net_least =
      tight (tree_size n caps) (buffers_on m) n.size (λ d l. on_nets_lem n caps m source legal d p l)
      (omega (arith, nets_sum n caps m source legal))

  level_least : (d k : ℕ) → d < n.size → k < top_level → buffers_on_at m d ((n.at d).level + suc k) ≤ buffers_at caps.buffer (row n d) (suc k)
  level_least d k l =
      tight (λ x. buffers_at caps.buffer (row n d) (suc x)) (λ x. buffers_on_at m d ((n.at d).level + suc x)) top_level
      (λ x g. at_levels_lem n caps m source legal d (suc x) p l (omega arith))
      (omega (
        arith,
        net_least d l,
        levels_sum n caps m source legal d l,
        fewest_sum caps.buffer (row n d) top_level p (rw (row_length n d) (omega arith)),
      ))
      k

  -- at any other level the net has no buffer
  level_none : (d level : ℕ) → d < n.size → ((n.at d).level < level → level ≤ top_level → ⊥) → buffers_on_at m d level ≡ 0
  unfolding buffers_on_at
  level_none d level l h =
      count_none (on_net_at m d level) m.size
      (λ x a e.
      let stands : (m.at x).level ≡ level = eqb-true _ level (and_r (on_net m d x) _ e) in
      let b = above n caps m source legal d x l a (and_l (on_net m d x) _ e) in
      h (omega (arith, b.0)) (omega (arith, b.1)))

pub least_everywhere : LeastEverywhere
least_everywhere n caps m other p source legal legal' few =
    record {
      in_all = omega (arith, in_all_lem n caps other source legal' p);
      on_nets = λ d l. omega (arith, net_least n caps m p source legal few d l, on_nets_lem n caps other source legal' d p l);
      at_levels = λ d level l.
          elim (dec_lt (n.at d).level level) [
            | no g ↦ omega (arith, level_none n caps m p source legal few d level l (λ a b. omega arith))
            | yes a ↦ elim (dec_lt top_level level) [
              | yes b ↦ omega (arith, level_none n caps m p source legal few d level l (λ x y. omega arith))
              | no b ↦
                  let k : ℕ = level - suc (n.at d).level in
                  let e : (n.at d).level + suc k ≡ level = omega arith in
                  subst (λ (x : ℕ). buffers_on_at m d x ≤ buffers_on_at other d x) e
                  (omega (
                    arith,
                    level_least n caps m p source legal few d k l (omega arith),
                    at_levels_lem n caps other source legal' d (suc k) p l (omega arith),
                  ))
            ]
          ];
    }
