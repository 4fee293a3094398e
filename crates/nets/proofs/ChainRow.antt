-- Laws of filling a row along the chain of one driver: every sink below slot p is counted.
use Prim.Native.Nat.{ℕ, suc, ◌+◌, ◌≤◌, ◌<◌, ◌/◌, ◌^◌, max}
use mathlib.Core.Path.{◌≡◌, sym, ◌∙◌, ap}
use mathlib.Core.List.{List}
use native.Mathlib.Omega.{arith}
use mir.Val.{Fits}
use mir.Syntax.{w32}
use lib.Bits.{bit_or}
use lib.ListN.{length, get_or, set, replicate, length-set, length-replicate}
use lib.Seq.{get_or-set_other, ext_get_or}
use Rattle.facts.proofs.Lists.{zeros_at, added_at}
use Rattle.netlist.specs.Kinds.{top_level}
use Rattle.netlist.specs.Records.{Netlist}
use Rattle.fanout.specs.Nets.{row}
use Rattle.fanout.proofs.Nets.{row_length, row_at_lem}
use Rattle.nets.specs.PrivateChains.{next_sink, slot_distance, sinks_below, Chained}
use Rattle.fanout.specs.PrivateStretches.{stretch, InStretches}
use Rattle.fanout.specs.PrivateWalk.{Filled}
use Rattle.fanout.proofs.EmptyStretches.{stretches_none, stretches_added}
use Rattle.nets.proofs.OneChain.{sinks_below_lem, OnChain, chain_start, chain_none, chain_all, chain_inside, chain_near, chain_next, chain_on, chain_count}

-- every sink of d below slot p is counted, and none further than top
pub record Filling (n : Netlist) (d p : ℕ) (counts : List ℕ) (top stretches : ℕ) : Type 0 where
  pub chain : OnChain n d p
  pub size : length counts ≡ suc top_level
  pub counted : (k : ℕ) → k ≤ top_level → get_or counts k 0 ≡ sinks_below n d k p
  pub near : top ≤ top_level
  pub beyond : (k : ℕ) → top < k → get_or counts k 0 ≡ 0
  pub in_stretches : InStretches counts (suc top_level) stretches

module _ (n : Netlist) (first next : List ℕ) (end d : ℕ) (h : Chained n first next d end) where
  pub fill_start : (p : ℕ) (counts : List ℕ) → d < n.size → p ≡ get_or first d 0 → counts ≡ replicate (suc top_level) 0 → Filling n d p counts 0 0
  fill_start p counts l e f =
      record {
        chain = chain_start n first next end d h p l e;
        size = ap length f ∙ length-replicate {A = ℕ} (suc top_level) 0;
        counted = λ k b. zero_at k ∙ sym (chain_none n first next end d h p l e k);
        near = omega arith;
        beyond = λ k b. zero_at k;
        in_stretches = stretches_none counts (suc top_level) 0 zero_at;
      }
    where
      zero_at : (k : ℕ) → get_or counts k 0 ≡ 0
      zero_at = zeros_at (suc top_level) counts f

  module _ (p : ℕ) (counts : List ℕ) (top stretches : ℕ) (f : Filling n d p counts top stretches) where
    module _ (l : p < end) (a : ℕ) (e : a ≡ slot_distance n d p) where
      near : a < suc top_level
      near = chain_near n first next end d h p f.chain l a e

      -- a count stays small
      pub fill_fits : Fits w32 (get_or counts a 0 + 1)
      fill_fits =
          omega (
            arith,
            f.counted a (omega (arith, near)),
            sinks_below_lem n d a p,
            chain_inside n first next end d h p f.chain l,
            h.source.few,
          )

      pub fill_more : (q top' stretches' : ℕ) → q ≡ get_or next p 0 → top' ≡ max top a → stretches' ≡ bit_or stretches (2 ^ (a / stretch)) →
          Filling n d q (set counts a (get_or counts a 0 + 1)) top' stretches'
      fill_more q top' stretches' g t u =
          record {
            chain = chain_on n first next end d h p f.chain l q next_is;
            size = length-set counts a _ ∙ f.size;
            counted = λ k b.
                omega (
                  arith,
                  added_at counts a k (omega (arith, f.size, near)),
                  f.counted k b,
                  chain_count n first next end d h p f.chain l q next_is a k e,
                );
            near = omega (arith, f.near, near);
            beyond = λ k b. get_or-set_other counts a k _ 0 (λ x. omega arith) ∙ f.beyond k (omega arith);
            in_stretches = rw u (stretches_added counts (suc top_level) stretches a f.in_stretches (omega (arith, f.size, near)));
          }
        where
          next_is : q ≡ next_sink n d (suc p)
          next_is = chain_next n first next end d h p f.chain l q g

    pub fill_end : end ≤ p → Filled n d counts top
    fill_end l =
        record {
          counted =
              ext_get_or 0 counts (row n d) (f.size ∙ sym (row_length n d))
              (λ k b.
              f.counted k (omega (arith, f.size))
              ∙ chain_all n first next end d h p f.chain l k
              ∙ sym (row_at_lem n d k (omega (arith, f.size))));
          near = f.near;
          beyond = f.beyond;
        }
