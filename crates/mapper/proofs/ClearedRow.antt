-- A row is all zero once the entries up to top are: none beyond is anything else.
use Prim.Native.Nat.{ℕ, suc, ◌+◌, ◌-◌}
use mathlib.Core.Path.{◌≡◌, ◌∙◌, ap}
use mathlib.Core.List.{List, ◌++◌}
use native.Mathlib.Omega.{arith}
use native.Mathlib.Decide.{dec_lt}
use lib.ListN.{length, take, drop, replicate, length-append, length-drop, length-replicate, get_or-append}
use lib.Seq.{length-take-le, get_or-append_right, get_or-drop}
use Rattle.facts.proofs.Lists.{zeros, zeros_at}
use Rattle.netlist.specs.Kinds.{top_level}
use Rattle.mapper.specs.PrivateWriting.{Stale}

module _ (counts : List ℕ) (top : ℕ) (h : Stale counts top) where
  pub cleared : (xs : List ℕ) → xs ≡ replicate (length (take (top + 1) counts)) 0 → xs ++ drop (top + 1) counts ≡ replicate (suc top_level) 0
  cleared xs e =
      zeros (suc top_level) (xs ++ drop (top + 1) counts)
      (omega (arith, length-append xs (drop (top + 1) counts), length-drop (top + 1) counts, long, h.size, h.near))
      (λ k.
      elim (dec_lt k (length xs)) [
        | yes l ↦ get_or-append xs (drop (top + 1) counts) 0 k l ∙ zeros_at (length (take (top + 1) counts)) xs e k
        | no g ↦
            get_or-append_right xs (drop (top + 1) counts) k 0 (omega arith)
            ∙ get_or-drop (top + 1) counts (k - length xs) 0
            ∙ h.beyond (top + 1 + (k - length xs)) (omega arith)
      ])
    where
      long : length xs ≡ top + 1
      long =
          ap length e
          ∙ length-replicate {A = ℕ} (length (take (top + 1) counts)) 0
          ∙ length-take-le (top + 1) counts (omega (arith, h.size, h.near))
