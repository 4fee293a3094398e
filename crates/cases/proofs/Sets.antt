-- A list that agrees with f below k agrees with it below k + 1 once element k is f k.
use Rattle.std.proofs.Common.{ℕ, ◌≡◌, ◌<◌, ◌+◌, List, length, slice_index, slice_set, ◌∙◌, arith}
use native.Mathlib.Decide.{ℕ_discrete}
use Rattle.std.proofs.lemmas.List.{get_or-set_same, get_or-set_other}

pub agree_more : (xs : List ℕ) (f : ℕ → ℕ) (k v : ℕ) → k < length xs → v ≡ f k → ((i : ℕ) → i < k → slice_index xs i ≡ f i) → (i : ℕ) → i < k + 1 → slice_index (slice_set xs k v) i ≡ f i
agree_more xs f k v room e below i h =
    elim (ℕ_discrete i k) [
      | yes p ↦ rw p (get_or-set_same xs k v 0 room ∙ e)
      | no q ↦ get_or-set_other xs k i v 0 q ∙ below i (omega (arith, h, q))
    ]
