-- Laws of numbers stored in four bytes each, one after another from 0 on: the first k of n are stored, the rest of the area is as it was.
use Prim.Native.Nat.{ℕ, suc, ◌+◌, ◌*◌, ◌<◌, ◌≤◌}
use native.Mathlib.Numerals.{add-one}
use native.Mathlib.Omega.{arith}
use mathlib.Core.Path.{◌≡◌, refl, sym, ap, ap₂, ◌∙◌}
use mathlib.Core.List.{List, ◌++◌, append_assoc}
use lib.ListN.{length, drop}
use Rattle.facts.specs.Bytes.{four}
use Rattle.facts.specs.Lists.{joined}
use Rattle.facts.specs.Areas.{put}
use Rattle.facts.proofs.Lists.{length_joined}
use Rattle.facts.proofs.Areas.{Written, length_written, take_written, drop_written, written_none, written_all}

-- the bytes of the first k numbers
abbrev pub fours : (ℕ → ℕ) → ℕ → List ℕ
fours f = joined (λ i. four (f i))

pub length_fours : (f : ℕ → ℕ) (k : ℕ) → length (fours f k) ≡ 4 * k
length_fours f = length_joined (λ i. four (f i)) 4 (λ i. refl)

pub record Stored (f : ℕ → ℕ) (n k : ℕ) (area old : List ℕ) : Type 0 where
  pub within : k ≤ n
  pub long : length area ≡ 4 * n
  pub all : length old ≡ 4 * n
  pub so_far : Written (fours f k) (4 * k) area old

module _ (f : ℕ → ℕ) (n : ℕ) (old : List ℕ) where
  pub stored_start : length old ≡ 4 * n → Stored f n 0 old old
  unfolding joined
  stored_start e = record { within = omega arith; long = e; all = e; so_far = written_none old }

  module _ (k : ℕ) (area : List ℕ) (s : Stored f n k area old) where
    pub stored_room : k < n → 4 * k + 4 ≤ length area
    stored_room h = omega (arith, s.long)

    pub stored_more : (v : ℕ) (new : List ℕ) → k < n → v ≡ f k → new ≡ put area (4 * k) (four v) → Stored f n (k + 1) new old
    unfolding joined
    stored_more v new h g e =
        record {
          within = omega arith;
          long = length_written _ (4 * (k + 1)) new old done (omega (arith, s.all)) ∙ s.all;
          all = s.all;
          so_far = done;
        }
      where
        done : Written (fours f (k + 1)) (4 * (k + 1)) new old
        done =
            let behind : 4 * k + 4 ≡ 4 * suc k = omega arith in
            record {
              long = length_fours f (k + 1);
              parts =
                  e
                  ∙ ap₂ (λ (a b : List ℕ). a ++ (four v ++ b))
                  (take_written _ (4 * k) area old s.so_far)
                  (drop_written _ (4 * k) (4 * k + 4) area old s.so_far (omega arith))
                  ∙ sym (append_assoc (fours f k) (four v) (drop (4 * k + 4) old))
                  ∙ rw (add-one k, g, behind) refl;
            }

    pub stored_all : n ≤ k → area ≡ fours f n
    stored_all h =
        let e : k ≡ n = omega (arith, s.within) in
        written_all _ (4 * k) area old s.so_far (omega (arith, s.all)) ∙ ap (fours f) e
