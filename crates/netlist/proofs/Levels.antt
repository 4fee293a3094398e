-- Laws of bytes with other levels: a level field holds what was set, every other byte is as it was, and so is a record but for its level.
use Prim.Native.Nat.{ℕ, zero, suc, ◌+◌, ◌*◌, ◌/◌, ◌%◌, ◌<◌, ◌≤◌}
use native.Mathlib.Decide.{ℕ_discrete}
use native.Mathlib.Omega.{arith}
use mathlib.Core.Path.{◌≡◌, refl, sym, ap, ap₂, subst, ◌∙◌}
use mathlib.Core.Logic.{◌≢◌}
use mathlib.Core.List.{List}
use lib.ListN.{length, get_or, set, length-set}
use lib.Seq.{get_or-set_same, get_or-set_other}
use Rattle.facts.specs.Bytes.{two_bytes}
use Rattle.facts.proofs.Areas.{length_put}
use Rattle.facts.proofs.Bytes.{two_back, stores_two}
use Rattle.facts.proofs.Lists.{tabulate_cong}
use Rattle.netlist.specs.declared.Record.{Record}
use Rattle.netlist.specs.Kinds.{width, slots}
use Rattle.netlist.specs.Records.{field, record_bytes, record_at}
use Rattle.netlist.specs.Bytes.{level_place, with_level, with_levels}
use Rattle.netlist.proofs.Records.{record_byte, record_inside}

-- the level of one record set
module _ (bytes : List ℕ) (k v : ℕ) (room : width * k + width ≤ length bytes) where
  abbrev place : ℕ
  place = width * k + level_place

  -- its two bytes, stored one by one
  stored : set (set bytes place (v % 256)) (place + 1) (v / 256 % 256) ≡ with_level bytes k v
  unfolding with_level
  stored = stores_two bytes place v (omega arith)

  length_level : length (with_level bytes k v) ≡ length bytes
  unfolding with_level
  length_level = length_put bytes place (two_bytes v) (omega arith)

  level_other : (i : ℕ) → i ≢ place → i ≢ place + 1 → get_or (with_level bytes k v) i 0 ≡ get_or bytes i 0
  level_other i a b =
      ap (λ (l : List ℕ). get_or l i 0) (sym stored)
      ∙ get_or-set_other (set bytes place (v % 256)) (place + 1) i (v / 256 % 256) 0 b
      ∙ get_or-set_other bytes place i (v % 256) 0 a

  level_set : v < 65536 → field (with_level bytes k v) place ≡ v
  level_set h =
      ap (λ (l : List ℕ). field l place) (sym stored)
      ∙ ap₂ (λ (a b : ℕ). a + 256 * b)
      (get_or-set_other (set bytes place (v % 256)) (place + 1) place (v / 256 % 256) 0 (λ e. omega arith)
      ∙ get_or-set_same bytes place (v % 256) 0 (omega arith))
      (get_or-set_same (set bytes place (v % 256)) (place + 1) (v / 256 % 256) 0 (omega (arith, length-set bytes place (v % 256))))
      ∙ two_back v h

-- the levels of the first n records set
module _ (level : ℕ → ℕ) (bytes : List ℕ) where
  pub length_levels : (n : ℕ) → width * n ≤ length bytes → length (with_levels level bytes n) ≡ length bytes
  unfolding with_levels
  length_levels zero l = refl
  length_levels (suc n) l =
      let before = length_levels n (omega arith) in
      length_level (with_levels level bytes n) n (level n) (omega arith) ∙ before

  -- bytes outside the level fields
  pub levels_other : (n i : ℕ) → width * n ≤ length bytes → i % width ≢ level_place → i % width ≢ suc level_place →
      get_or (with_levels level bytes n) i 0 ≡ get_or bytes i 0
  unfolding with_levels
  levels_other zero i l a b = refl
  levels_other (suc n) i l a b =
      level_other (with_levels level bytes n) n (level n) (omega (arith, length_levels n (omega arith))) i
      (λ e. a (omega arith)) (λ e. b (omega arith))
      ∙ levels_other n i (omega arith) a b

  -- the level field of record k
  pub levels_set : (n k : ℕ) → width * n ≤ length bytes → k < n → level k < 65536 →
      field (with_levels level bytes n) (width * k + level_place) ≡ level k
  unfolding with_levels
  levels_set zero k l h f = absurd (omega arith)
  levels_set (suc n) k l h f =
      elim (ℕ_discrete k n) [
        | yes e ↦
            subst (λ (i : ℕ). field (with_level (with_levels level bytes n) n (level n)) (width * i + level_place) ≡ level i) (sym e)
            (level_set (with_levels level bytes n) n (level n) room (subst (λ (i : ℕ). level i < 65536) e f))
        | no g ↦
            ap₂ (λ (a b : ℕ). a + 256 * b)
            (level_other (with_levels level bytes n) n (level n) room (width * k + level_place) (λ e. g (omega arith)) (λ e. g (omega arith)))
            (level_other (with_levels level bytes n) n (level n) room (width * k + level_place + 1) (λ e. g (omega arith)) (λ e. g (omega arith)))
            ∙ levels_set n k (omega arith) (omega arith) f
      ]
    where
      room : width * n + width ≤ length (with_levels level bytes n)
      room = omega (arith, length_levels n (omega arith))

  -- record k
  module _ (n k : ℕ) (l : width * n ≤ length bytes) (h : k < n) (f : level k < 65536) where
    same : (b : ℕ) → b < width → b ≢ level_place → b ≢ suc level_place →
        get_or (record_bytes (with_levels level bytes n) k) b 0 ≡ get_or (record_bytes bytes k) b 0
    same b s a c =
        record_byte (with_levels level bytes n) k b s
        ∙ levels_other n (width * k + b) l (λ e. a (omega arith)) (λ e. c (omega arith))
        ∙ sym (record_byte bytes k b s)

    slot_same : (j : ℕ) → j < slots → field (record_bytes (with_levels level bytes n) k) (4 + 2 * j) ≡ field (record_bytes bytes k) (4 + 2 * j)
    slot_same j s =
        ap₂ (λ (a b : ℕ). a + 256 * b)
        (same (4 + 2 * j) (omega arith) (λ e. omega arith) (λ e. omega arith))
        (same (4 + 2 * j + 1) (omega arith) (λ e. omega arith) (λ e. omega arith))

    set_here : field (record_bytes (with_levels level bytes n) k) level_place ≡ level k
    set_here =
        ap₂ (λ (a b : ℕ). a + 256 * b)
        (record_byte (with_levels level bytes n) k level_place (omega arith))
        (record_byte (with_levels level bytes n) k (level_place + 1) (omega arith) ∙ ap (λ (i : ℕ). get_or (with_levels level bytes n) i 0) next)
        ∙ levels_set n k l h f
      where
        next : width * k + (level_place + 1) ≡ width * k + level_place + 1
        next = omega arith

    pub record_levelled : record_at (with_levels level bytes n) k ≡ record {
      kind = (record_at bytes k).kind;
      inversion = (record_at bytes k).inversion;
      level = level k;
      slots = (record_at bytes k).slots;
    }
    record_levelled =
        record_inside (with_levels level bytes n) k (omega (arith, length_levels n l))
        ∙ (λ i. record {
          kind = same 0 (omega arith) (λ e. omega arith) (λ e. omega arith) i;
          inversion = same 1 (omega arith) (λ e. omega arith) (λ e. omega arith) i;
          level = set_here i;
          slots = tabulate_cong _ _ slots slot_same i;
        })
        ∙ ap (λ (r : Record). record { kind = r.kind; inversion = r.inversion; level = level k; slots = r.slots })
        (sym (record_inside bytes k (omega arith)))

-- the same levels, the same bytes
pub levels_cong : (f g : ℕ → ℕ) (bytes : List ℕ) (n : ℕ) → ((k : ℕ) → k < n → f k ≡ g k) → with_levels f bytes n ≡ with_levels g bytes n
unfolding with_levels
levels_cong f g bytes zero h = refl
levels_cong f g bytes (suc n) h =
    ap₂ (λ (l : List ℕ) (v : ℕ). with_level l n v) (levels_cong f g bytes n (λ k l. h k (omega arith))) (h n (omega arith))
