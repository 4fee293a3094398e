-- Laws of an area: bytes put into it, side by side and one within another, and loops that write it from the front on.
use Prim.Native.Nat.{ℕ, suc, ◌+◌, ◌-◌, ◌<◌, ◌≤◌}
use mathlib.Core.Path.{◌≡◌, refl, sym, ◌∙◌, ap, ap₂}
use mathlib.Core.List.{List, [], ◌∷◌, ◌++◌, append_assoc, append-nil}
use native.Mathlib.Omega.{arith}
use native.Mathlib.Nat.{add-sub_of_le, add-sub_cancel_left, add-zero, zero-add}
use lib.ListN.{length, get_or, take, drop, set, length-append, length-take, length-drop, take-append-drop, drop_of_length-le}
use lib.Seq.{sets, sets-eq, drop-cons, set_at, append_snoc, take_at, drop_at, drop-drop, drop-append-add, length-take-le, take-append-le, take-take}
use Rattle.facts.specs.Areas.{put, onto}

pub put_none : (xs : List ℕ) (a : ℕ) → put xs a [] ≡ xs
put_none xs a = ap (λ (k : ℕ). take a xs ++ drop k xs) (add-zero a) ∙ take-append-drop a xs

module _ (xs : List ℕ) (a : ℕ) (bs : List ℕ) where
  pub length_put : a + length bs ≤ length xs → length (put xs a bs) ≡ length xs
  length_put l = simp (length-append, length-take, length-drop) (omega arith)

  -- further bytes right behind
  pub put_behind : (cs : List ℕ) → a + length bs ≤ length xs → put (put xs a bs) (a + length bs) cs ≡ put xs a (bs ++ cs)
  put_behind cs l =
      ap (λ (l : List ℕ). put l (a + length bs) cs) (sym (append_assoc (take a xs) bs R))
      ∙ ap₂ (λ (u v : List ℕ). u ++ (cs ++ v)) (take_at P R (a + length bs) long)
      (ap (λ (k : ℕ). drop (k + length cs) (P ++ R)) (sym long)
      ∙ drop-append-add P R (length cs)
      ∙ drop-drop (length cs) (a + length bs) xs
      ∙ ap (λ (k : ℕ). drop k xs) both)
      ∙ append_assoc (take a xs) bs (cs ++ drop (a + length (bs ++ cs)) xs)
      ∙ ap (λ (l : List ℕ). take a xs ++ l) (sym (append_assoc bs cs (drop (a + length (bs ++ cs)) xs)))
    where
      P : List ℕ
      P = take a xs ++ bs

      R : List ℕ
      R = drop (a + length bs) xs

      long : length P ≡ a + length bs
      long = omega (arith, length-append (take a xs) bs, length-take-le a xs (omega arith))

      both : a + length bs + length cs ≡ a + length (bs ++ cs)
      both = omega (arith, length-append bs cs)

  -- further bytes right before
  pub put_before : (b : ℕ) (cs : List ℕ) → a + length bs ≡ b → b ≤ length xs → put (put xs b cs) a bs ≡ put xs a (bs ++ cs)
  put_before b cs e l =
      ap₂ (λ (u v : List ℕ). u ++ (bs ++ v))
      (take-append-le a (take b xs) (cs ++ drop (b + length cs) xs) (omega (arith, length-take-le b xs l)) ∙ take-take a b xs (omega arith))
      (ap (λ (k : ℕ). drop k (put xs b cs)) e ∙ drop_at (take b xs) (cs ++ drop (b + length cs) xs) b (length-take-le b xs l))
      ∙ ap (λ (l : List ℕ). take a xs ++ l)
      (sym (append_assoc bs cs (drop (b + length cs) xs)) ∙ ap (λ (k : ℕ). (bs ++ cs) ++ drop k xs) both)
    where
      both : b + length cs ≡ a + length (bs ++ cs)
      both = omega (arith, length-append bs cs)

-- bytes that were stored one by one
pub sets_put : (bs xs : List ℕ) (at : ℕ) → at + length bs ≤ length xs → sets xs at bs ≡ put xs at bs
sets_put bs xs at l = sets-eq bs xs at l ∙ append_assoc (take at xs) bs (drop (at + length bs) xs)

-- bytes put from the start on
pub put_start : (xs bytes : List ℕ) → put xs 0 bytes ≡ onto bytes xs
put_start xs bytes = ap (λ (k : ℕ). bytes ++ drop k xs) (zero-add (length bytes))

-- a part that was stored whole
pub stored_whole : (part bytes : List ℕ) (w : ℕ) → length part ≡ w → length bytes ≡ w → sets part 0 bytes ≡ bytes
stored_whole part bytes w p b =
    sets-eq bytes part 0 (omega arith)
    ∙ ap (λ (l : List ℕ). bytes ++ l) (drop_of_length-le part {i = 0 + length bytes} (omega arith))
    ∙ append-nil bytes

-- a part that was written comes back into the area
pub part_kept : (area part bytes : List ℕ) (at w : ℕ) → part ≡ bytes →
    take at area ++ (part ++ drop (at + w - at) (drop at area)) ≡ take at area ++ (bytes ++ drop (at + w) area)
part_kept area part bytes at w e =
    ap₂ (λ (p d : List ℕ). take at area ++ (p ++ d)) e
    (ap (λ (n : ℕ). drop n (drop at area)) (add-sub_cancel_left at w) ∙ drop-drop w at area)

pub part_back : (area part bytes : List ℕ) (at w : ℕ) → part ≡ bytes → length bytes ≡ w →
    take at area ++ (part ++ drop (at + w - at) (drop at area)) ≡ put area at bytes
part_back area part bytes at w e b =
    part_kept area part bytes at w e ∙ ap (λ (k : ℕ). take at area ++ (bytes ++ drop (at + k) area)) (sym b)

-- the first bytes are new, the rest is as it was
pub record Written (new : List ℕ) (k : ℕ) (area old : List ℕ) : Type 0 where
  pub long : length new ≡ k
  pub parts : area ≡ new ++ drop k old

pub length_written : (new : List ℕ) (k : ℕ) (area old : List ℕ) → Written new k area old → k ≤ length old → length area ≡ length old
length_written new k area old w h = ap length w.parts ∙ length-append new (drop k old) ∙ simp length-drop (omega (arith, w.long))

-- one byte more
pub written_more : (new : List ℕ) (k b : ℕ) (area old : List ℕ) → Written new k area old → k < length old →
    Written (new ++ (b ∷ [])) (suc k) (set area k b) old
written_more new k b area old w h =
    record {
      long = length-append new (b ∷ []) ∙ omega (arith, w.long);
      parts =
          ap (λ (l : List ℕ). set l k b) (w.parts ∙ ap (λ (l : List ℕ). new ++ l) (drop-cons old k 0 h))
          ∙ set_at new (get_or old k 0) (drop (suc k) old) b k w.long
          ∙ sym (append_snoc new b (drop (suc k) old));
    }

-- what is read: the new bytes, or the rest past them
pub take_written : (new : List ℕ) (k : ℕ) (area old : List ℕ) → Written new k area old → take k area ≡ new
take_written new k area old w = ap (take k) w.parts ∙ take_at new (drop k old) k w.long

pub drop_written : (new : List ℕ) (k m : ℕ) (area old : List ℕ) → Written new k area old → k ≤ m → drop m area ≡ drop m old
drop_written new k m area old w h =
    ap₂ drop (sym e) w.parts
    ∙ drop-append-add new (drop k old) (m - k)
    ∙ drop-drop (m - k) k old
    ∙ ap (λ (n : ℕ). drop n old) (add-sub_of_le h)
  where
    e : length new + (m - k) ≡ m
    e = omega (arith, w.long)

-- nothing is written yet, and the whole
pub written_none : (old : List ℕ) → Written [] 0 old old
written_none old = record { long = refl; parts = refl }

pub written_all : (new : List ℕ) (k : ℕ) (area old : List ℕ) → Written new k area old → length old ≤ k → area ≡ new
written_all new k area old w h =
    w.parts ∙ ap (λ (l : List ℕ). new ++ l) (drop_of_length-le old h) ∙ append-nil new

-- the first n bytes are as they were, and nothing is written after them yet
pub written_part : (n : ℕ) (old : List ℕ) → n ≤ length old → Written (take n old ++ []) (n + 0) old old
written_part n old h =
    record {
      long = ap length (append-nil (take n old)) ∙ length-take-le n old h ∙ sym (add-zero n);
      parts =
          sym (take-append-drop n old)
          ∙ ap₂ (λ (l : List ℕ) (k : ℕ). l ++ drop k old) (sym (append-nil (take n old))) (sym (add-zero n));
    }
