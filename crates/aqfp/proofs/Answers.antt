-- Laws of stored answers: the numbers of an answer, stored one after another, are its whole area; and the cases of an answer.
use Prim.Native.Nat.{ℕ, zero, suc, ◌≤◌}
use native.Mathlib.Omega.{arith}
use mathlib.Core.Path.{◌≡◌, refl, sym, ap, ◌∙◌}
use mathlib.Core.List.{List, [], ◌∷◌, ◌++◌, append_assoc, append-nil}
use lib.ListN.{length, get_or, take}
use lib.Seq.{take_all, take-suc}
use Rattle.std.specs.Prelude.{Result, Ok, Err}
use Rattle.facts.specs.declared.refusal.Refusal.{Refusal}
use Rattle.facts.specs.Answers.{Checked, told}
use Rattle.facts.specs.Checks.{checked_numbers}
use Rattle.facts.specs.Bytes.{four}
use Rattle.facts.specs.Lists.{joined}
use Rattle.facts.proofs.Stored.{fours}
use Rattle.fanout.specs.declared.Count.{Count}
use Rattle.fanout.specs.declared.Count.TheVariants as count
use Rattle.fanout.specs.Answer.{no_tree, count_numbers}
use Rattle.verifier.specs.Checks.{Verified}
use Rattle.verifier.specs.Checks as verified
use Rattle.verifier.specs.Checks.{verified_numbers}
use Rattle.strip.specs.Answer.{Stripped}
use Rattle.strip.specs.Answer as stripped
use Rattle.strip.specs.Answer.{stripped_numbers}
use Rattle.aqfp.specs.Answers.{numbers, first, counted, refused, Answered}

-- one number more
numbers_more : (ns : List ℕ) (n : ℕ) → numbers (ns ++ (n ∷ [])) ≡ numbers ns ++ four n
unfolding numbers
numbers_more [] n = append-nil (four n)
numbers_more (m ∷ ns) n =
    ap (λ (l : List ℕ). four m ++ l) (numbers_more ns n) ∙ sym (append_assoc (four m) (numbers ns) (four n))

-- the numbers of a list, one after another
numbers_are : (ns : List ℕ) (k : ℕ) → k ≤ length ns → fours (λ i. get_or ns i 0) k ≡ numbers (take k ns)
unfolding numbers joined
numbers_are ns zero l = refl
numbers_are ns (suc k) l =
    ap (λ (b : List ℕ). b ++ four (get_or ns k 0)) (numbers_are ns k (omega arith))
    ∙ sym (ap numbers (take-suc ns k 0 l) ∙ numbers_more (take k ns) (get_or ns k 0))

-- all numbers of an answer are stored
pub storing_end : (ns area : List ℕ) (x : ℕ) → area ≡ fours (λ i. get_or ns i 0) (length ns) → x ≡ get_or ns 0 0 → Answered x area ns
storing_end ns area x h e =
    record {
      number = e ∙ head ns;
      written = h ∙ numbers_are ns (length ns) (omega arith) ∙ ap numbers (take_all (length ns) ns (omega arith));
    }
  where
    head : (l : List ℕ) → get_or l 0 0 ≡ first l
    head [] = refl
    head (n ∷ l) = refl

-- the cases of an answer
module _ {r : ℕ} {l : List ℕ} where
  pub checked_as : {a b : Checked} → a ≡ b → Answered r l (checked_numbers a) → Answered r l (checked_numbers b)
  checked_as e g = rw e at g

  pub counted_fewest :
      {v w : Count} {buffers : ℕ} → v ≡ w → v ≡ count.Fewest buffers → Answered r l (0 ∷ 0 ∷ buffers ∷ []) → Answered r l (count_numbers w)
  unfolding count_numbers
  counted_fewest e f g = rw (← e, f) g

  pub counted_none : {v w : Count} → v ≡ w → v ≡ count.NoTree → Answered r l (0 ∷ 0 ∷ no_tree ∷ []) → Answered r l (count_numbers w)
  unfolding count_numbers
  counted_none e f g = rw (← e, f) g

  pub counted_refused :
      {v w : Count} {number place : ℕ} → v ≡ w → v ≡ count.Refused number place → Answered r l (number ∷ place ∷ 0 ∷ []) → Answered r l (count_numbers w)
  unfolding count_numbers
  counted_refused e f g = rw (← e, f) g

  -- a number counted, or a refusal
  pub verified_as : (a : Result ℕ Refusal) (v : Verified) → told a verified.Buffers verified.Refused ≡ v → Answered r l (told a counted refused) →
      Answered r l (verified_numbers v)
  unfolding verified_numbers
  verified_as (Ok n) v e g = rw (← e) g
  verified_as (Err x) v e g = rw (← e) g

  pub stripped_as : (a : Result ℕ Refusal) (v : Stripped) → told a stripped.Records stripped.Refused ≡ v → Answered r l (told a counted refused) →
      Answered r l (stripped_numbers v)
  unfolding stripped_numbers
  stripped_as (Ok n) v e g = rw (← e) g
  stripped_as (Err x) v e g = rw (← e) g
