-- Laws of the records that are written: buffers on what they hang on, and the source's with other slots.
use Prim.Native.Nat.{ℕ, zero, suc, ◌+◌, ◌-◌, ◌*◌, ◌≤◌, ◌<◌, ◌/◌}
use mathlib.Core.Path.{◌≡◌, refl, sym, ◌∙◌, ap, ap₂}
use mathlib.Core.List.{List, [], ◌∷◌}
use native.Mathlib.Omega.{arith}
use native.Mathlib.Nat.{add-zero, zero-add, div-le_self}
use native.Mathlib.Numerals.{add-one}
use mir.Val.{Fits}
use mir.Syntax.{w16}
use lib.ListN.{length, get_or}
use Rattle.facts.specs.Areas.{put}
use Rattle.netlist.specs.declared.Record.{Record}
use Rattle.netlist.specs.Kinds.{width, slots}
use Rattle.netlist.specs.Records.{record_at}
use Rattle.netlist.specs.Bytes.{encode}
use Rattle.netlist.proofs.Bytes.{RecordsSoFar, written_more}
use Rattle.mapper.specs.Mapped.{buffer_of}
use Rattle.mapper.specs.PrivateWriting.{behind, level_record, line_parent, line_record, relinked, relinked_at}

-- what node q of distance k hangs on, by distance
pub behind_near : (s k q base : ℕ) → k < 2 → base ≡ base + behind s k q
unfolding behind
behind_near s zero q base l = sym (add-zero base)
behind_near s (suc zero) q base l = sym (add-zero base)
behind_near s (suc (suc k)) q base l = absurd (omega arith)

pub behind_far : (s k q base t : ℕ) → 2 ≤ k → t ≡ q / s → base + t ≡ base + behind s k q
unfolding behind
behind_far s zero q base t l e = absurd (omega arith)
behind_far s (suc zero) q base t l e = absurd (omega arith)
behind_far s (suc (suc k)) q base t l e = ap (λ (x : ℕ). base + x) e

pub behind_fits : (s k q base t : ℕ) → 2 ≤ k → t ≡ q / s → base + behind s k q < 65536 → Fits w16 (base + t)
behind_fits s k q base t l e b = omega (arith, behind_far s k q base t l e)

pub back_fits : (s k q base t : ℕ) → 2 ≤ k → t ≡ q / s → base + behind s k q < 65536 → Fits w16 t
back_fits s k q base t l e b = omega (arith, behind_far s k q base t l e)

-- buffer j of distance k: what it hangs on, and its record
pub level_parent : (base s k n j : ℕ) → j < n → base + n < 65536 → base + behind s k j < 65536
unfolding behind
level_parent base s zero n j l b = omega arith
level_parent base s (suc zero) n j l b = omega arith
level_parent base s (suc (suc k)) n j l b = omega (arith, div-le_self j s)

module _ (area₀ : List ℕ) (s k at level base n : ℕ) (area : List ℕ) (j : ℕ) (h : RecordsSoFar area₀ at (level_record s k level base) n area j) where
  pub level_more : (fanin : ℕ) (r : Record) (after : List ℕ) → width * (at + n) ≤ length area₀ → j < n → fanin ≡ base + behind s k j →
      r ≡ buffer_of level fanin → after ≡ put area (width * (at + j)) (encode r) →
      RecordsSoFar area₀ at (level_record s k level base) n after (j + 1)
  unfolding level_record
  level_more fanin r after room l e f g =
      written_more area₀ at (level_record s k level base) n area j h r after room l (f ∙ ap (buffer_of level) e) g

-- what a node at distance k of a line hangs on, by distance
pub line_near : (d start k : ℕ) → k < 2 → d ≡ line_parent d start k
unfolding line_parent
line_near d start zero l = refl
line_near d start (suc zero) l = refl
line_near d start (suc (suc k)) l = absurd (omega arith)

pub line_far : (d start k : ℕ) → 2 ≤ k → start + (k - 2) ≡ line_parent d start k
unfolding line_parent
line_far d start zero l = absurd (omega arith)
line_far d start (suc zero) l = absurd (omega arith)
line_far d start (suc (suc k)) l = omega arith

-- buffer j of a line
pub line_more : (area₀ : List ℕ) (d start low n : ℕ) (area : List ℕ) (j : ℕ) → RecordsSoFar area₀ start (line_record d start low) n area j →
    (fanin : ℕ) (r : Record) (after : List ℕ) → width * (start + n) ≤ length area₀ → j < n → fanin ≡ line_parent d start (j + 1) →
    r ≡ buffer_of (low + (j + 1)) fanin → after ≡ put area (width * (start + j)) (encode r) →
    RecordsSoFar area₀ start (line_record d start low) n after (j + 1)
unfolding line_record
line_more area₀ d start low n area j h fanin r after room l e f g =
    written_more area₀ start (line_record d start low) n area j h r after room l
    (f ∙ ap₂ buffer_of (ap (λ (k : ℕ). low + k) (add-one j)) (e ∙ ap (line_parent d start) (add-one j))) g

-- the slots of a record, read from the array of parents one by one
pub relinked_is : (r : Record) (parents : List ℕ) (i : ℕ) (area after : List ℕ) (a b c : ℕ) → a ≡ get_or parents (slots * i) 0 →
    b ≡ get_or parents (slots * i + 1) 0 → c ≡ get_or parents (slots * i + 2) 0 →
    after ≡ put area (width * i) (encode (record { kind = r.kind; inversion = r.inversion; level = r.level; slots = a ∷ b ∷ c ∷ [] })) →
    after ≡ put area (width * i) (encode (relinked r parents i))
relinked_is r parents i area after a b c e f g h = h ∙ rw (e, f, g, add-zero (slots * i)) refl

-- record i of the source: read, then written with its slots anew
module _ (bytes parents area₀ : List ℕ) (n : ℕ) (area : List ℕ) (i : ℕ) (h : RecordsSoFar area₀ 0 (relinked_at bytes parents) n area i) where
  pub source_more : (r : Record) (after : List ℕ) → width * n ≤ length area₀ → i < n → r ≡ record_at bytes i →
      after ≡ put area (width * i) (encode (relinked r parents i)) → RecordsSoFar area₀ 0 (relinked_at bytes parents) n after (i + 1)
  unfolding relinked_at
  source_more r after room l e g =
      written_more area₀ 0 (relinked_at bytes parents) n area i h (relinked r parents i) after (omega arith) l
      (ap (λ (r : Record). relinked r parents i) e)
      (g ∙ ap (λ (k : ℕ). put area (width * k) (encode (relinked r parents i))) (sym (zero-add i)))
