-- Laws of checks 2 to 7, with premises as the code has them: what each test gives of the check's answer.
use Prim.Native.Nat.{ℕ, zero, suc, ◌+◌, ◌*◌, ◌%◌, ◌^◌, ◌<◌, ◌≤◌}
use native.Mathlib.Decide.{dec_lt}
use native.Mathlib.Nat.{one-mul, mod-eq_of_lt}
use native.Mathlib.Numerals.{add-one}
use native.Mathlib.Omega.{arith}
use mathlib.Core.Path.{◌≡◌, refl, sym, ap, ◌∙◌}
use mathlib.Core.Logic.{◌≢◌}
use mathlib.Core.Bool.{Bool, true, false, cond, not, ◌&&◌, ◌||◌}
use mathlib.Core.List.{List, []}
use Rattle.std.specs.Prelude.{Option, Some, None, MatchOption, unwrap_or}
use lib.ListN.{length, get_or-eq_default}
use lib.Pow.{pow-lt}
use mir.Syntax.{w8}
use mir.Val.{Fits}
use lib.Dec.{ltb, leb, eqb}
use borrow.Author.Tests.{lt-ltb, le-ltb, le-leb, lt-leb, leb-true, eq-eqb, ne_eqb, ltb-false, eqb-true}
use Rattle.facts.specs.Answers.{Checked, Passed, Refused}
use Rattle.facts.specs.Checks.{check, ◌and_then◌, scan}
use Rattle.facts.specs.Sums.{any, seek}
use Rattle.facts.proofs.Bools.{and_r, or_false, or_r}
use Rattle.facts.proofs.Sums.{any_none}
use Rattle.facts.proofs.Reflect.{check_passed, then_passed, or_none, most_none, side_is}
use Rattle.facts.proofs.Loops.{Seeking, seek_start, seek_more, seek_here, seek_end}
use Rattle.netlist.specs.declared.Record.{Record}
use Rattle.netlist.specs.Kinds.{width, slots, unused, top_level, source_limit, input, and, majority, output, buffer, arities, arity, is_gate, invertible}
use Rattle.netlist.specs.Records.{Netlist, netlist, record_count, record_bytes, record_at, slot, is_output, depth}
use Rattle.netlist.specs.Checks.{ragged, too_many, bad_level, size_checks, bad_kind, bad_inversion, bad_slot, bad_slots, not_below, misplaced, structure_of, level_of, record_checks, source_checks}
use Rattle.netlist.specs.View.{view_of}
use Rattle.netlist.proofs.Records.{record_past}

wide : ℕ → Bool
wide kind = ltb slots (arity kind)

-- no kind uses more slots than a record has: one computed test over the table
pub arity_slots : (kind : ℕ) → arity kind ≤ slots
unfolding any wide
arity_slots kind =
    elim (dec_lt kind 6) [
      | yes l ↦ ltb-false slots (arity kind) ((any_none wide 6).0 refl kind l)
      | no g ↦ omega (arith, get_or-eq_default arities 0 (let h : 6 ≤ kind = omega arith in h))
    ]

-- nor does any invert more
pub invertible_slots : (kind : ℕ) → invertible kind ≤ slots
invertible_slots kind = go (is_gate kind)
  where
    go : (b : Bool) → cond b (arity kind) 0 ≤ slots
    go true = arity_slots kind
    go false = omega arith

-- a kind that is no gate uses at most one slot, a gate at least two, and a kind that is no input at least one
several : ℕ → Bool
several kind = not (is_gate kind) && ltb 1 (arity kind)

single : ℕ → Bool
single kind = is_gate kind && ltb (arity kind) 2

none : ℕ → Bool
none kind = not (eqb kind input) && ltb (arity kind) 1

pub other_arity : (kind : ℕ) (g : Bool) → g ≡ is_gate kind → not g ≡ true → arity kind ≤ 1
unfolding any several
other_arity kind g is f =
    elim (dec_lt kind 6) [
      | yes l ↦ let h = (any_none several 6).0 refl kind l in ltb-false 1 (arity kind) (rw (← is, f) at h)
      | no h ↦ omega (arith, get_or-eq_default arities 0 (let h : 6 ≤ kind = omega arith in h))
    ]

pub gate_arity : (kind : ℕ) (g : Bool) → g ≡ is_gate kind → g ≡ true → 1 < arity kind
unfolding any single
gate_arity kind g is f =
    let top : kind ≤ majority = leb-true kind majority (and_r (leb and kind) (leb kind majority) (sym is ∙ f)) in
    let h = (any_none single 6).0 refl kind (omega arith) in
    omega (arith, ltb-false (arity kind) 2 (rw (← is, f) at h))

pub fanin_arity : (kind : ℕ) → (kind ≡ input → ⊥) → kind ≤ buffer → 0 < arity kind
unfolding any none
fanin_arity kind o l =
    let h = (any_none none 6).0 refl kind (omega arith) in
    omega (arith, ltb-false (arity kind) 1 (rw (ne_eqb kind input o) at h))

-- not 0, 1 or 2 slots: all
pub all_used : (kind used : ℕ) → used ≡ arity kind → used ≢ 0 → used ≢ 1 → used ≢ 2 → used ≡ slots
all_used kind used e o p q = omega (arith, arity_slots kind)

-- how many values an inversion byte may have: a gate one bit for each slot, the others none
module _ (kind : ℕ) (g : Bool) (is : g ≡ is_gate kind) where
  pub limit_gate : (a : ℕ) → g ≡ true → a ≡ arity kind → 1 * 2 ^ a % 256 ≡ 2 ^ invertible kind
  limit_gate a t e =
      let small : 2 ^ a < 2 ^ 8 = pow-lt {i = a} {j = 8} (omega (arith, arity_slots kind)) in
      rw (← is, t, ← e, one-mul (2 ^ a)) (mod-eq_of_lt small)

  pub limit_other : g ≡ false → 1 ≡ 2 ^ invertible kind
  limit_other t = rw (← is, t)

pub arity_fits : (kind a : ℕ) → a ≡ arity kind → Fits w8 a
arity_fits kind a e = omega (arith, arity_slots kind)

pub arity_below : (kind a : ℕ) → a ≡ arity kind → a < 8
arity_below kind a e = omega (arith, arity_slots kind)

module _ (m : Netlist) (k : ℕ) (r : Record) (j : ℕ) (t a : ℕ) (p : t ≡ slot r j) (q : a ≡ arity r.kind) where
  pub slot_later : j < a → k ≤ t → true ≡ bad_slot m k r j
  slot_later h g = rw (lt-ltb j (arity r.kind) (rw q at h), le-leb k (slot r j) (rw p at g))

  pub slot_kind : (x : Record) → j < a → t < k → x ≡ m.at t → eqb x.kind output ≡ bad_slot m k r j
  slot_kind x h g e = rw (lt-ltb j (arity r.kind) (rw q at h), lt-leb k (slot r j) (rw p at g), e, p)

  pub slot_unused : a ≤ j → not (eqb t unused) ≡ bad_slot m k r j
  slot_unused h = rw (le-ltb j (arity r.kind) (rw q at h), p)

  pub fanin_level : (x : Record) → j < a → x ≡ m.at t → leb r.level x.level ≡ not_below m r j
  fanin_level x h e = rw (lt-ltb j (arity r.kind) (rw q at h), e, p)

  -- where no slot is bad, a used one names an earlier record
  pub fanin_inside : (n : ℕ) → k < n → j < a → bad_slots m k r ≡ false → t < n
  fanin_inside n l h e =
      let u : j < arity r.kind = rw q at h in
      let bad = (any_none (bad_slot m k r) slots).0 e j (omega (arith, arity_slots r.kind)) in
      let late = ((or_none _ _).0 (((side_is j (arity r.kind) _ _ false).0 bad).0 u)).0 in
      omega (arith, (most_none k (slot r j)).0 late)

pub fanin_unused : (m : Netlist) (r : Record) (j a : ℕ) → a ≡ arity r.kind → a ≤ j → false ≡ not_below m r j
fanin_unused m r j a q h = rw (le-ltb j (arity r.kind) (rw q at h))

pub level_input : (deep : ℕ) (r : Record) → r.level ≤ top_level → r.kind ≡ input → not (eqb r.level 0) ≡ misplaced deep r
level_input deep r h e = rw (le-ltb top_level r.level h, e) (sym (or_false (not (eqb r.level 0))))

-- D, as the loop finds it: n is the count, the first n records are searched
module _ (bytes : List ℕ) (n : ℕ) (c : n ≡ record_count bytes) where
  abbrev outputs : ℕ → Bool
  outputs = is_output (netlist bytes)

  depth_is : (k : ℕ) → seek outputs 0 n ≡ k → depth (netlist bytes) ≡ (record_at bytes k).level
  unfolding depth
  depth_is k e = ap (λ (j : ℕ). (record_at bytes j).level) (ap (seek outputs 0) (sym c) ∙ e)

  module _ (k : ℕ) (i : Seeking (is_output (netlist bytes)) n k) (h : k < n) (r : Record) (e : r ≡ record_at bytes k) where
    pub depth_here : r.kind ≡ output → r.level ≡ depth (netlist bytes)
    depth_here o = ap (λ (x : Record). x.level) e ∙ sym (depth_is k (seek_here outputs n k i h (rw (← e) (eq-eqb r.kind output o))))

    pub depth_more : (r.kind ≡ output → ⊥) → Seeking (is_output (netlist bytes)) n (k + 1)
    depth_more o = seek_more outputs n k i h (rw (← e) (ne_eqb r.kind output o))

  pub depth_none : (k : ℕ) → Seeking (is_output (netlist bytes)) n k → n ≤ k → 0 ≡ depth (netlist bytes)
  depth_none k i h =
      sym (depth_is n (seek_end outputs n k i h) ∙ ap (λ (r : Record). r.level) (record_past bytes n (omega (arith, c))))

-- D if an output is among the first k records
abbrev pub met_depth : List ℕ → ℕ → Option ℕ
met_depth bytes k = cond (any (is_output (netlist bytes)) k) (Some (depth (netlist bytes))) None

module _ (bytes : List ℕ) where
  abbrev met : ℕ → Bool
  met = any (is_output (netlist bytes))

  unseen : (i : ℕ) → i ≤ record_count bytes → met i ≡ false → Seeking (is_output (netlist bytes)) (record_count bytes) i
  unfolding any
  unseen zero l e = seek_start (is_output (netlist bytes)) (record_count bytes)
  unseen (suc i) l e =
      let h = (or_none (met i) (is_output (netlist bytes) i)).0 e in
      rw (← add-one i) (seek_more (is_output (netlist bytes)) (record_count bytes) i (unseen i (omega arith) h.0) (omega arith) h.1)

  pub met_start : None ≡ met_depth bytes 0
  unfolding any
  met_start = refl

  module _ (k : ℕ) (r : Record) (e : r ≡ record_at bytes k) where
    module _ (deep x : Option ℕ) (n : ℕ) (i : deep ≡ met_depth bytes k) (l : k < n) (c : n ≡ record_count bytes)
        (g : MatchOption deep (x ≡ cond (eqb r.kind output) (Some r.level) None) (λ level. x ≡ Some level)) where
      -- record k is met next
      pub met_more : x ≡ met_depth bytes (k + 1)
      unfolding any
      met_more = rw (add-one k) (go (met k) (is_output (netlist bytes) k) refl refl (rw (i, e) at g))
        where
          go : (s o : Bool) → met k ≡ s → is_output (netlist bytes) k ≡ o →
              MatchOption (cond s (Some (depth (netlist bytes))) None) (x ≡ cond o (Some (record_at bytes k).level) None) (λ level. x ≡ Some level) →
              x ≡ cond (s || o) (Some (depth (netlist bytes))) None
          go true o p q h = h
          go false true p q h =
              h ∙ ap Some (depth_here bytes (record_count bytes) refl k (unseen k (omega arith) p) (omega arith) (record_at bytes k) refl (eqb-true (record_at bytes k).kind output q))
          go false false p q h = h

      -- the level met so far serves record k as D: it is D where the record is an output, and no other record is held to it
      pub met_serves : misplaced (unwrap_or x 0) r ≡ misplaced (depth (netlist bytes)) r
      unfolding any
      met_serves = rw e (go (is_output (netlist bytes) k) refl)
        where
          go : (b : Bool) → is_output (netlist bytes) k ≡ b → misplaced (unwrap_or x 0) (record_at bytes k) ≡ misplaced (depth (netlist bytes)) (record_at bytes k)
          go true o =
              let d : x ≡ Some (depth (netlist bytes)) = met_more ∙ rw (add-one k, o, or_r (met k) true refl) in
              ap (λ (y : Option ℕ). misplaced (unwrap_or y 0) (record_at bytes k)) d
          go false o = rw o

    pub record_checked : (a : Checked) → a ≡ (structure_of (netlist bytes) k r and_then level_of (netlist bytes) k r) → a ≡ record_checks (netlist bytes) k
    record_checked a f = f ∙ ap (λ (x : Record). structure_of (netlist bytes) k x and_then level_of (netlist bytes) k x) e

module _ (m : Netlist) (k : ℕ) (r : Record) where
  module _ (l : r.kind ≤ output) (x : ℕ) (e : x ≡ 2 ^ invertible r.kind) where
    pub inversion_bad : x ≤ r.inversion → Refused 5 k ≡ structure_of m k r
    inversion_bad h = rw (le-ltb output r.kind l, ← e, le-leb x r.inversion h)

    module _ (h : r.inversion < x) (b : Bool) (g : b ≡ bad_slots m k r) where
      pub slots_bad : b ≡ true → Refused 6 k ≡ structure_of m k r
      slots_bad t = rw (← g, t, le-ltb output r.kind l, ← e, lt-leb x r.inversion h)

      pub structure_good : b ≡ false → Passed ≡ structure_of m k r
      structure_good t = rw (← g, t, le-ltb output r.kind l, ← e, lt-leb x r.inversion h)

  module _ (deep : ℕ) (d : misplaced deep r ≡ misplaced (depth m) r) (b : Bool) (e : b ≡ misplaced deep r) where
    pub misplaced_bad : b ≡ true → true ≡ bad_level m r
    misplaced_bad t = rw (← d, ← e, t)

    pub fanins_bad : (f : Bool) → b ≡ false → f ≡ any (not_below m r) slots → f ≡ bad_level m r
    fanins_bad f t g = g ∙ rw (← d, ← e, t)

  -- where checks 4 to 6 pass, no slot is bad
  pub slots_good : (a : Checked) → a ≡ structure_of m k r → a ≡ Passed → bad_slots m k r ≡ false
  slots_good a e p =
      let h = ((then_passed (check 4 k (bad_kind r)) _).0 (sym e ∙ p)).1 in
      (check_passed 6 k (bad_slots m k r)).0 ((then_passed (check 5 k (bad_inversion r)) _).0 h).1

module _ (bytes : List ℕ) where
  module _ (whole : length bytes % width ≡ 0) (n : ℕ) (e : n ≡ record_count bytes) where
    pub length_large : source_limit < n → Refused 3 0 ≡ size_checks bytes
    length_large h = rw (whole, lt-ltb source_limit (record_count bytes) (rw e at h))

    pub length_good : n ≤ source_limit → Passed ≡ size_checks bytes
    length_good h = rw (whole, le-ltb source_limit (record_count bytes) (rw e at h))

  module _ (a : Checked) (e : a ≡ size_checks bytes) where
    pub size_fits : (n : ℕ) → a ≡ Passed → n ≡ record_count bytes → n < 2 ^ 32
    size_fits n p f =
        let few = (check_passed 3 0 (too_many bytes)).0 ((then_passed (check 2 0 (ragged bytes)) _).0 (sym e ∙ p)).1 in
        omega (arith, ltb-false source_limit (record_count bytes) few)

    pub records_checked : (b : Checked) (n : ℕ) → a ≡ Passed → n ≡ record_count bytes → b ≡ scan (record_checks (netlist bytes)) 0 n → b ≡ source_checks bytes
    unfolding source_checks
    records_checked b n p f g = g ∙ rw (← e, p, f)

module _ (source mapped : List ℕ) (k m : ℕ) (e : m ≡ record_count mapped) where
  pub view_past : m ≤ k → [] ≡ view_of source mapped k
  view_past h = rw (le-ltb k (record_count mapped) (rw e at h))

  module _ (below : k < m) (n : ℕ) (f : n ≡ record_count source) (part : List ℕ) where
    pub view_source : k < n → part ≡ record_bytes source k → part ≡ view_of source mapped k
    view_source h p = p ∙ rw (lt-ltb k (record_count mapped) (rw e at below), lt-ltb k (record_count source) (rw f at h))

    pub view_mapped : n ≤ k → part ≡ record_bytes mapped k → part ≡ view_of source mapped k
    view_mapped h p = p ∙ rw (lt-ltb k (record_count mapped) (rw e at below), le-ltb k (record_count source) (rw f at h))
