-- Laws of the chains of sinks: the first sink from a slot on, and the arrays that link each sink to the next.
use Prim.Native.Nat.{ℕ, zero, suc, ◌+◌, ◌-◌, ◌*◌, ◌≤◌, ◌<◌, ◌/◌, ◌%◌}
use mathlib.Core.Path.{◌≡◌, refl, sym, ◌∙◌, ap, ap₂, subst}
use mathlib.Core.Bool.{Bool, true, false, cond, not}
use mathlib.Core.List.{List}
use native.Mathlib.Omega.{arith}
use native.Mathlib.Nat.{add-zero, le_trans}
use native.Mathlib.Numerals.{add-one}
use native.Mathlib.Decide.{ℕ_discrete}
use mir.Val.{Fits}
use mir.Syntax.{w16}
use lib.ListN.{length, get_or, set, replicate, length-set, length-replicate, get_or-replicate}
use lib.Seq.{get_or-set_same, get_or-set_other, set-get_or}
use lib.Dec.{eqb}
use borrow.Author.Tests.{lt-ltb, le-ltb, ltb-true, ltb-false, eq-eqb, ne_eqb}
use Rattle.facts.specs.Sums.{count, seek}
use Rattle.facts.proofs.Bools.{and_i, true_false}
use Rattle.facts.proofs.Loops.{seek_within, seek_true}
use Rattle.facts.proofs.Sums.{count_false, count_more, rank_lt}
use Rattle.netlist.specs.declared.Record.{Record}
use Rattle.netlist.specs.Kinds.{slots, unused, source_limit, input, arity, is_gate}
use Rattle.netlist.specs.Records.{Netlist, slot, used, fanin}
use Rattle.netlist.specs.Source.{IsSource}
use Rattle.netlist.proofs.Checks.{other_arity}
use Rattle.nets.specs.PrivateChains.{slot_end, used_slot, fanin_slot, names_slot, next_sink, Emptied, AllUnused, Linked, Chained}

-- what holds only where p does is counted nowhere on the way to the first p
seek_count : (p q : ℕ → Bool) (y m : ℕ) → ((z : ℕ) → q z ≡ true → p z ≡ true) → count q (seek p y m) ≡ count q y
unfolding seek
seek_count p q y zero h = refl
seek_count p q y (suc m) h = go (p y) refl (seek_count p q (suc y) m h)
  where
    no_q : (b : Bool) → q y ≡ b → p y ≡ false → q y ≡ false
    no_q true e f = absurd (true_false (p y) (h y e) f)
    no_q false e f = e

    go : (b : Bool) → p y ≡ b → count q (seek p (suc y) m) ≡ count q (suc y) → count q (cond b y (seek p (suc y) m)) ≡ count q y
    go true e r = refl
    go false e r = r ∙ count_false q y (no_q (q y) refl e)

module _ (n : Netlist) (d : ℕ) where
  pub next_end : next_sink n d (slot_end n) ≡ slot_end n
  unfolding next_sink seek
  next_end = let e : slot_end n - slot_end n ≡ 0 = omega arith in ap (seek (names_slot n d) (slot_end n)) e

  next_turn : (y : ℕ) → y < slot_end n → next_sink n d y ≡ cond (names_slot n d y) y (next_sink n d (suc y))
  unfolding next_sink seek
  next_turn y l = let e : slot_end n - y ≡ suc (slot_end n - suc y) = omega arith in rw e refl

  pub next_here : (y : ℕ) → y < slot_end n → names_slot n d y ≡ true → next_sink n d y ≡ y
  next_here y l e = next_turn y l ∙ rw e refl

  pub next_skip : (y : ℕ) → y < slot_end n → names_slot n d y ≡ false → next_sink n d y ≡ next_sink n d (suc y)
  next_skip y l e = next_turn y l ∙ rw e refl

  -- the next sink stands further on, and is one unless it is the end
  pub next_within : (y : ℕ) → y ≤ slot_end n → (y ≤ next_sink n d y) × (next_sink n d y ≤ slot_end n)
  unfolding next_sink
  next_within y l = omega (arith, seek_within (names_slot n d) y (slot_end n - y))

  pub next_names : (y : ℕ) → y ≤ slot_end n → next_sink n d y < slot_end n → names_slot n d (next_sink n d y) ≡ true
  unfolding next_sink
  next_names y l h = seek_true (names_slot n d) y (slot_end n - y) (omega arith)

  -- a count of d's sinks does not change on the way to the next one
  pub next_count : (q : ℕ → Bool) (y : ℕ) → ((z : ℕ) → q z ≡ true → names_slot n d z ≡ true) → count q (next_sink n d y) ≡ count q y
  unfolding next_sink
  next_count q y h = seek_count (names_slot n d) q y (slot_end n - y) h

  -- no sink of d stands between a slot and the next sink
  pub next_none : (y z : ℕ) → y ≤ z → z < next_sink n d y → names_slot n d z ≡ true → ⊥
  next_none y z a b e =
      omega (
        arith,
        next_count (names_slot n d) y (λ x h. h),
        rank_lt (names_slot n d) z (next_sink n d y) b e,
        count_more (names_slot n d) y z a,
      )

-- an array that was made of unused slots
pub all_unused : (k : ℕ) → AllUnused (replicate k unused)
all_unused k = record { at = λ y l. get_or-replicate k y unused 0 (omega (arith, length-replicate k unused)) }

-- the arrays of the largest source hold every source's chains, and two bytes their end
module _ (n : Netlist) (N : ℕ) (e : N ≡ n.size) (s : IsSource n) where
  pub records_few : N ≤ source_limit
  records_few = omega (arith, s.few)

  pub slots_few : slots * N ≤ slots * source_limit
  slots_few = omega (arith, s.few)

  pub end_fits : Fits w16 (slots * N)
  end_fits = omega (arith, s.few)

module _ (n : Netlist) (first next : List ℕ) where
  -- no slot is linked yet: every first sink is the end
  pub link_start : (N : ℕ) → N ≡ n.size → Emptied N (slots * N) first → AllUnused next → slots * N ≤ length next → Linked n first next (slots * N)
  link_start N e h all f =
      rw e (
      record {
        firsts = λ d l. (rw e at h).at d l ∙ sym (next_end n d);
        nexts = λ y a b u. absurd (omega arith);
        rest = λ y b u. all.at y (omega arith);
        first_long = omega (arith, h.long);
        next_long = omega arith;
      }
      )

  -- an unused slot links nothing
  pub link_unused : (x : ℕ) → Linked n first next (x + 1) → x < slot_end n → used_slot n x ≡ false → Linked n first next x
  link_unused x h l u =
      record {
        firsts = λ d ld. rw (next_skip n d x l (rw u refl), ← add-one x) (h.firsts d ld);
        nexts = λ y a b v. h.nexts y (further y a v) b v;
        rest = h.rest;
        first_long = h.first_long;
        next_long = h.next_long;
      }
    where
      further : (y : ℕ) → x ≤ y → used_slot n y ≡ true → x + 1 ≤ y
      further y a v =
          elim (ℕ_discrete y x) [ yes e ↦ absurd (true_false (used_slot n x) (rw e at v) u) | no e ↦ omega arith ]

  -- a used slot comes before what its driver had first
  pub link_used : (x t : ℕ) → Linked n first next (x + 1) → x < slot_end n → t ≡ fanin_slot n x → t < n.size →
      used_slot n x ≡ true → Linked n (set first t x) (set next x (get_or first t 0)) x
  link_used x t h l e ld u =
      record {
        firsts = λ d m. at_driver d m (ℕ_discrete d t);
        nexts = λ y a b v. at_slot y a b v (ℕ_discrete y x);
        rest = λ y b v.
            get_or-set_other next x y (get_or first t 0) 0 (λ f. true_false (used_slot n x) u (rw f at v)) ∙ h.rest y b v;
        first_long = omega (arith, length-set first t x, h.first_long);
        next_long = omega (arith, length-set next x (get_or first t 0), h.next_long);
      }
    where
      at_driver : (d : ℕ) → d < n.size → Dec (d ≡ t) → get_or (set first t x) d 0 ≡ next_sink n d x
      at_driver d m (yes f) =
          rw (f, next_here n t x l (and_i (used_slot n x) _ u (eq-eqb _ t (sym e)))) (get_or-set_same first t x 0 (omega (arith, h.first_long)))
      at_driver d m (no f) =
          rw (get_or-set_other first t d x 0 f, next_skip n d x l (rw u (ne_eqb (fanin_slot n x) d (λ g. f (sym g ∙ sym e)))), ← add-one x) (h.firsts d m)

      at_slot : (y : ℕ) → x ≤ y → y < slot_end n → used_slot n y ≡ true → Dec (y ≡ x) →
          get_or (set next x (get_or first t 0)) y 0 ≡ next_sink n (fanin_slot n y) (suc y)
      at_slot y a b v (yes f) =
          rw (f, get_or-set_same next x (get_or first t 0) 0 (omega (arith, h.next_long)), ← e, ← add-one x) (h.firsts t ld)
      at_slot y a b v (no f) = get_or-set_other next x y (get_or first t 0) 0 f ∙ h.nexts y (omega arith) b v

pub slots_done : (n : Netlist) (i : ℕ) (first next : List ℕ) → Linked n first next (slots * i + 0) → Linked n first next (slots * i)
slots_done n i first next h = rw (add-zero (slots * i)) at h

-- record i, as the code links it: from its last slot down
module _ (n : Netlist) (i : ℕ) (first next : List ℕ) (s : IsSource n) (l : i < n.size) (r : Record) (q : r ≡ n.at i) where
  -- slot j, whose value is v, without a branch by it
  module _ (j v : ℕ) (b : j < slots) (f : v ≡ slot r j) (h : Linked n first next (slots * i + (j + 1))) where
    abbrev x : ℕ
    x = slots * i + j

    named : v ≡ fanin n i j
    named = f ∙ ap (λ (r : Record). slot r j) q

    at_x : {A : Type 0} (g : ℕ → ℕ → A) → g (x / slots) (x % slots) ≡ g i j
    at_x g =
        let record_of : x / slots ≡ i = omega arith in
        let slot_of : x % slots ≡ j = omega arith in
        ap₂ g record_of slot_of

    below : Linked n first next (x + 1)
    below = let e : slots * i + (j + 1) ≡ x + 1 = omega arith in subst (λ (y : ℕ). Linked n first next y) e h

    -- a slot that is used, by a kind with more slots than j
    module _ (u : j < arity r.kind) where
      uses : used n i j ≡ true
      uses = lt-ltb j _ (subst (λ (r : Record). j < arity r.kind) q u)

      inside : v < n.size
      inside = omega (arith, named, s.earlier i j l (ltb-true j _ uses))

      pub sink_linked : (t : ℕ) → t ≡ v → Linked n (set first t x) (set next x (get_or first t 0)) x
      sink_linked t e = link_used n first next x t below (omega arith) (e ∙ named ∙ sym (at_x (fanin n))) (omega (arith, inside)) (at_x (used n) ∙ uses)

    -- a used slot names an earlier record, and an unused one says so
    whether : (w : Bool) → used n i j ≡ w → eqb v unused ≡ not w
    whether true g = ne_eqb v unused (λ (z : v ≡ unused). omega (arith, s.few, named, s.earlier i j l (ltb-true j _ g)))
    whether false g = eq-eqb v unused (named ∙ s.empty i j l (ltb-false j _ g) b)

    module _ (d t : ℕ) (ed : d ≡ v) (et : t ≡ cond (eqb v unused) i d) where
      by_slot : (w : Bool) → used n i j ≡ w → t ≡ cond (not w) i v
      by_slot w g = et ∙ ap₂ (λ (b : Bool) (x : ℕ). cond b i x) (whether w g) ed

      pub slot_linked : (a c : ℕ) → a ≡ cond (eqb v unused) unused (get_or first t 0) → c ≡ cond (eqb v unused) (get_or first t 0) x →
          Linked n (set first t c) (set next x a) x
      slot_linked a c ea ec = go (used n i j) refl
        where
          go : (w : Bool) → used n i j ≡ w → Linked n (set first t c) (set next x a) x
          go true g =
              rw (ec, ea, whether true g)
              (sink_linked (subst (λ (r : Record). j < arity r.kind) (sym q) (ltb-true j _ g)) t (by_slot true g))
          go false g =
              let same : get_or next x 0 ≡ unused = h.rest x (omega arith) (at_x (used n) ∙ g) in
              rw (ec, ea, whether false g, ← same, set-get_or first t 0, set-get_or next x 0)
              (link_unused n first next x below (omega arith) (at_x (used n) ∙ g))

  -- all slots of a record are slots 0 to 2
  pub slots_above : Linked n first next (slots * (i + 1)) → Linked n first next (slots * i + (2 + 1))
  slots_above h = let e : slots * (i + 1) ≡ slots * i + (2 + 1) = omega arith in subst (λ (y : ℕ). Linked n first next y) e h

  -- slots from m on that the record does not use link nothing
  unused_from : (m k : ℕ) → m + k ≤ slots → arity (n.at i).kind ≤ m → Linked n first next (slots * i + (m + k)) → Linked n first next (slots * i + m)
  unused_from m zero b a h = rw (add-zero m) at h
  unused_from m (suc k) b a h =
      let x = slots * i + (m + k) in
      let e : slots * i + (m + suc k) ≡ x + 1 = omega arith in
      let record_of : x / slots ≡ i = omega arith in
      let slot_of : x % slots ≡ m + k = omega arith in
      unused_from m k (omega arith) a
      (link_unused n first next x (subst (λ (y : ℕ). Linked n first next y) e h) (omega arith)
      (ap₂ (used n) record_of slot_of ∙ le-ltb (m + k) (arity (n.at i).kind) (omega arith)))

  -- no gate: slots 1 and 2 are unused
  pub later_unused : (g : Bool) → g ≡ is_gate r.kind → not g ≡ true → Linked n first next (slots * (i + 1)) → Linked n first next (slots * i + 1)
  later_unused g is f h =
      unused_from 1 2 (omega arith) (omega (arith, other_arity r.kind g is f, ap (λ (r : Record). arity r.kind) q)) (slots_above h)

  -- an input: slot 0 too
  pub first_unused : r.kind ≡ input → Linked n first next (slots * i + 1) → Linked n first next (slots * i)
  first_unused o h =
      slots_done n i first next (unused_from 0 1 (omega arith) (omega (arith, ap arity o, ap (λ (r : Record). arity r.kind) q)) h)

-- once all slots are linked the chains of all drivers stand; those from a driver on stand from each later one on
module _ (n : Netlist) (first next : List ℕ) (end : ℕ) where
  pub chained_all : IsSource n → Linked n first next 0 → end ≡ slot_end n → Chained n first next 0 end
  chained_all s h e = let low : (y : ℕ) → 0 ≤ y = λ y. omega arith in search (h.nexts, low)

  pub chained_from : (c d : ℕ) → Chained n first next c end → c ≤ d → Chained n first next d end
  chained_from c d h l = search (h.nexts, le_trans)
