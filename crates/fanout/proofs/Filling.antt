-- Laws of filling the row of one driver, with premises as the code has them: one slot, one record, all records.
use Prim.Native.Nat.{ℕ, suc, ◌+◌, ◌-◌, ◌≤◌, ◌<◌, ◌^◌}
use mathlib.Core.Path.{◌≡◌, refl, sym, ◌∙◌, ap, subst}
use mathlib.Core.Bool.{Bool, true, false, cond, ◌&&◌}
use mathlib.Core.List.{List}
use native.Mathlib.Omega.{arith}
use native.Mathlib.Decide.{dec_lt}
use lib.ListN.{length, get_or, length-set, length-replicate}
use lib.Seq.{ext_get_or}
use native.Mathlib.Numerals.{add-one}
use lib.Dec.{ltb, eqb}
use borrow.Author.Tests.{eq-eqb, ne_eqb, lt-ltb, ltb-true, ltb-false, eqb-true}
use Rattle.facts.proofs.Bools.{and_i}
use Rattle.facts.proofs.Lists.{zeros_at, added_at}
use Rattle.facts.specs.Sums.{bit, sum, count, count₂}
use Rattle.facts.proofs.Sums.{count_suc, count_false, count_le, count₂_le}
use Rattle.fanout.specs.PrivateWalk.{Filled}
use Rattle.fanout.proofs.Nets.{row_length, row_at_lem}
use Rattle.fanout.proofs.Rows.{level_test, sink_above}
use Rattle.netlist.specs.declared.Record.{Record}
use Rattle.netlist.specs.Kinds.{slots, top_level, arity}
use Rattle.netlist.specs.Records.{Netlist, slot, used, fanin}
use Rattle.netlist.specs.Source.{IsSource}
use Rattle.fanout.specs.Nets.{sink_at, sinks, added}
use Rattle.fanout.specs.PrivateFilling.{sinks_so_far, RowSoFar, RowAtRecord, Empty, Slot, farther, row_with, far_with}

farther_le : (far x b : ℕ) → far ≤ b → x ≤ b → farther far x ≤ b
farther_le far x b g h = go (ltb far x)
  where
    go : (t : Bool) → cond t x far ≤ b
    go true = h
    go false = g

le_farther : (far x : ℕ) → (far ≤ farther far x) × (x ≤ farther far x)
le_farther far x = go (ltb far x) refl
  where
    go : (t : Bool) → ltb far x ≡ t → (far ≤ cond t x far) × (x ≤ cond t x far)
    go true e = (omega (arith, ltb-true far x e), omega arith)
    go false e = (omega arith, omega (arith, ltb-false far x e))

-- a record whose slots are all counted
next_record : (m : Netlist) (d i x : ℕ) → sinks_so_far m d (suc i) 0 x ≡ sinks_so_far m d i slots x
unfolding count₂ count sum
next_record m d i x = omega arith

module _ (m : Netlist) (d i j : ℕ) (source : IsSource m) (present : d < m.size) (inside : i < m.size) (l : j < slots) where
  -- a slot that names another record is no sink
  no_sink : (x : ℕ) → eqb (fanin m i j) d ≡ false → sink_at m d x i j ≡ false
  no_sink x e = rw e (go (used m i j))
    where
      go : (b : Bool) → ((b && false) && eqb (m.at i).level ((m.at d).level + x)) ≡ false
      go true = refl
      go false = refl

  -- one that names d is used: an unused slot names no record
  hit_used : eqb (fanin m i j) d ≡ true → used m i j ≡ true
  hit_used e =
      elim (dec_lt j (arity (m.at i).kind)) [
        | yes u ↦ lt-ltb j (arity (m.at i).kind) u
        | no u ↦ absurd (omega (arith, source.empty i j inside (omega arith) l, eqb-true (fanin m i j) d e, source.few))
      ]

  stands_above : eqb (fanin m i j) d ≡ true → (m.at d).level < (m.at i).level
  stands_above e = sink_above m d source i j inside (and_i (used m i j) _ (hit_used e) e)

  -- and a sink at its level's distance alone
  is_sink : (x : ℕ) → eqb (fanin m i j) d ≡ true → sink_at m d x i j ≡ eqb ((m.at i).level - (m.at d).level) x
  is_sink x e = rw (hit_used e, e) (level_test (m.at i).level (m.at d).level x (stands_above e))

  filled_more : (row : List ℕ) (far : ℕ) → RowSoFar m d i j row far →
      RowSoFar m d i (suc j) (row_with d (m.at d).level (m.at i) j row) (far_with d (m.at d).level (m.at i) j far)
  filled_more row far f = go (eqb (fanin m i j) d) refl
    where
      at : ℕ
      at = (m.at i).level - (m.at d).level

      go : (b : Bool) → eqb (fanin m i j) d ≡ b → RowSoFar m d i (suc j) (cond b (added row at) row) (cond b (farther far at) far)
      go false e =
          record {
            long = f.long;
            entry = λ x h. omega (arith, f.entry x h, count_false (sink_at m d x i) j (no_sink x e));
            within = f.within;
            past = f.past;
          }
      go true e =
          let h : at ≤ top_level = omega (arith, source.levels i inside) in
          record {
            long = length-set row at _ ∙ f.long;
            entry = λ x l.
                omega (
                  arith,
                  added_at row at x (omega (arith, f.long)),
                  f.entry x l,
                  count_suc (sink_at m d x i) j,
                  ap bit (is_sink x e),
                );
            within = farther_le far at top_level f.within h;
            past = λ x l.
                added_at row at x (omega (arith, f.long))
                ∙ rw (ne_eqb at x (λ y. omega (arith, le_farther far at)), f.past x (omega (arith, le_farther far at)))
                (omega arith);
          }

-- one record r, whose slots below j are counted
module _ (m : Netlist) (d below i : ℕ) (r : Record) (first row : List ℕ) (most far j : ℕ) (h : RowAtRecord m d below i first most) (read : r ≡ m.at i) (l : j < slots) (f : RowSoFar m d i j row far) where
  pub slots_room : Slot row d below r j
  slots_room =
      record {
        above = λ e. omega (arith, stands_above m d i j h.is_source h.present h.inside l (hit e), level, h.driver);
        room = λ e. record { in_row = in_row; fits = fits };
      }
    where
      level : r.level ≡ (m.at i).level
      level = ap (λ (r : Record). r.level) read

      hit : slot r j ≡ d → eqb (fanin m i j) d ≡ true
      hit e = eq-eqb (fanin m i j) d (ap (λ (r : Record). slot r j) (sym read) ∙ e)

      in_row : r.level - below ≤ top_level
      in_row = omega (arith, h.is_source.levels i h.inside, level)

      fits : get_or row (r.level - below) 0 + 1 < 2 ^ 32
      fits =
          omega (
            arith,
            f.entry (r.level - below) in_row,
            count₂_le (sink_at m d (r.level - below)) slots i,
            count_le (sink_at m d (r.level - below) i) j,
            h.inside,
            h.is_source.few,
          )

  pub slots_more : (row' : List ℕ) (far' : ℕ) → row' ≡ row_with d below r j row → far' ≡ far_with d below r j far → RowSoFar m d i (j + 1) row' far'
  slots_more row' far' e g =
      rw (add-one j, e, g, h.driver, read) (filled_more m d i j h.is_source h.present h.inside l row far f)

pub slots_end : (m : Netlist) (d i : ℕ) (row : List ℕ) (far j : ℕ) → RowSoFar m d i j row far → j ≤ slots → slots ≤ j → RowSoFar m d (suc i) 0 row far
slots_end m d i row far j f a b =
    let e : j ≡ slots = omega arith in
    record {
      long = f.long;
      entry = λ x b. f.entry x b ∙ ap (λ (j : ℕ). sinks_so_far m d i j x) e ∙ sym (next_record m d i x);
      within = f.within;
      past = f.past;
    }

-- all records
pub records_start : (m : Netlist) (d : ℕ) (row : List ℕ) → Empty m d row → RowSoFar m d 0 0 row 0
unfolding count₂ count sum
records_start m d row h =
    record {
      long = ap length h.zeros ∙ length-replicate {A = ℕ} (suc top_level) 0;
      entry = λ x l. zero_at x;
      within = omega arith;
      past = λ x l. zero_at x;
    }
  where
    zero_at : (x : ℕ) → get_or row x 0 ≡ 0
    zero_at = zeros_at (suc top_level) row h.zeros

pub records_end : (m : Netlist) (d : ℕ) (row : List ℕ) (far k n : ℕ) → RowSoFar m d k 0 row far → n ≡ m.size → k ≤ n → n ≤ k → Filled m d row far
unfolding sinks count sum
records_end m d row far k n g s a b =
    let f : RowSoFar m d m.size 0 row far =
    subst (λ (k : ℕ). RowSoFar m d k 0 row far) (let e : k ≡ m.size = omega arith in e) g in
    record {
      counted =
          ext_get_or 0 row (Rattle.fanout.specs.Nets.row m d) (f.long ∙ sym (row_length m d))
          (λ x b.
          let g : x ≤ top_level = omega (arith, f.long) in
          omega (arith, f.entry x g, row_at_lem m d x g));
      near = f.within;
      beyond = f.past;
    }
