-- Laws of the run's loops, with premises as the code has them: zeros, output rows, the rows of steps.
use Prim.Native.Nat.{ℕ, suc, ◌+◌, ◌*◌, ◌-◌, ◌^◌, ◌<◌, ◌≤◌, min}
use mathlib.Core.Path.{◌≡◌, refl, sym, ◌∙◌, ap, ap₂}
use mathlib.Core.Bool.{Bool, true, false, cond}
use mathlib.Core.List.{List, [], ◌∷◌, ◌++◌, append-nil, append_assoc}
use native.Mathlib.Omega.{arith}
use native.Mathlib.Nat.{sub_self, mul-le-mul, mul-le-mul_right, zero-add, zero-mul, add-zero, add-sub_cancel_left, suc-mul}
use native.Mathlib.Decide.{dec_lt}
use native.Mathlib.Numerals.{add-one}
use lib.ListN.{length, get_or, take, drop, set, replicate, length-drop, length-set, drop_of_length-le}
use lib.Seq.{take_all, take-nil}
use lib.Dec.{eqb}
use borrow.Author.Tests.{eq-eqb, ne_eqb}
use Rattle.facts.specs.Sums.{bit, sum, count}
use Rattle.facts.proofs.Sums.{bit_le, rank_lt, count_le}
use Rattle.facts.proofs.Areas.{Written, length_written, take_written, drop_written, written_more, written_none, written_all}
use Rattle.netlist.specs.Kinds.{source_limit, output}
use Rattle.netlist.specs.Records.{netlist, record_at, record_count, is_output}
use Rattle.netlist.specs.Records
use Rattle.netlist.specs.Counts.{is_input, inputs, outputs}
use Rattle.netlist.specs.Counts
use Rattle.simulator.specs.Logic.{outputs_below, output_row}
use Rattle.simulator.specs.Run.{row_at, after, steps, output_rows}
use Rattle.simulator.specs.PrivateRun.{IsRun}
use Rattle.simulator.specs.Step.{stepped}
use Rattle.simulator.proofs.Rows.{length_after, length_output_rows}

-- the output bytes of the first i records are written
pub record Collecting (source state : List ℕ) (n k i : ℕ) (row old : List ℕ) : Type 0 where
  pub all : n ≡ record_count source
  pub long : length old ≡ outputs (netlist source)
  pub same : length row ≡ length old
  pub few : k ≤ i
  pub place : k ≡ count (is_output (netlist source)) i
  pub so_far : Written (outputs_below (netlist source) state i) k row old

module _ (source state : List ℕ) (n : ℕ) (old : List ℕ) where
  pub collecting_start : n ≡ record_count source → length old ≡ outputs (netlist source) → Collecting source state n 0 0 old old
  unfolding count sum outputs_below
  collecting_start e h =
      record {
        all = e;
        long = h;
        same = refl;
        few = omega arith;
        place = refl;
        so_far = written_none old;
      }

  module _ (k i x : ℕ) (row : List ℕ) (c : Collecting source state n k i row old) (h : i < n) (e : x ≡ (record_at source i).kind) where
    inside : is_output (netlist source) i ≡ true → k < length old
    inside t =
        rw (c.place, c.long)
        (rank_lt (is_output (netlist source)) i (record_count source) (omega (arith, c.all)) t)

    -- the parts that both cases share
    done : (t : Bool) (next : ℕ) (after : List ℕ) → is_output (netlist source) i ≡ t →
        Written (outputs_below (netlist source) state i ++ cond t (get_or state i 0 ∷ []) []) next after old →
        length after ≡ length old → next ≡ k + bit t → Collecting source state n next (i + 1) after old
    unfolding count sum outputs_below
    done t next after f w long goes =
        record {
          all = c.all;
          long = c.long;
          same = long;
          few = omega (arith, c.few, goes, bit_le t);
          place = rw (add-one i, f) (omega (arith, c.place, goes));
          so_far = rw (add-one i, f) w;
        }

    is : eqb x output ≡ is_output (netlist source) i
    is = ap (λ (y : ℕ). eqb y output) e

    module _ (t : x ≡ output) where
      here : is_output (netlist source) i ≡ true
      here = sym is ∙ eq-eqb x output t

      pub collecting_room : k < length row
      collecting_room = rw c.same (inside here)

      pub collecting_put : (b : ℕ) → b ≡ get_or state i 0 → Collecting source state n (k + 1) (i + 1) (set row k b) old
      collecting_put b p =
          done true (k + 1) (set row k b) here
          (rw (add-one k, ← p) (written_more _ k b row old c.so_far (inside here)))
          (length-set row k b ∙ c.same)
          refl

    pub collecting_skip : (x ≡ output → ⊥) → Collecting source state n k (i + 1) row old
    collecting_skip u =
        done false k row (sym is ∙ ne_eqb x output u)
        (rw (append-nil (outputs_below (netlist source) state i)) c.so_far)
        c.same
        (sym (add-zero k))

  pub collecting_end : (k i : ℕ) (row : List ℕ) → Collecting source state n k i row old → i ≤ n → n ≤ i → row ≡ output_row (netlist source) state
  collecting_end k i row c l h =
      let e : i ≡ record_count source = omega (arith, c.all) in
      written_all _ k row old c.so_far
      (rw (c.place, c.long, e) (omega arith))
      ∙ ap (outputs_below (netlist source) state) e

module _ (rows : List ℕ) (w k : ℕ) where
  pub at_fits : w ≤ source_limit → k < 2 ^ 17 → k * w < 2 ^ 64
  at_fits h l =
      let less : k ≤ 2 ^ 17 = omega arith in
      let p : k * w ≤ 2 ^ 17 * source_limit = mul-le-mul {n₂ = 2 ^ 17} {m₂ = source_limit} less h in
      omega arith

  pub row_parts : (a b : ℕ) → a ≡ min (k * w) (length rows) → b ≡ min (k * w + w) (length rows) → take (b - a) (drop a rows) ≡ row_at w rows k
  row_parts a b e f =
      elim (dec_lt (length rows) (k * w)) [
        | yes h ↦ rw (spent a e h, spent b f (omega arith), sub_self (length rows)) (sym (ap (take w) (drop_of_length-le rows {i = k * w} (omega arith)) ∙ take-nil w))
        | no g ↦ rw (starts g) (elim (dec_lt (length rows) (k * w + w)) [
          | yes h ↦ rw (spent b f h)
              (take_all (length rows - k * w) (drop (k * w) rows) (simp length-drop (omega arith))
              ∙ sym (take_all w (drop (k * w) rows) (simp length-drop (omega arith))))
          | no l ↦ rw (ends l) (ap (λ (n : ℕ). take n (drop (k * w) rows)) (add-sub_cancel_left (k * w) w))
        ])
      ]
    where
      spent : (x : ℕ) {y : ℕ} → x ≡ min y (length rows) → length rows < y → x ≡ length rows
      spent x p h = omega arith

      starts : (length rows < k * w → ⊥) → a ≡ k * w
      starts g = omega arith

      ends : (length rows < k * w + w → ⊥) → b ≡ k * w + w
      ends g = omega arith

-- a source's inputs are few
pub inputs_few : (source : List ℕ) (x : ℕ) → x ≡ inputs (netlist source) → record_count source ≤ source_limit → x ≤ source_limit
inputs_few source x e h = omega (arith, count_le (is_input (netlist source)) (record_count source))

pub state_long : (mapped : List ℕ) (w : ℕ) (rows : List ℕ) (k m : ℕ) (state : List ℕ) → state ≡ after (netlist mapped) w rows k → m ≡ record_count mapped → length state ≡ 2 * m
state_long mapped w rows k m state e q =
    ap length e ∙ length_after (netlist mapped) w rows k ∙ ap (λ (n : ℕ). 2 * n) (sym q)

-- one step more
pub after_more : (mapped : List ℕ) (w : ℕ) (rows : List ℕ) (k : ℕ) (row state new : List ℕ) → state ≡ after (netlist mapped) w rows k → row ≡ row_at w rows k →
    new ≡ stepped (netlist mapped) row state → new ≡ after (netlist mapped) w rows (suc k)
unfolding after
after_more mapped w rows k row state new e f g = rw (← f, ← e) g

-- the state area is k of the first D steps on
pub record Warming (mapped rows : List ℕ) (m w k : ℕ) (state old : List ℕ) : Type 0 where
  pub long : length state ≡ 2 * m
  pub same : length state ≡ length old
  pub so_far : state ≡ after (netlist mapped) w rows k

module _ (mapped rows : List ℕ) (m w : ℕ) (records : m ≡ record_count mapped) where
  pub warming_start : (state : List ℕ) → state ≡ after (netlist mapped) w rows 0 → Warming mapped rows m w 0 state state
  warming_start state e =
      record { long = state_long mapped w rows 0 m state e records; same = refl; so_far = e }

  pub warming_more : (k : ℕ) (state old row new : List ℕ) → Warming mapped rows m w k state old → row ≡ row_at w rows k → new ≡ stepped (netlist mapped) row state →
      Warming mapped rows m w (k + 1) new old
  warming_more k state old row new c e f =
      let next = after_more mapped w rows k row state new c.so_far e f in
      let long = state_long mapped w rows (suc k) m new next records in
      record { long = long; same = long ∙ sym c.long ∙ c.same; so_far = rw (add-one k) next }

pub warming_end : (mapped rows : List ℕ) (m w k d : ℕ) (state old : List ℕ) → Warming mapped rows m w k state old → k ≤ d → d ≤ k →
    state ≡ after (netlist mapped) w rows d
warming_end mapped rows m w k d state old c l h =
    let e : k ≡ d = omega arith in
    c.so_far ∙ ap (after (netlist mapped) w rows) e

-- the state area is D + t steps on, and the first t output rows are written
pub record Playing (source mapped rows : List ℕ) (m w o d count t : ℕ) (state first outs old : List ℕ) : Type 0 where
  pub room : length old ≡ count * o
  pub same : length outs ≡ length old
  pub long : length state ≡ 2 * m
  pub kept : length state ≡ length first
  pub so_far : state ≡ after (netlist mapped) w rows (t + d)
  pub done : Written (output_rows (netlist source) (netlist mapped) rows t) (t * o) outs old

module _ (source mapped rows : List ℕ) (m w o d count : ℕ) where
  pub playing_start : (state outs : List ℕ) → m ≡ record_count mapped → length outs ≡ count * o → state ≡ after (netlist mapped) w rows d →
      Playing source mapped rows m w o d count 0 state state outs outs
  unfolding output_rows
  playing_start state outs records r e =
      record {
        room = r;
        same = refl;
        long = state_long mapped w rows d m state e records;
        kept = refl;
        so_far = e ∙ ap (after (netlist mapped) w rows) (sym (zero-add d));
        done = rw (zero-mul o) (written_none outs);
      }

  module _ (t : ℕ) (state first outs old : List ℕ) (c : Playing source mapped rows m w o d count t state first outs old) where
    module _ (h : t < count) where
      fits : t * o + o ≤ length old
      fits = rw (c.room, ← suc-mul t o) (mul-le-mul_right o h)

      pub playing_room : t * o + o ≤ length outs
      playing_room = rw c.same fits

      pub playing_more : (row new out : List ℕ) → m ≡ record_count mapped → w ≡ Counts.inputs (netlist source) → o ≡ Counts.outputs (netlist source) →
          d ≡ Records.depth (netlist source) → row ≡ row_at w rows (t + d) → new ≡ stepped (netlist mapped) row state →
          out ≡ take (t * o) outs ++ (output_row (netlist source) new ++ drop (t * o + o) outs) →
          Playing source mapped rows m w o d count (t + 1) new first out old
      unfolding output_rows
      playing_more row new out records wide narrow deep e f g =
          record {
            room = c.room;
            same = length_written _ (suc t * o) out old done (rw (suc-mul t o) fits);
            long = long;
            kept = long ∙ sym c.long ∙ c.kept;
            so_far = next ∙ ap (after (netlist mapped) w rows) (omega arith);
            done = rw (add-one t) done;
          }
        where
          next : new ≡ after (netlist mapped) w rows (suc (t + d))
          next = after_more mapped w rows (t + d) row state new c.so_far e f

          long : length new ≡ 2 * m
          long = state_long mapped w rows (suc (t + d)) m new next records

          row_is : output_row (netlist source) new ≡ output_row (netlist source) (after (netlist mapped) (Counts.inputs (netlist source)) rows (suc (t + Records.depth (netlist source))))
          row_is =
              ap (output_row (netlist source))
              (next ∙ ap₂ (λ (a b : ℕ). after (netlist mapped) a rows (suc (t + b))) wide deep)

          done : Written (output_rows (netlist source) (netlist mapped) rows (suc t)) (suc t * o) out old
          done =
              record {
                long = length_output_rows (netlist source) (netlist mapped) rows (suc t) ∙ ap (λ (x : ℕ). suc t * x) (sym narrow);
                parts =
                    rw (
                      g,
                      take_written _ (t * o) outs old c.done,
                      drop_written _ (t * o) (t * o + o) outs old c.done (omega arith),
                      ← append_assoc (output_rows (netlist source) (netlist mapped) rows t),
                      row_is,
                      suc-mul t o,
                    );
              }

    module _ (l : t ≤ count) (h : count ≤ t) where
      last : t ≡ count
      last = omega arith

      pub playing_state : state ≡ after (netlist mapped) w rows (count + d)
      playing_state = c.so_far ∙ ap (λ (k : ℕ). after (netlist mapped) w rows (k + d)) last

      pub playing_outs : outs ≡ output_rows (netlist source) (netlist mapped) rows count
      playing_outs =
          written_all _ (t * o) outs old c.done (rw (c.room, last) (omega arith))
          ∙ ap (output_rows (netlist source) (netlist mapped) rows) last

-- a whole run, as its parts leave the areas
module _ (source mapped rows : List ℕ) (r : ℕ) (area outs : List ℕ) (run : IsRun (netlist source) (netlist mapped) r rows area outs) where
  pub cleared : (w : ℕ) (state : List ℕ) → state ≡ replicate (length area) 0 → state ≡ after (netlist mapped) w rows 0
  unfolding after
  cleared w state e = e ∙ ap (λ (n : ℕ). replicate n 0) run.state

  pub run_room : (o : ℕ) → o ≡ Counts.outputs (netlist source) → length outs ≡ r * o
  run_room o e = run.room ∙ ap (λ (x : ℕ). r * x) (sym e)

  pub idle_state : (state : List ℕ) → r ≡ 0 → state ≡ replicate (length area) 0 →
      state ≡ after (netlist mapped) (Counts.inputs (netlist source)) rows (steps (netlist source) r)
  idle_state state e f = rw e (cleared (Counts.inputs (netlist source)) state f)

  pub idle_rows : r ≡ 0 → outs ≡ output_rows (netlist source) (netlist mapped) rows r
  unfolding output_rows
  idle_rows e = rw e (nothing outs (run.room ∙ ap (λ (n : ℕ). n * Counts.outputs (netlist source)) e ∙ zero-mul (Counts.outputs (netlist source))))
    where
      nothing : (xs : List ℕ) → length xs ≡ 0 → xs ≡ []
      nothing [] h = refl
      nothing (x ∷ xs) h = absurd (omega arith)

-- D steps and one for each row
pub played_state : (source mapped rows : List ℕ) (r w d : ℕ) (state : List ℕ) → (r ≡ 0 → ⊥) → w ≡ Counts.inputs (netlist source) → d ≡ Records.depth (netlist source) →
    state ≡ after (netlist mapped) w rows (r + d) → state ≡ after (netlist mapped) (Counts.inputs (netlist source)) rows (steps (netlist source) r)
played_state source mapped rows r w d state h wide deep e =
    rw (ne_eqb r 0 h, ← wide, ← deep) e
