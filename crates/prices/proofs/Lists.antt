-- Laws of price lists: the checks one by one, the prices that apply, and a price as it is looked up.
use Prim.Native.Nat.{ℕ, zero, suc, ◌+◌, ◌-◌, ◌*◌, ◌≤◌, ◌<◌}
use native.Mathlib.Omega.{arith}
use native.Mathlib.Decide.{dec_lt, ℕ_discrete}
use mathlib.Core.Path.{◌≡◌, refl, sym, ◌∙◌, ap, subst⁻¹}
use mathlib.Core.Logic.{◌⊎◌, inl, inr, ⊎_elim}
use mathlib.Core.Bool.{Bool, true, false, not, cond, ◌&&◌, ◌||◌}
use mathlib.Core.List.{List, [], ◌∷◌}
use mir.Val.{Fits}
use mir.Syntax.{w64}
use lib.ListN.{length, get_or, take, drop, set, length-set, get_or-eq_default}
use Rattle.std.proofs.lemmas.List.{get_or-take, length-take}
use lib.Seq.{get_or-drop, get_or-set_same, get_or-set_other, ext_get_or}
use lib.Dec.{eqb, ltb}
use borrow.Author.Tests.{ne_eqb, eqb-true, lt-ltb, le-ltb, lt-leb, le-leb, not-false}
use Rattle.facts.specs.Answers.{Checked, Passed, Refused}
use Rattle.facts.specs.Checks.{check, scan}
use Rattle.facts.specs.Sums.{bit, any}
use Rattle.facts.proofs.Bools.{true_false}
use Rattle.facts.proofs.Sums.{any_none, bit_le}
use Rattle.facts.proofs.Reflect.{then_passed, check_passed}
use Rattle.netlist.specs.Kinds.{buffer, is_gate}
use Rattle.prices.specs.Prices.{list_length, price_counts, price_count, price_start, plain_prices, list_price, price_of}
use Rattle.prices.specs.Checks.{bad_list_length, price_check, price_list_checks}
use Rattle.prices.specs.PrivatePrices.{plain_list, applied, AppliedPrices}

-- a list that 27 passes is empty or of full length
length_passed : (list : List ℕ) → bad_list_length list ≡ false → (length list ≡ 0) ⊎ (length list ≡ list_length)
length_passed list f =
    elim (ℕ_discrete (length list) 0) [
      | yes z ↦ inl z
      | no z ↦
          elim (ℕ_discrete (length list) list_length) [
            | yes w ↦ inr w
            | no w ↦ absurd (true_false (bad_list_length list) (rw (ne_eqb (length list) 0 z, ne_eqb (length list) list_length w)) f)
          ]
    ]

pub length_short : (list : List ℕ) (b : Bool) → b ≡ bad_list_length list → b ≡ false → length list ≤ list_length
length_short list b e f = ⊎_elim (λ z. omega arith) (λ z. omega arith) (length_passed list (sym e ∙ f))

-- 27, then 28
pub list_refused : (list : List ℕ) (b : Bool) → b ≡ bad_list_length list → b ≡ true → Refused 27 0 ≡ price_list_checks list
unfolding price_list_checks
list_refused list b e f = cc

pub list_passed : (list : List ℕ) (b : Bool) (a : Checked) → b ≡ bad_list_length list → b ≡ false → a ≡ scan (price_check list) 0 (length list) → a ≡ price_list_checks list
unfolding price_list_checks
list_passed list b a e f g = cc

pub list_length_lem : (list : List ℕ) → price_list_checks list ≡ Passed → (length list ≡ 0) ⊎ (length list ≡ list_length)
unfolding price_list_checks
list_length_lem list e =
    length_passed list ((check_passed 27 0 (bad_list_length list)).0 ((then_passed (check 27 0 (bad_list_length list)) (scan (price_check list) 0 (length list))).0 e).0)

-- a kind's price in an empty list: 6 for a gate, 2 for a buffer
pub plain_kind : (kind : ℕ) → get_or plain_prices kind 0 ≡ 6 * bit (is_gate kind) + 2 * bit (eqb kind buffer)
plain_kind zero = refl
plain_kind (suc zero) = refl
plain_kind (suc (suc zero)) = refl
plain_kind (suc (suc (suc zero))) = refl
plain_kind (suc (suc (suc (suc zero)))) = refl
plain_kind (suc (suc (suc (suc (suc zero))))) = refl
plain_kind (suc (suc (suc (suc (suc (suc k)))))) = past (suc (suc (suc (suc (suc (suc k)))))) (omega arith)
  where
    past : (kind : ℕ) → 6 ≤ kind → get_or plain_prices kind 0 ≡ 6 * bit (is_gate kind) + 2 * bit (eqb kind buffer)
    past kind l =
        get_or-eq_default plain_prices 0 {n = kind} l
        ∙ sym (rw (le-leb 1 kind (omega arith), lt-leb kind 3 (omega arith), ne_eqb kind buffer (λ e. omega arith)) refl)

-- the list that applies passes too
pub applied_passes : (list : List ℕ) → price_list_checks list ≡ Passed → price_list_checks (applied list) ≡ Passed
unfolding price_list_checks scan
applied_passes [] e = refl
applied_passes (p ∷ ps) e = e

-- the prices below position k are read
pub record Reading (list prices : List ℕ) (k : ℕ) : Type 0 where
  pub passes : price_list_checks list ≡ Passed
  pub size : length prices ≡ list_length
  pub small : (x : ℕ) → get_or prices x 0 ≤ 255
  pub before : (x : ℕ) → x < k → get_or prices x 0 ≡ get_or list x 0
  pub after : (x : ℕ) → k ≤ x → get_or prices x 0 ≡ get_or plain_list x 0

module _ (list : List ℕ) where
  module _ (prices : List ℕ) (k : ℕ) (r : Reading list prices k) where
    pub read_inside : k < length list → k < list_length
    read_inside l = ⊎_elim (λ z. omega arith) (λ z. omega arith) (list_length_lem list r.passes)

    pub read_offset : k < length list → Fits w64 (k * 4)
    read_offset l = omega (arith, read_inside l)

    pub read_more : (x : ℕ) → k < length list → x ≡ get_or list k 0 → x < 256 → Reading list (set prices k x) (k + 1)
    read_more x l e b =
        record {
          passes = r.passes;
          size = length-set prices k x ∙ r.size;
          small = λ y. each (λ v. v ≤ 255) y (omega arith) (r.small y);
          before = λ y m. before y m (ℕ_discrete y k);
          after = λ y m. get_or-set_other prices k y x 0 (λ f. omega arith) ∙ r.after y (omega arith);
        }
      where
        here : get_or (set prices k x) k 0 ≡ x
        here = get_or-set_same prices k x 0 (omega (arith, read_inside l, r.size))

        each : (P : ℕ → Type 0) (y : ℕ) → P x → P (get_or prices y 0) → P (get_or (set prices k x) y 0)
        each P y p q =
            elim (ℕ_discrete y k) [
              | yes f ↦ subst⁻¹ P (ap (λ (z : ℕ). get_or (set prices k x) z 0) f ∙ here) p
              | no f ↦ subst⁻¹ P (get_or-set_other prices k y x 0 f) q
            ]

        before : (y : ℕ) → y < k + 1 → Dec (y ≡ k) → get_or (set prices k x) y 0 ≡ get_or list y 0
        before y m (yes f) = ap (λ (z : ℕ). get_or (set prices k x) z 0) f ∙ here ∙ e ∙ ap (λ (z : ℕ). get_or list z 0) (sym f)
        before y m (no f) = get_or-set_other prices k y x 0 f ∙ r.before y (omega arith)

    -- an empty list has left the array as it was, a full one has filled it
    pub read_end : k ≤ length list → length list ≤ k → prices ≡ applied list
    read_end w l = go list r.passes w l r.before
      where
        go : (m : List ℕ) → price_list_checks m ≡ Passed → k ≤ length m → length m ≤ k → ((x : ℕ) → x < k → get_or prices x 0 ≡ get_or m x 0) → prices ≡ applied m
        go [] e a b f = ext_get_or 0 prices plain_list r.size (λ x m. r.after x (omega arith))
        go (p ∷ ps) e a b f =
            ⊎_elim (λ z. absurd (omega arith))
            (λ z. ext_get_or 0 prices (p ∷ ps) (r.size ∙ sym z) (λ x m. f x (omega (arith, r.size))))
            (list_length_lem (p ∷ ps) e)

    pub read_prices : k ≤ length list → length list ≤ k → AppliedPrices prices
    read_prices w l = record { size = r.size; small = r.small; passes = rw (read_end w l) (applied_passes list r.passes) }

-- a gate has two prices
pub gate_count : (kind : ℕ) → 1 ≤ kind → kind < 4 → 2 ≡ price_count kind
gate_count kind l h =
    elim (ℕ_discrete kind 1) [ yes e ↦ rw e | no n ↦ elim (ℕ_discrete kind 2) [ yes e ↦ rw e | no m ↦ (let e : kind ≡ 3 = omega arith in rw e) ] ]

-- a test that no kind of the table has, no kind with prices has
tested : (p : ℕ → Bool) → any p (length price_counts) ≡ false → (kind : ℕ) → 0 < price_count kind → p kind ≡ false
tested p e kind l =
    elim (dec_lt kind (length price_counts)) [
      | yes h ↦ (any_none p (length price_counts)).0 e kind h
      | no h ↦ absurd (omega (arith, get_or-eq_default price_counts 0 {n = kind} (omega arith)))
    ]

-- each price of an empty list is the one of its kind
plain_price : (kind fed : ℕ) → fed < price_count kind → get_or plain_list (price_start kind + fed) 0 ≡ get_or plain_prices kind 0
unfolding any
plain_price kind fed l =
    eqb-true _ _
    (not-false _
    ((any_none (λ f. not (eqb (get_or plain_list (price_start kind + f) 0) (get_or plain_prices kind 0))) (price_count kind)).0
    (tested (λ k. any (λ f. not (eqb (get_or plain_list (price_start k + f) 0) (get_or plain_prices k 0))) (price_count k)) refl kind (omega arith))
    fed l))

-- the price of a list that is not empty
pub price_listed : (list : List ℕ) (kind fed : ℕ) → length list ≡ list_length → price_of list kind fed ≡ list_price list kind fed
unfolding price_of
price_listed [] kind fed e = absurd (omega arith)
price_listed (p ∷ ps) kind fed e = refl

-- the price at a number of slots among those of its kind, which stand from s to e; none past the last
pub price_found : (list : List ℕ) → AppliedPrices list → (kind fed s e v : ℕ) → (s ≡ price_start kind) × (e ≡ price_start kind + price_count kind) →
    v ≡ get_or (take (e - s) (drop s list)) fed 0 → (v ≡ price_of list kind fed) × (v ≤ 255)
price_found list h kind fed s e v p q =
    elim (dec_lt fed (price_count kind)) [
      | yes l ↦
          let g : v ≡ get_or list (s + fed) 0 =
          q ∙ get_or-take (e - s) (drop s list) fed 0 (omega (arith, p)) ∙ get_or-drop s list fed 0 in (
            g
                ∙ ap (λ (s : ℕ). get_or list (s + fed) 0) p.0
                ∙ sym (price_listed list kind fed h.size ∙ rw (lt-ltb fed (price_count kind) l)),
            omega (arith, g, h.small (s + fed)),
          )
      | no l ↦
          let g : v ≡ 0 =
          q ∙ get_or-eq_default (take (e - s) (drop s list)) 0 {n = fed} (omega (arith, p, length-take (e - s) (drop s list))) in
          (g ∙ sym (price_listed list kind fed h.size ∙ rw (le-ltb fed (price_count kind) (omega arith))), omega arith)
    ]

-- where no entry of a list is above 255, no price is
pub price_most : (list : List ℕ) → ((p : ℕ) → get_or list p 0 ≤ 255) → (kind fed : ℕ) → price_of list kind fed ≤ 255
unfolding price_of
price_most [] h kind fed = omega (arith, plain_kind kind, bit_le (is_gate kind), bit_le (eqb kind buffer))
price_most (p ∷ ps) h kind fed = go (ltb fed (price_count kind))
  where
    go : (b : Bool) → cond b (get_or (p ∷ ps) (price_start kind + fed) 0) 0 ≤ 255
    go true = h (price_start kind + fed)
    go false = omega arith

-- in the list that applies a kind has the price of the list, at each number of slots that has a position
pub applied_price : (list : List ℕ) (kind fed : ℕ) → fed < price_count kind → price_of (applied list) kind fed ≡ price_of list kind fed
unfolding price_of
applied_price (p ∷ ps) kind fed l = refl
applied_price [] kind fed l = rw (lt-ltb fed (price_count kind) l) (plain_price kind fed l)

-- what is no gate and no buffer costs nothing
pub no_price : (list : List ℕ) (kind fed : ℕ) → is_gate kind ≡ false → eqb kind buffer ≡ false → price_of list kind fed ≡ 0
unfolding price_of any
no_price [] kind fed g b = plain_kind kind ∙ rw (g, b) refl
no_price (p ∷ ps) kind fed g b =
    elim (dec_lt 0 (price_count kind)) [
      | yes l ↦ absurd (true_false (priced kind) (rw (lt-ltb 0 (price_count kind) l, g, b) refl) (tested priced refl kind l))
      | no l ↦ rw (le-ltb fed (price_count kind) (omega arith)) refl
    ]
  where
    priced : ℕ → Bool
    priced k = ltb 0 (price_count k) && not (is_gate k || eqb k buffer)
