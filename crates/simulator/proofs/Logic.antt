-- Laws of a record's function and of plain logic: plain logic is the one assignment in which every record has what its rule gives.
use Prim.Native.Nat.{ℕ, zero, suc, ◌+◌, ◌/◌, ◌^◌, ◌<◌, ◌≤◌}
use mathlib.Core.Path.{◌≡◌, refl, sym, ◌∙◌, ap, ap₂}
use mathlib.Core.Bool.{Bool, true, false, cond, not}
use mathlib.Core.List.{List, [], ◌∷◌, ◌++◌, append-nil}
use native.Mathlib.Omega.{arith}
use native.Mathlib.Nat.{add-zero, add-suc}
use lib.ListN.{get_or}
use lib.Dec.{leb, eqb}
use Rattle.facts.specs.Sums.{bit, count}
use Rattle.facts.specs.Lists.{tabulate}
use Rattle.facts.proofs.Sums.{count_cong, on_bit}
use Rattle.facts.proofs.Lists.{get_d_tabulate}
use Rattle.netlist.specs.Kinds.{arity}
use Rattle.netlist.specs.Records.{Netlist, is_output, fanin}
use Rattle.netlist.specs.Source.{IsSource}
use Rattle.netlist.specs.Counts.{is_input}
use Rattle.simulator.specs.Logic.{on, turned, ones_below, threshold, gate, next, values, plain, outputs_below}

-- a kind's function goes by its used slots alone
pub gate_cong : (k v : ℕ) (f g : ℕ → Bool) → ((j : ℕ) → j < arity k → f j ≡ g j) → gate k v f ≡ gate k v g
unfolding gate ones_below
gate_cong k v f g h =
    ap (λ (c : ℕ). leb (threshold k) c) (count_cong _ _ (arity k) (λ j l. ap (turned (v / 2 ^ j)) (h j l)))

-- so does what a record holds next
pub next_cong : (m : Netlist) (row : List ℕ) (f g : ℕ → Bool) (i : ℕ) →
    ((j : ℕ) → j < arity (m.at i).kind → f (fanin m i j) ≡ g (fanin m i j)) → next m row f i ≡ next m row g i
unfolding next
next_cong m row f g i h =
    ap (cond (is_input m i) (on row (count (is_input m) i))) (gate_cong (m.at i).kind (m.at i).inversion _ _ h)

-- the values by rising index are plain logic's
pub values_plain : (m : Netlist) (row : List ℕ) (n : ℕ) → values m row n ≡ tabulate (λ i. bit (plain m row i)) n
unfolding values plain
values_plain m row zero = refl
values_plain m row (suc n) = ap (λ (l : List ℕ). l ++ (bit (plain m row n) ∷ [])) (values_plain m row n)

pub value_plain : (m : Netlist) (row : List ℕ) (n i : ℕ) → i < n → get_or (values m row n) i 0 ≡ bit (plain m row i)
value_plain m row n i l =
    ap (λ (xs : List ℕ). get_or xs i 0) (values_plain m row n) ∙ get_d_tabulate (λ i. bit (plain m row i)) n i 0 l

pub on_values : (m : Netlist) (row : List ℕ) (n i : ℕ) → i < n → on (values m row n) i ≡ plain m row i
on_values m row n i l = ap (λ (x : ℕ). not (eqb x 0)) (value_plain m row n i l) ∙ on_bit (plain m row i)

-- in a source every record has what its rule gives
pub plain_next : (m : Netlist) → IsSource m → (row : List ℕ) (i : ℕ) → i < m.size → plain m row i ≡ next m row (plain m row) i
unfolding plain
plain_next m s row i l =
    next_cong m row (on (values m row i)) (plain m row) i (λ j k. on_values m row i (fanin m i j) (s.earlier i j l k))

-- and no other assignment has that
pub plain_unique : (m : Netlist) → IsSource m → (row : List ℕ) (v : ℕ → Bool) →
    ((i : ℕ) → i < m.size → v i ≡ next m row v i) → (i : ℕ) → i < m.size → v i ≡ plain m row i
plain_unique m s row v h i l = go (suc i) i (omega arith) l
  where
    go : (n i : ℕ) → i < n → i < m.size → v i ≡ plain m row i
    go zero i b l = absurd (omega arith)
    go (suc n) i b l =
        h i l
        ∙ next_cong m row v (plain m row) i (λ j k. go n (fanin m i j) (omega (arith, before j k)) (omega (arith, before j k)))
        ∙ sym (plain_next m s row i l)
      where
        before : (j : ℕ) → j < arity (m.at i).kind → fanin m i j < i
        before j k = s.earlier i j l k

-- an output row goes by the bytes of the output records alone
pub outputs_cong : (m : Netlist) (a b : List ℕ) (n : ℕ) →
    ((i : ℕ) → i < n → is_output m i ≡ true → get_or a i 0 ≡ get_or b i 0) → outputs_below m a n ≡ outputs_below m b n
unfolding outputs_below
outputs_cong m a b zero h = refl
outputs_cong m a b (suc n) h = ap₂ ◌++◌ (outputs_cong m a b n (λ i l. h i (omega arith))) (go (is_output m n) refl)
  where
    go : (t : Bool) → is_output m n ≡ t → cond t (get_or a n 0 ∷ []) [] ≡ cond t (get_or b n 0 ∷ []) []
    go true e = ap (λ (x : ℕ). x ∷ []) (h n (omega arith) e)
    go false e = refl

-- netlists whose first records are outputs alike have the same output bytes there
pub outputs_same : (m n : Netlist) (a : List ℕ) (k : ℕ) →
    ((i : ℕ) → i < k → is_output m i ≡ is_output n i) → outputs_below m a k ≡ outputs_below n a k
unfolding outputs_below
outputs_same m n a zero h = refl
outputs_same m n a (suc k) h =
    ap₂ (λ (l : List ℕ) (t : Bool). l ++ cond t (get_or a k 0 ∷ []) [])
    (outputs_same m n a k (λ i l. h i (omega arith)))
    (h k (omega arith))

-- records that are no outputs add nothing
pub outputs_none : (m : Netlist) (a : List ℕ) (k more : ℕ) →
    ((i : ℕ) → k ≤ i → i < k + more → is_output m i ≡ false) → outputs_below m a (k + more) ≡ outputs_below m a k
unfolding outputs_below
outputs_none m a k zero h = ap (outputs_below m a) (add-zero k)
outputs_none m a k (suc more) h =
    rw (add-suc k more, h (k + more) (omega arith) (omega arith), append-nil (outputs_below m a (k + more)))
    (outputs_none m a k more (λ i l r. h i l (omega arith)))
