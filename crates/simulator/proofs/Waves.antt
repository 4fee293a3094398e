-- Waves: after step L + t a record of level L holds plain logic's value, for the row of step t, of the record that it traces to.
use Prim.Native.Nat.{ℕ, zero, suc, ◌+◌, ◌<◌}
use mathlib.Core.Path.{◌≡◌, refl, sym, ◌∙◌, ap, ap₂, subst}
use mathlib.Core.Logic.{◌≢◌}
use mathlib.Core.Bool.{Bool, true, false, cond}
use mathlib.Core.List.{List}
use native.Mathlib.Omega.{arith}
use native.Mathlib.Decide.{dec_lt}
use lib.Dec.{leb, eqb}
use borrow.Author.Tests.{eqb-true}
use Rattle.facts.specs.Sums.{bit, sum, count}
use Rattle.facts.proofs.Sums.{count_cong}
use Rattle.netlist.specs.declared.Capacities.{Capacities}
use Rattle.netlist.specs.Kinds.{arity, input, buffer}
use Rattle.netlist.specs.Records.{Netlist, fanin}
use Rattle.netlist.specs.Source.{IsSource}
use Rattle.netlist.specs.Counts.{is_input}
use Rattle.netlist.proofs.Source.{no_buffer_lem}
use Rattle.verifier.specs.Legal.{Legal, Traces}
use Rattle.verifier.specs.Legal.Traces.{here, back}
use Rattle.simulator.specs.Logic.{on, turned, ones_below, gate, next, plain}
use Rattle.simulator.proofs.Logic.{gate_cong, plain_next}

-- a buffer copies its slot
gate_buffer : (f : ℕ → Bool) → gate buffer 0 f ≡ f 0
unfolding gate ones_below count sum
gate_buffer f = go (f 0)
  where
    go : (b : Bool) → leb 1 (0 + bit (turned 0 b)) ≡ b
    go true = refl
    go false = refl

copies : (k v : ℕ) (a : Bool) (f : ℕ → Bool) → k ≡ buffer → v ≡ 0 → cond (eqb k input) a (gate k v f) ≡ f 0
copies k v a f p q = rw (p, q) (gate_buffer f)

pub next_buffer : (m : Netlist) (row : List ℕ) (held : ℕ → Bool) (i : ℕ) → (m.at i).kind ≡ buffer → (m.at i).inversion ≡ 0 →
    next m row held i ≡ held (fanin m i 0)
unfolding next
next_buffer m row held i = copies (m.at i).kind (m.at i).inversion _ (λ j. held (fanin m i j))

-- two records of one kind and inversion hold the same where their bytes of a row or their slots do
agrees : (k k' v v' : ℕ) (a b : Bool) (f g : ℕ → Bool) → k' ≡ k → v' ≡ v →
    (k ≡ input → a ≡ b) → ((j : ℕ) → j < arity k → f j ≡ g j) →
    cond (eqb k' input) a (gate k' v' f) ≡ cond (eqb k input) b (gate k v g)
agrees k k' v v' a b f g p q same slots = rw (p, q) (go (eqb k input) refl)
  where
    go : (t : Bool) → eqb k input ≡ t → cond t a (gate k v f) ≡ cond t b (gate k v g)
    go true e = same (eqb-true k input e)
    go false e = gate_cong k v f g slots

module _ (n : Netlist) (caps : Capacities) (m : Netlist) (source : IsSource n) (legal : Legal n caps m)
    (rows : ℕ → List ℕ) (state : ℕ → ℕ → Bool) (steps : ℕ)
    (step : (k i : ℕ) → k < steps → i < m.size → state (suc k) i ≡ next m (rows k) (state k) i) where
  -- the records of level L hold it
  abbrev Holds : ℕ → Type 0
  Holds L =
      (t k x d : ℕ) → k ≡ L + t → k < steps → x < m.size → (m.at x).level ≡ L → Traces m d x →
      state (suc k) x ≡ plain n (rows t) d

  -- the fanins of the records of level L held it one step before
  abbrev Held : ℕ → Type 0
  Held L =
      (t k x j d : ℕ) → k ≡ L + t → k < steps → x < m.size → (m.at x).level ≡ L → j < arity (m.at x).kind →
      Traces m d (fanin m x j) → state k (fanin m x j) ≡ plain n (rows t) d

  no_fanins : Held 0
  no_fanins t k x j d e l i v u c = absurd (omega (arith, legal.balanced x j i u))

  below : (L : ℕ) → Holds L → Held (suc L)
  below L h t zero x j d e l i v u c = absurd (omega arith)
  below L h t (suc k) x j d e l i v u c =
      h t k (fanin m x j) d (omega arith) (omega arith) (legal.named x j i u) (omega (arith, legal.balanced x j i u)) c

  -- what stands at its old index is no buffer
  old : (x : ℕ) → x < m.size → (m.at x).kind ≢ buffer → x < n.size
  old x i b =
      elim (dec_lt x n.size) [ yes h ↦ h | no h ↦ absurd (b (legal.buffers x (omega arith) i).kind) ]

  holds : (L : ℕ) → Held L → Holds L
  unfolding next
  holds L h t k x d e l i v (here q b) =
      subst (λ (y : ℕ). state (suc k) x ≡ plain n (rows t) y) q
      (step k x l i
      ∙ agrees (n.at x).kind (m.at x).kind (n.at x).inversion (m.at x).inversion _ _ _ _
      kept.kind kept.inversion given slots
      ∙ sym (plain_next n source (rows t) x o))
    where
      o : x < n.size
      o = old x i b

      kept : Rattle.verifier.specs.Legal.Kept (n.at x) (m.at x)
      kept = legal.kept x o

      given : (n.at x).kind ≡ input → on (rows k) (count (is_input m) x) ≡ on (rows t) (count (is_input n) x)
      given p =
          ap₂ (λ (a b : ℕ). on (rows a) b)
          (let z : k ≡ t = omega (arith, source.inputs x o p, kept.level) in z)
          (count_cong _ _ x (λ y u. ap (λ (c : ℕ). eqb c input) (legal.kept y (omega (arith, o))).kind))

      slots : (j : ℕ) → j < arity (n.at x).kind → state k (fanin m x j) ≡ plain n (rows t) (fanin n x j)
      slots j u =
          h t k x j (fanin n x j) e l i v (subst (λ (c : ℕ). j < arity c) (sym kept.kind) u) (legal.traced x j o u)
  holds L h t k x d e l i v (back b c) =
      step k x l i
      ∙ copies (m.at x).kind (m.at x).inversion _ _ b still
      ∙ h t k x 0 d e l i v (subst (λ (c : ℕ). 0 < arity c) (sym b) (omega arith)) c
    where
      still : (m.at x).inversion ≡ 0
      still =
          elim (dec_lt x n.size) [
            | yes o ↦ absurd (no_buffer_lem n source x o (legal.kept x o).kind b)
            | no o ↦ (legal.buffers x (omega arith) i).inversion
          ]

  pub wave : (L : ℕ) → Holds L
  wave zero = holds zero no_fanins
  wave (suc L) = holds (suc L) (below L (wave L))
