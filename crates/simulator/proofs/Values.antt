-- Laws of a record's value, with premises as the code has them.
use Prim.Native.Nat.{ℕ, zero, suc, ◌+◌, ◌/◌, ◌^◌, ◌≤◌}
use mathlib.Core.Path.{◌≡◌, refl, sym, ◌∙◌}
use mathlib.Core.Bool.{Bool, true, false, cond}
use mathlib.Core.List.{List}
use native.Mathlib.Omega.{arith}
use native.Mathlib.Nat.{add-zero, zero-add}
use lib.Dec.{leb, eqb}
use Rattle.std.specs.Int.{from_bool}
use borrow.Author.Tests.{leb-true, eq-eqb, ne_eqb}
use Rattle.facts.specs.Sums.{bit, sum, count}
use Rattle.facts.proofs.Bools.{and_r}
use Rattle.facts.proofs.Chains.{one_bit}
use Rattle.netlist.specs.declared.Record.{Record}
use Rattle.netlist.specs.Kinds.{arity, input, and, or, majority, is_gate}
use Rattle.netlist.specs.Records.{slot}
use Rattle.simulator.specs.PrivateLogic.{read_in, third_in, function_in, value_in}
use Rattle.simulator.specs.Logic.{on, turned, ones_below, gate}

-- AND and OR are the majority of two values and a constant
and_two : (a b : Bool) → leb 2 (bit a + bit b + 0) ≡ leb 2 (0 + bit a + bit b)
and_two a b = rw (add-zero (bit a + bit b), zero-add (bit a)) refl

or_two : (a b : Bool) → leb 2 (bit a + bit b + 1) ≡ leb 1 (0 + bit a + bit b)
or_two true true = refl
or_two true false = refl
or_two false true = refl
or_two false false = refl

alone : (a : Bool) → a ≡ leb 1 (0 + bit a)
alone true = refl
alone false = refl

gate_low : (kind : ℕ) → is_gate kind ≡ true → kind ≤ majority
gate_low kind g = leb-true kind majority (and_r (leb and kind) (leb kind majority) g)

-- a gate is the majority of its first two slots and the third value; other kinds copy their slot, or use none and are 0
module _ (inversion : ℕ) (fanins : ℕ → Bool) where
  -- what slot j reads
  abbrev reads : ℕ → Bool
  reads j = turned (inversion / 2 ^ j) (fanins j)

  gate_majority : (kind : ℕ) → is_gate kind ≡ true → leb 2 (bit (reads 0) + bit (reads 1) + bit (cond (eqb kind majority) (reads 2) (eqb kind or))) ≡ gate kind inversion fanins
  unfolding gate ones_below count sum
  gate_majority zero g = cc
  gate_majority (suc zero) g = and_two (reads 0) (reads 1)
  gate_majority (suc (suc zero)) g = or_two (reads 0) (reads 1)
  gate_majority (suc (suc (suc zero))) g = rw (zero-add (bit (reads 0))) refl
  gate_majority (suc (suc (suc (suc k)))) g = absurd (omega (arith, gate_low (suc (suc (suc (suc k)))) g))

  gate_none : (kind : ℕ) → arity kind ≡ 0 → false ≡ gate kind inversion fanins
  unfolding gate ones_below count sum
  gate_none zero e = refl
  gate_none (suc zero) e = absurd (omega (arith, e))
  gate_none (suc (suc zero)) e = absurd (omega (arith, e))
  gate_none (suc (suc (suc zero))) e = absurd (omega (arith, e))
  gate_none (suc (suc (suc (suc zero)))) e = absurd (omega (arith, e))
  gate_none (suc (suc (suc (suc (suc zero))))) e = absurd (omega (arith, e))
  gate_none (suc (suc (suc (suc (suc (suc k)))))) e = refl

  gate_copy : (kind : ℕ) → is_gate kind ≡ false → (arity kind ≡ 0 → ⊥) → reads 0 ≡ gate kind inversion fanins
  unfolding gate ones_below count sum
  gate_copy zero g u = absurd (u refl)
  gate_copy (suc zero) g u = cc
  gate_copy (suc (suc zero)) g u = cc
  gate_copy (suc (suc (suc zero))) g u = cc
  gate_copy (suc (suc (suc (suc zero)))) g u = alone (reads 0)
  gate_copy (suc (suc (suc (suc (suc zero))))) g u = alone (reads 0)
  gate_copy (suc (suc (suc (suc (suc (suc k)))))) g u = absurd (u refl)

-- the function of a record, as the code has it
module _ (r : Record) (held : List ℕ) where
  pub function_none : (n : ℕ) → n ≡ arity r.kind → n ≡ 0 → false ≡ function_in r held
  unfolding function_in
  function_none n e z = gate_none r.inversion (λ j. on held (slot r j)) r.kind (sym e ∙ z)

  module _ (g : Bool) (is : g ≡ is_gate r.kind) where
    pub function_majority : (a b c v : Bool) → g ≡ true → a ≡ read_in r held 0 → b ≡ read_in r held 1 → c ≡ third_in r held → v ≡ leb 2 (bit a + bit b + bit c) → v ≡ function_in r held
    unfolding function_in
    function_majority a b c v t e f h q = q ∙ rw (e, f, h) (gate_majority r.inversion (λ j. on held (slot r j)) r.kind (sym is ∙ t))

    pub function_copy : (v : Bool) (n : ℕ) → g ≡ false → n ≡ arity r.kind → (n ≡ 0 → ⊥) → v ≡ read_in r held 0 → v ≡ function_in r held
    unfolding function_in
    function_copy v n t e u q = q ∙ gate_copy r.inversion (λ j. on held (slot r j)) r.kind (sym is ∙ t) (λ z. u (e ∙ z))

module _ (r : Record) (row held : List ℕ) (given b : ℕ) where
  pub value_input : (v : Bool) → r.kind ≡ input → v ≡ on row given → b ≡ from_bool v → b ≡ bit (value_in r (on row given) held)
  unfolding value_in
  value_input v k f g = g ∙ one_bit v ∙ rw (f, eq-eqb r.kind input k)

  pub value_gate : (v : Bool) → (r.kind ≡ input → ⊥) → v ≡ function_in r held → b ≡ from_bool v → b ≡ bit (value_in r (on row given) held)
  unfolding value_in function_in
  value_gate v k f g = g ∙ one_bit v ∙ rw (f, ne_eqb r.kind input k)
