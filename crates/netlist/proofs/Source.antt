-- A source passes checks 2 to 7 exactly if it is one: whole records with the facts of `IsSource`; what its kinds are, and where its outputs stand.
use Prim.Native.Nat.{ℕ, ◌%◌, ◌≤◌, ◌<◌}
use native.Mathlib.Decide.{dec_lt}
use native.Mathlib.Nat.{pow-le-pow_right}
use native.Mathlib.Omega.{arith}
use mathlib.Core.Path.{◌≡◌, refl, sym, ap, ◌∙◌}
use mathlib.Core.Logic.{◌↔◌, ◌≢◌}
use mathlib.Core.Bool.{Bool, true, false}
use mathlib.Core.List.{List}
use lib.ListN.{length}
use Rattle.facts.specs.Answers.{Passed}
use Rattle.facts.specs.Checks.{◌and_then◌}
use borrow.Author.Tests.{leb-false, eqb-true, eq-eqb, ne_eqb}
use Rattle.facts.specs.Sums.{any, seek}
use Rattle.facts.proofs.Bools.{true_false}
use Rattle.facts.proofs.Loops.{seek_none}
use Rattle.facts.proofs.Sums.{any_some, any_none}
use Rattle.facts.proofs.Reflect.{reflect, then_passed}
use Rattle.netlist.specs.declared.Record.{Record}
use Rattle.netlist.specs.Kinds.{width, slots, source_limit, majority, output, buffer, arity, is_driver}
use Rattle.netlist.specs.Records.{Netlist, netlist, record_count, record_at, is_output, depth}
use Rattle.netlist.specs.declared.Capacities.{Capacities}
use Rattle.netlist.specs.Checks.{capacity_check, capacity_checks, size_checks, source_checks, structure_checks, input_checks}
use Rattle.netlist.specs.Source.{IsSource, Source, StructuredBytes, Unlevelled, OutputsAt}
use Rattle.netlist.specs.Capacities.{Allowed}
use Rattle.netlist.specs.PrivateInput.{Input}
use Rattle.netlist.proofs.Checks.{arity_slots, invertible_slots}
use Rattle.netlist.proofs.Records.{record_past}

-- a used slot is a slot
used_slot_lem : (bytes : List ℕ) (k : ℕ) {j : ℕ} → j < arity (record_at bytes k).kind → j < slots
used_slot_lem bytes k u = omega (arith, arity_slots (record_at bytes k).kind)

pub source_passed : (bytes : List ℕ) → (source_checks bytes ≡ Passed) ↔ Source bytes
unfolding source_checks
source_passed bytes =
    simp reflect (
      λ h.
          let each = h.1 in
          record {
            whole = h.0.0;
            is_source =
                record {
                  few = h.0.1;
                  kinds = λ k l. (each k l).0.0;
                  inversions = λ k l. (each k l).0.1.0;
                  earlier = λ k j l u. (((each k l).0.1.1 j (used_slot_lem bytes k u)).0 u).0;
                  no_output = λ k j l u. (((each k l).0.1.1 j (used_slot_lem bytes k u)).0 u).1;
                  empty = λ k j l u v. ((each k l).0.1.1 j v).1 u;
                  lower = λ k j l u. (each k l).1.1 j (used_slot_lem bytes k u) u;
                  inputs = λ k l. (each k l).1.0.1.0;
                  levels = λ k l. (each k l).1.0.0;
                  outputs = λ k l. (each k l).1.0.1.1;
                };
          },
      λ s.
          let m = s.is_source in (
            (s.whole, m.few),
            λ k l. (
              (m.kinds k l, (m.inversions k l, λ j v. (λ u. (m.earlier k j l u, m.no_output k j l u), λ u. m.empty k j l u v))),
              ((m.levels k l, (m.inputs k l, m.outputs k l)), λ j v u. m.lower k j l u),
            ),
          ),
    )

-- passing 2 to 6
pub structured_passed : (bytes : List ℕ) → (structure_checks bytes ≡ Passed) ↔ StructuredBytes bytes
unfolding structure_checks
structured_passed bytes =
    simp reflect (
      λ h.
          let each = h.1 in
          record {
            whole = h.0.0;
            structured =
                record {
                  few = h.0.1;
                  kinds = λ k l. (each k l).0;
                  inversions = λ k l. (each k l).1.0;
                  earlier = λ k j l u. (((each k l).1.1 j (used_slot_lem bytes k u)).0 u).0;
                  no_output = λ k j l u. (((each k l).1.1 j (used_slot_lem bytes k u)).0 u).1;
                  empty = λ k j l u v. ((each k l).1.1 j v).1 u;
                };
          },
      λ s.
          let m = s.structured in (
            (s.whole, m.few),
            λ k l. (
              m.kinds k l,
              (m.inversions k l, λ j v. (λ u. (m.earlier k j l u, m.no_output k j l u), λ u. m.empty k j l u v)),
            ),
          ),
    )

-- passing 2 and 3, 1, 1 and 26, 1 to 6, and 1, 26 and 2 to 7
pub size_passed : (bytes : List ℕ) → (size_checks bytes ≡ Passed) ↔ ((length bytes % width ≡ 0) × (record_count bytes ≤ source_limit))
size_passed bytes = simp reflect (λ h. h, λ h. h)

pub capacity_passed : (s : ℕ) → (capacity_check s ≡ Passed) ↔ ((2 ≤ s) × (s ≤ 4))
capacity_passed s = simp reflect (λ h. h, λ h. h)

pub capacities_passed : (caps : Capacities) → (capacity_checks caps ≡ Passed) ↔ Allowed caps
capacities_passed caps =
    simp reflect (
      λ h. record { low = h.0.0; high = h.0.1; input_low = h.1.0; input_high = h.1.1 },
      λ a. ((a.low, a.high), (a.input_low, a.input_high)),
    )

pub unlevelled_passed : (bytes : List ℕ) (s : ℕ) → ((capacity_check s and_then structure_checks bytes) ≡ Passed) ↔ Unlevelled bytes s
unlevelled_passed bytes s = (
  λ e.
      let h = (then_passed (capacity_check s) (structure_checks bytes)).0 e in
      let c = (capacity_passed s).0 h.0 in
      record { low = c.0; high = c.1; source = (structured_passed bytes).0 h.1 },
  λ u.
      (then_passed (capacity_check s) (structure_checks bytes)).1
      ((capacity_passed s).1 (u.low, u.high), (structured_passed bytes).1 u.source),
)

pub input_passed : (source : List ℕ) (caps : Capacities) → input_checks source caps ≡ Passed → Input source caps
input_passed source caps e =
    let h = (then_passed (capacity_checks caps) (source_checks source)).0 e in
    record { is_source = (source_passed source).0 h.1; allowed = (capacities_passed caps).0 h.0 }

-- the kinds of a source's records
module _ (n : Netlist) (source : IsSource n) (k : ℕ) (l : k < n.size) where
  -- what has the kind of one is no buffer
  pub no_buffer_lem : {kind : ℕ} → kind ≡ (n.at k).kind → kind ≢ buffer
  no_buffer_lem e b = omega (arith, source.kinds k l)

  -- what does not drive is an output
  pub is_output_lem : is_driver (n.at k).kind ≡ false → (n.at k).kind ≡ output
  is_output_lem e = omega (arith, leb-false (n.at k).kind majority e, source.kinds k l)

  -- a kind is a byte, and so is an inversion
  pub kind_byte : (n.at k).kind < 256
  kind_byte = omega (arith, source.kinds k l)

  pub inversion_byte : (n.at k).inversion < 256
  inversion_byte = omega (arith, source.inversions k l, pow-le-pow_right {n = 2} (omega arith) (invertible_slots (n.at k).kind))

-- a driver stands within the bytes
pub driver_inside : (bytes : List ℕ) (d : ℕ) → is_driver (record_at bytes d).kind ≡ true → d < record_count bytes
driver_inside bytes d e =
    elim (dec_lt d (record_count bytes)) [
      | yes l ↦ l
      | no g ↦ absurd (true_false _ e (ap (λ (r : Record). is_driver r.kind) (record_past bytes d (omega arith))))
    ]

-- the outputs of a source stand at its depth
pub outputs_at : (bytes : List ℕ) → Source bytes → OutputsAt (netlist bytes) (depth (netlist bytes))
unfolding depth
outputs_at bytes s =
    record {
      level = s.is_source.outputs;
      none = λ h.
          let end : seek (is_output (netlist bytes)) 0 (record_count bytes) ≡ record_count bytes =
          omega (arith, seek_none (is_output (netlist bytes)) 0 (record_count bytes) (λ k a l. ne_eqb (record_at bytes k).kind output (h k (omega arith)))) in
          ap (λ (k : ℕ). (record_at bytes k).level) end ∙ ap (λ (r : Record). r.level) (record_past bytes (record_count bytes) (omega arith));
    }

-- and a netlist's outputs at one level only
pub outputs_at_one : (m : Netlist) (D E : ℕ) → OutputsAt m D → OutputsAt m E → D ≡ E
outputs_at_one m D E a b = go (any (is_output m) m.size) refl
  where
    go : (x : Bool) → any (is_output m) m.size ≡ x → D ≡ E
    go true e =
        let found = (any_some (is_output m) m.size).0 e in
        let is = eqb-true (m.at found.0).kind output found.2 in
        sym (a.level found.0 found.1 is) ∙ b.level found.0 found.1 is
    go false e =
        let none : (k : ℕ) → k < m.size → (m.at k).kind ≢ output =
        λ k l o. true_false (is_output m k) (eq-eqb (m.at k).kind output o) ((any_none (is_output m) m.size).0 e k l) in
        a.none none ∙ sym (b.none none)
