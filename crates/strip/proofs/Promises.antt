-- The promises of stripping: there is one source at most, and it is what is left; so 24 and 25 are exact, and what is written is the source.
use Prim.Native.Nat.{ℕ, ◌≤◌}
use native.Mathlib.Omega.{arith}
use mathlib.Core.Path.{◌≡◌, refl, sym, ap, ◌∙◌}
use mathlib.Core.Logic.{◌↔◌, ⊎_elim}
use mathlib.Core.Bool.{true}
use mathlib.Core.List.{List}
use lib.ListN.{length}
use lib.Dec.{ltb}
use borrow.Author.Tests.{ltb-true, ltb-false, lt-ltb, le-ltb}
use Rattle.facts.specs.Answers.{Checked, Passed, Refused as Failed}
use Rattle.facts.specs.Checks.{outcome, refuses}
use Rattle.facts.specs.Areas.{onto}
use Rattle.facts.specs.Refusals.{row_of, First}
use Rattle.facts.proofs.Reflect.{check_passed, then_passed, refuses_some, refuses_none}
use Rattle.facts.proofs.Refusals.{Numbered, exact, row_positive, rows_before, one_row, first_check, first_then, first_after}
use Rattle.netlist.specs.declared.Capacities.{Capacities}
use Rattle.netlist.specs.Records.{netlist, record_count}
use Rattle.netlist.specs.Checks.{capacity_checks}
use Rattle.netlist.proofs.Refusals.{capacities_rows, capacities_first}
use Rattle.netlist.proofs.Source.{capacities_passed}
use Rattle.verifier.specs.Checks.{verify_checks}
use Rattle.verifier.proofs.Accepted.{checks_passed, accepted_exactly}
use Rattle.strip.specs.Answer.{Records, Refused}
use Rattle.strip.specs.Sources.{SourceOf}
use Rattle.strip.specs.Answer.{source_size, stripped_bytes, sourceless_check, room_check, stripping_checks, strip_checks}
use Rattle.strip.specs.Promises.{OneSource, NoSource, NoRoom, StripFails, StripExact, StripAccepts, StripWrites, StripKeeps}
use Rattle.strip.proofs.Sources.{stripped_source_lem, count_left, source_left}

pub one_source_lem : OneSource
one_source_lem caps mapped a b s t = sym (stripped_source_lem caps mapped a s) ∙ stripped_source_lem caps mapped b t

module _ (caps : Capacities) (mapped : List ℕ) where
  -- the verifier passes a source of the mapped netlist, so it passes what is left
  left_passed : (source : List ℕ) → SourceOf caps mapped source → verify_checks (stripped_bytes mapped) caps mapped ≡ Passed
  left_passed source s =
      rw (stripped_source_lem caps mapped source s)
      ((checks_passed source caps mapped).1 ((accepted_exactly source caps mapped s.buffers).0 s.accepted).0)

  none_is : (refuses (verify_checks (stripped_bytes mapped) caps mapped) ≡ true) ↔ NoSource caps mapped
  none_is = (
    λ e source s. (refuses_some (verify_checks (stripped_bytes mapped) caps mapped)).0 e (left_passed source s),
    λ none. (refuses_some (verify_checks (stripped_bytes mapped) caps mapped)).1 (λ e. none (stripped_bytes mapped) (source_left caps mapped e)),
  )

  source_passed : sourceless_check caps mapped ≡ Passed → SourceOf caps mapped (stripped_bytes mapped)
  source_passed e = source_left caps mapped ((refuses_none _).0 ((check_passed 24 0 _).0 e))

  short_is : (area : List ℕ) → sourceless_check caps mapped ≡ Passed → (ltb (length area) (length (stripped_bytes mapped)) ≡ true) ↔ NoRoom caps mapped area
  short_is area e = (
    λ f. (stripped_bytes mapped, source_passed e, ltb-true _ _ f),
    λ t. lt-ltb (length area) (length (stripped_bytes mapped)) (omega (arith, ap length (stripped_source_lem caps mapped t.0 t.1), t.2)),
  )

strip_first : (caps : Capacities) (mapped area : List ℕ) → First (StripFails caps mapped area) (strip_checks caps mapped area)
unfolding strip_checks stripping_checks
strip_first caps mapped area =
    first_then
    (rows_before (row_of 26) (λ n p f. (capacities_rows caps n p f).1)
    (λ n p. ⊎_elim (λ f. omega (arith, one_row 24 0 _ n p f)) (λ f. omega (arith, one_row 25 0 _ n p f))))
    (capacities_first caps)
    (first_after
    (rows_before (row_of 24) (λ n p f. omega (arith, one_row 24 0 _ n p f)) (λ n p f. omega (arith, one_row 25 0 _ n p f)))
    (first_check 24 0 (none_is caps mapped))
    (λ e. first_check 25 0 (short_is caps mapped area e)))

pub strip_exact : StripExact
strip_exact caps mapped area = exact (strip_first caps mapped area)

-- no refusal has number 0
pub strip_numbered : (caps : Capacities) (mapped area : List ℕ) → Numbered (StripFails caps mapped area)
strip_numbered caps mapped area n p =
    ⊎_elim (λ f. row_positive n (row_of 0) (capacities_rows caps n p f).0) (⊎_elim (λ f. omega (arith, f.0)) (λ f. omega (arith, f.0)))

-- what passing gives, and what gives it
module _ (caps : Capacities) (mapped area : List ℕ) where
  pub passed_source : strip_checks caps mapped area ≡ Passed → SourceOf caps mapped (stripped_bytes mapped) × (length (stripped_bytes mapped) ≤ length area)
  unfolding strip_checks stripping_checks
  passed_source e =
      let late = (then_passed (sourceless_check caps mapped) _).0 ((then_passed (capacity_checks caps) _).0 e).1 in
      (source_passed caps mapped late.0, ltb-false _ _ ((check_passed 25 0 _).0 late.1))

  pub source_passes : (source : List ℕ) → SourceOf caps mapped source → length source ≤ length area → strip_checks caps mapped area ≡ Passed
  unfolding strip_checks stripping_checks
  source_passes source s room =
      let allowed = ((accepted_exactly source caps mapped s.buffers).0 s.accepted).0.allowed in
      (then_passed (capacity_checks caps) _).1 (
        (capacities_passed caps).1 allowed,
        (then_passed (sourceless_check caps mapped) (room_check (stripped_bytes mapped) area)).1 (
          (check_passed 24 0 _).1 ((refuses_none _).1 (left_passed caps mapped source s)),
          (check_passed 25 0 _).1 (le-ltb (length area) (length (stripped_bytes mapped)) (omega (arith, ap length (stripped_source_lem caps mapped source s)))),
        ),
      )

passed_records : (a : Checked) (n size : ℕ) → outcome a (Records n) Refused ≡ Records size → (a ≡ Passed) × (size ≡ n)
passed_records Passed n size e = (refl, cc)
passed_records (Failed number place) n size e = (cc, cc)

refused_failed : (a : Checked) (n number place : ℕ) → outcome a (Records n) Refused ≡ Refused number place → a ≡ Failed number place
refused_failed Passed n number place e = cc
refused_failed (Failed m q) n number place e = cc

pub strip_accepts : StripAccepts
strip_accepts caps mapped area size = (
  λ e.
      let f = passed_records _ _ size e in
      let g = passed_source caps mapped area f.0 in
      (stripped_bytes mapped, g.0, g.1, f.1 ∙ sym (count_left mapped)),
  λ g.
      rw (source_passes caps mapped area g.0 g.1 g.2, g.3)
      (ap Records (sym (count_left mapped) ∙ ap record_count (stripped_source_lem caps mapped g.0 g.1))),
)

pub strip_writes : StripWrites
strip_writes caps mapped area source s room =
    rw (source_passes caps mapped area source s room) (ap (λ (l : List ℕ). onto l area) (stripped_source_lem caps mapped source s))

pub strip_keeps_lem : StripKeeps
strip_keeps_lem caps mapped area number place e =
    rw (refused_failed (strip_checks caps mapped area) (source_size (netlist mapped)) number place e)
