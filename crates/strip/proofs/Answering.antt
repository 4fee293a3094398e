-- The call's answer from its parts: 1, then 24 by sizes, by 14 and 15 and by the verifier, then 25.
use Prim.Native.Nat.{ℕ, ◌-◌, ◌*◌, ◌^◌, ◌%◌, ◌≤◌, ◌<◌}
use native.Mathlib.Omega.{arith}
use mathlib.Core.Path.{◌≡◌, sym, ap, ◌∙◌}
use mathlib.Core.Logic.{◌≢◌}
use mathlib.Core.Bool.{Bool, true, false}
use mathlib.Core.List.{List, ◌++◌}
use lib.ListN.{length, take, drop}
use lib.Seq.{take_at}
use borrow.Author.Tests.{lt-ltb, le-ltb}
use Rattle.facts.specs.Answers.{Checked, Passed, Refused as Failed}
use Rattle.facts.specs.Areas.{onto}
use Rattle.facts.specs.Checks.{check, unless_refused}
use Rattle.facts.proofs.Reflect.{refuses_some, then_go, then_stop, stop_kept, go_written}
use Rattle.facts.proofs.Refusals.{passed_refused}
use Rattle.netlist.specs.declared.Capacities.{Capacities}
use Rattle.netlist.specs.Kinds.{width, source_limit, mapped_limit}
use Rattle.netlist.specs.Records.{netlist, record_count}
use Rattle.netlist.specs.Checks.{capacity_checks}
use Rattle.verifier.specs.Accepted.{Accepted}
use Rattle.verifier.specs.Checks.{verify_checks}
use Rattle.verifier.proofs.Accepted.{checks_passed, accepted_exactly}
use Rattle.strip.specs.Answer.{Records, Refused}
use Rattle.strip.specs.Answer.{source_size, stripped_bytes, sourceless_check, room_check, stripping_checks, strip_checks, strip_answer, strip_area}
use Rattle.strip.specs.PrivateTracing.{stripping_area, SizesFit, LeftWritten}
use Rattle.strip.proofs.Sources.{length_left, count_left}
use Rattle.strip.proofs.Fanins.{legal_passes}
use Rattle.strip.proofs.Promises.{passed_source}

-- the verifier does not accept what is left
pub record NoneLeft (caps : Capacities) (mapped : List ℕ) : Type 0 where
  pub none : Accepted (stripped_bytes mapped) caps mapped → ⊥

module _ (caps : Capacities) (mapped : List ℕ) where
  pub ragged : length mapped % width ≢ 0 → NoneLeft caps mapped
  ragged h = record { none = λ a. h a.whole }

  pub too_large_lem : (m : ℕ) → m ≡ record_count mapped → mapped_limit < m → NoneLeft caps mapped
  too_large_lem m e h = record { none = λ a. omega (arith, a.fits) }

  pub too_many_lem : (n : ℕ) → n ≡ source_size (netlist mapped) → source_limit < n → NoneLeft caps mapped
  too_many_lem n e h = record { none = λ a. omega (arith, a.is_source.is_source.few, count_left mapped) }

  pub unfit : (b : Bool) (before after : List ℕ) → LeftWritten mapped b before after → b ≡ false → NoneLeft caps mapped
  unfit b before after w t =
      record { none = λ a. w.bad t (legal_passes (netlist (stripped_bytes mapped)) caps (netlist mapped) (source_size (netlist mapped)) (sym (count_left mapped)) a.legal) }

  judged_none : (number place : ℕ) → Failed number place ≡ verify_checks (stripped_bytes mapped) caps mapped → NoneLeft caps mapped
  judged_none number place e =
      record { none = λ a. passed_refused number place (sym ((checks_passed (stripped_bytes mapped) caps mapped).1 a) ∙ sym e) }

  -- then 24 is answered, and the area stays
  none_refuses : NoneLeft caps mapped → sourceless_check caps mapped ≡ Failed 24 0
  none_refuses n =
      ap (check 24 0) ((refuses_some (verify_checks (stripped_bytes mapped) caps mapped)).1 (λ e. n.none ((checks_passed (stripped_bytes mapped) caps mapped).0 e)))

  module _ (area : List ℕ) where
    pub none_answered : NoneLeft caps mapped → Failed 24 0 ≡ stripping_checks caps mapped area
    unfolding stripping_checks
    none_answered n = then_stop (sourceless_check caps mapped) (room_check (stripped_bytes mapped) area) 24 0 (sym (none_refuses n))

    pub none_kept : NoneLeft caps mapped → area ≡ stripping_area caps mapped area
    none_kept n = rw (← none_answered n)

    -- the verifier decides
    module _ (source : List ℕ) (s : source ≡ stripped_bytes mapped) where
      pub judged_refused : (number place : ℕ) → Failed number place ≡ verify_checks source caps mapped → NoneLeft caps mapped
      judged_refused number place e = judged_none number place (e ∙ ap (λ (l : List ℕ). verify_checks l caps mapped) s)

      module _ (e : Passed ≡ verify_checks source caps mapped) where
        passes : Passed ≡ sourceless_check caps mapped
        passes = rw (← s, ← e)

        pub judged_answered : (a : Checked) → a ≡ room_check source area → a ≡ stripping_checks caps mapped area
        unfolding stripping_checks
        judged_answered a f = then_go (sourceless_check caps mapped) (room_check (stripped_bytes mapped) area) a passes (f ∙ ap (λ (l : List ℕ). room_check l area) s)

        pub judged_written : (after : List ℕ) → after ≡ unless_refused (room_check source area) (onto source area) area →
            after ≡ stripping_area caps mapped area
        unfolding stripping_checks
        judged_written after f = go_written (sourceless_check caps mapped) (room_check (stripped_bytes mapped) area) (onto (stripped_bytes mapped) area) area after passes (rw s at f)

-- what is left, as a part of the array that it was written into
pub left_part : (mapped : List ℕ) (n all : ℕ) (b : Bool) (before after : List ℕ) → SizesFit (netlist mapped) n all → LeftWritten mapped b before after → b ≡ true →
    take (width * n - 0) after ≡ stripped_bytes mapped
left_part mapped n all b before after c w t =
    let z : length (stripped_bytes mapped) ≡ width * n - 0 = omega (arith, length_left mapped, c.size) in
    ap (take (width * n - 0)) (w.good t) ∙ take_at (stripped_bytes mapped) _ (width * n - 0) z

-- 25, then the source at the start of the area
module _ (source area : List ℕ) where
  pub short_refused : length area < length source → Failed 25 0 ≡ room_check source area
  short_refused h = rw (lt-ltb (length area) (length source) h)

  pub short_kept : length area < length source → area ≡ unless_refused (room_check source area) (onto source area) area
  short_kept h = rw (lt-ltb (length area) (length source) h)

  module _ (h : length source ≤ length area) where
    pub room_passed : Passed ≡ room_check source area
    room_passed = rw (le-ltb (length area) (length source) h)

    pub room_written : (part : List ℕ) → part ≡ source →
        part ++ drop (length source) area ≡ unless_refused (room_check source area) (onto source area) area
    room_written part e = rw (e, le-ltb (length area) (length source) h)

-- 1, then the rest
module _ (caps : Capacities) (mapped area : List ℕ) where
  pub allowed_answered : (a : Checked) → Passed ≡ capacity_checks caps → a ≡ stripping_checks caps mapped area → a ≡ strip_checks caps mapped area
  unfolding strip_checks
  allowed_answered a e f = then_go (capacity_checks caps) (stripping_checks caps mapped area) a e f

  pub allowed_written : (after : List ℕ) → Passed ≡ capacity_checks caps → after ≡ stripping_area caps mapped area →
      after ≡ strip_area caps mapped area
  unfolding strip_checks
  allowed_written after e f = go_written (capacity_checks caps) (stripping_checks caps mapped area) (onto (stripped_bytes mapped) area) area after e f

  module _ (number place : ℕ) (e : Failed number place ≡ capacity_checks caps) where
    pub capacity_refused : Failed number place ≡ strip_checks caps mapped area
    unfolding strip_checks
    capacity_refused = then_stop (capacity_checks caps) (stripping_checks caps mapped area) number place e

    pub capacity_kept : area ≡ strip_area caps mapped area
    unfolding strip_checks
    capacity_kept = stop_kept (capacity_checks caps) (stripping_checks caps mapped area) (onto (stripped_bytes mapped) area) area number place e

-- the answer of the whole
module _ (caps : Capacities) (mapped area : List ℕ) where
  module _ (e : Passed ≡ strip_checks caps mapped area) (n : ℕ) (f : n ≡ source_size (netlist mapped)) where
    pub size_fits : n < 2 ^ 32
    size_fits =
        let s = (passed_source caps mapped area (sym e)).0 in
        omega (arith, ((accepted_exactly (stripped_bytes mapped) caps mapped s.buffers).0 s.accepted).0.is_source.is_source.few, count_left mapped)

    pub strip_passed : Records n ≡ strip_answer caps mapped area
    strip_passed = rw (← e, f)

  pub strip_refused : (number place : ℕ) → Failed number place ≡ strip_checks caps mapped area → Refused number place ≡ strip_answer caps mapped area
  strip_refused number place e = rw (← e)
