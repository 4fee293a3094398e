-- The promises about the call: its answer is a refusal exactly by its checks, and otherwise what is counted from the driver's row.
use Prim.Native.Nat.{ℕ, ◌<◌}
use mathlib.Core.Path.{◌≡◌, refl, sym, ◌∙◌, ap, subst}
use mathlib.Core.Bool.{Bool, true, false, not}
use mathlib.Core.List.{List}
use mathlib.Core.Logic.{◌↔◌, inl, inr, ⊎_elim}
use native.Mathlib.Decide.{dec_lt}
use native.Mathlib.Omega.{arith}
use borrow.Author.Tests.{not-false, not-true}
use Rattle.facts.specs.Answers.{Checked}
use Rattle.facts.specs.Answers as checked
use Rattle.facts.specs.Checks.{outcome}
use Rattle.facts.specs.Refusals.{row_of, First, FirstAt}
use Rattle.facts.proofs.Refusals.{exact, rows_before, one_row, first_check, first_after}
use Rattle.facts.proofs.Reflect.{check_passed, then_passed}
use Rattle.netlist.specs.declared.Capacities.{Capacities}
use Rattle.netlist.specs.Kinds.{is_driver}
use Rattle.netlist.specs.Capacities.{capacity_of}
use Rattle.netlist.specs.Records.{netlist, record_at, record_count}
use Rattle.netlist.specs.Checks.{input_checks}
use Rattle.netlist.specs.Source.{Source}
use Rattle.netlist.specs.declared.Record.{Record}
use Rattle.netlist.proofs.Records.{record_past}
use Rattle.netlist.proofs.Source.{input_passed, is_output_lem, driver_inside}
use Rattle.netlist.proofs.Refusals.{input_rows, input_first}
use Rattle.netlist.specs.PrivateInput.{Input}
use Rattle.fanout.specs.declared.Count.{Count}
use Rattle.fanout.specs.declared.Count.TheVariants.{Fewest, NoTree, Refused}
use Rattle.fanout.specs.Nets.{row}
use Rattle.fanout.specs.Trees.{Net, net_of}
use Rattle.fanout.specs.Answer.{net_count, count_checks, count_answer}
use Rattle.fanout.specs.Promises.{
  Says,
  NetSays,
  Asked,
  NoTreeExactly,
  FewestExactly,
  RefusedExactly,
  NoDriver,
  CountFails,
  CountExact,
}
use Rattle.fanout.proofs.Rows.{row_of_net}
use Rattle.fanout.proofs.Promises.{count_true}

module _ (source : List ℕ) (caps : Capacities) (d : ℕ) where
  abbrev counted : Count
  counted = net_count (netlist source) caps d

  -- the checks pass exactly if a driver is asked for
  asked : (count_checks source caps d ≡ checked.Passed) → Asked source caps d
  asked e =
      let h = (then_passed (input_checks source caps) _).0 e in
      record { passed = h.0; driver = not-false _ ((check_passed 20 d _).0 h.1) }

  passes : Asked source caps d → count_checks source caps d ≡ checked.Passed
  passes a =
      (then_passed (input_checks source caps) _).1 (a.passed, (check_passed 20 d _).1 (ap not a.driver))

  -- the answer, by the checks
  by_checks : (c : Checked) → count_checks source caps d ≡ c → count_answer source caps d ≡ outcome c counted Refused
  unfolding count_answer
  by_checks c e = ap (λ (x : Checked). outcome x counted Refused) e

  -- what is counted is true of the net
  true_of : Asked source caps d → NetSays (netlist source) caps d counted
  true_of a =
      let i = input_passed source caps a.passed in
      count_true (capacity_of caps (record_at source d).kind) caps.buffer (net_of (netlist source) d) (row (netlist source) d)
      (omega (arith, i.allowed.low))
      (row_of_net (netlist source) d i.is_source.is_source)

  -- an answer other than a refusal is asked for, counted, and true of the net
  answered : (c : Checked) → count_checks source caps d ≡ c → (a : Count) → ((n p : ℕ) → a ≡ Refused n p → ⊥) →
      count_answer source caps d ≡ a → Asked source caps d × NetSays (netlist source) caps d a
  answered checked.Passed e a other h =
      (asked e, subst (NetSays (netlist source) caps d) (sym (by_checks checked.Passed e) ∙ h) (true_of (asked e)))
  answered (checked.Refused n p) e a other h = absurd (other n p (sym h ∙ by_checks (checked.Refused n p) e))

-- two answers that are true of one net are one
says_once : (c s : ℕ) (net : Net) (a b : Count) → Says c s net a → Says c s net b → a ≡ b
says_once c s net (Fewest m) (Fewest n) x y =
    ap Fewest (omega (arith, x.least y.tree y.legal, y.least x.tree x.legal, x.size, y.size))
says_once c s net (Fewest m) NoTree x y = absurd (y x.tree x.legal)
says_once c s net NoTree (Fewest n) x y = absurd (x y.tree y.legal)
says_once c s net NoTree NoTree x y = refl
says_once c s net (Fewest m) (Refused n p) x y = absurd y
says_once c s net NoTree (Refused n p) x y = absurd y
says_once c s net (Refused n p) b x y = absurd x

-- asked for a driver, the call gives the one answer that is true of its net
gives : (source : List ℕ) (caps : Capacities) (d : ℕ) (a : Count) →
    Asked source caps d → NetSays (netlist source) caps d a → count_answer source caps d ≡ a
gives source caps d a q says =
    by_checks source caps d checked.Passed (passes source caps d q)
    ∙ says_once _ _ _ (counted source caps d) a (true_of source caps d q) says

pub no_tree_exactly : NoTreeExactly
no_tree_exactly source caps d = (
  answered source caps d (count_checks source caps d) refl NoTree (λ n p e. let z : ◌≡◌ {A = ℕ} 0 1 = cc in omega arith),
  λ x. gives source caps d NoTree x.0 x.1,
)

pub fewest_exactly : FewestExactly
fewest_exactly source caps d n = (
  answered source caps d (count_checks source caps d) refl (Fewest n) (λ n p e. let z : ◌≡◌ {A = ℕ} 0 1 = cc in omega arith),
  λ x. gives source caps d (Fewest n) x.0 x.1,
)

-- in a source 20 is answered exactly for a record that is absent or an output
pub driver_is : (source : List ℕ) (d : ℕ) → Source source → (not (is_driver (record_at source d).kind) ≡ true) ↔ NoDriver source d
driver_is source d h =
    (there, ⊎_elim (λ l. ap (λ (r : Record). not (is_driver r.kind)) (record_past source d l)) (ap (λ (kind : ℕ). not (is_driver kind))))
  where
    there : not (is_driver (record_at source d).kind) ≡ true → NoDriver source d
    there e =
        elim (dec_lt d (record_count source)) [
          | yes l ↦ inr (is_output_lem (netlist source) h.is_source d l (not-true _ e))
          | no g ↦ inl (omega arith)
        ]

count_first : (source : List ℕ) (caps : Capacities) (d : ℕ) → First (CountFails source caps d) (count_checks source caps d)
count_first source caps d =
    first_after (rows_before (row_of 7) (input_rows source caps) (λ n p f. omega (arith, one_row 20 d (NoDriver source d) n p f)))
    (input_first source caps)
    (λ e. first_check 20 d (driver_is source d (input_passed source caps e).is_source))

pub count_exact : CountExact
count_exact source caps d = exact (count_first source caps d)

pub refused_exactly : RefusedExactly
refused_exactly source caps d number place = (there (count_checks source caps d) refl, back)
  where
    there : (c : Checked) → count_checks source caps d ≡ c → count_answer source caps d ≡ Refused number place →
        FirstAt (CountFails source caps d) number place
    there checked.Passed e h =
        absurd
        (subst (NetSays (netlist source) caps d) (sym (by_checks source caps d checked.Passed e) ∙ h)
        (true_of source caps d (asked source caps d e)))
    there (checked.Refused n p) e h =
        (count_first source caps d).fails number place (cc (by_checks source caps d (checked.Refused n p) e))

    back : FirstAt (CountFails source caps d) number place → count_answer source caps d ≡ Refused number place
    back f =
        by_checks source caps d (checked.Refused number place) (((count_exact source caps d).refused number place).1 f)

-- the call's answer, with premises as the code has them
module _ (source : List ℕ) (caps : Capacities) (d : ℕ) where
  pub call_refused : (number place n : ℕ) → checked.Refused number place ≡ input_checks source caps → n ≡ number → Refused n place ≡ count_answer source caps d
  unfolding count_answer
  call_refused number place n p e = rw (← p, e)

  module _ (e : checked.Passed ≡ input_checks source caps) where
    pub call_input : Input source caps
    call_input = input_passed source caps (sym e)

    module _ (kind : ℕ) (b : Bool) (k : kind ≡ (record_at source d).kind) (q : b ≡ is_driver kind) where
      pub call_present : b ≡ true → d < record_count source
      call_present t = driver_inside source d (ap is_driver (sym k) ∙ sym q ∙ t)

      pub call_counted : (a : Count) → b ≡ true → a ≡ net_count (netlist source) caps d → a ≡ count_answer source caps d
      unfolding count_answer
      call_counted a t h = h ∙ rw (← e, ← k, ← q, t)

      pub call_no_driver : (n : ℕ) → b ≡ false → n ≡ 20 → Refused n d ≡ count_answer source caps d
      unfolding count_answer
      call_no_driver n t h = rw (← e, ← k, ← q, t, h)
