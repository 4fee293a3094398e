-- The verifier accepts exactly the legal mapped netlists: each check is read as the fact that it tests. Their buffers are all the
-- records from the source's size on.
use Prim.Native.Nat.{ℕ, ◌+◌, ◌-◌, ◌^◌, ◌≤◌, ◌<◌}
use mathlib.Core.Path.{◌≡◌, refl, sym, subst, ◌∙◌}
use lib.ListN.{get_or-replicate}
use mathlib.Core.Logic.{◌↔◌}
use mathlib.Core.List.{List}
use borrow.Author.Tests.{eqb-true, eq-eqb}
use native.Mathlib.Omega.{arith}
use native.Mathlib.Nat.{add-sub_of_le}
use Rattle.facts.specs.Sums.{count}
use Rattle.facts.specs.Answers.{Passed, Refused as Failed}
use Rattle.facts.specs.Answers.{Checked}
use Rattle.facts.specs.Checks.{outcome}
use Rattle.facts.proofs.Reflect.{reflect}
use Rattle.facts.proofs.Sums.{count_append, count_none, count_all}
use Rattle.netlist.specs.declared.Capacities.{Capacities}
use Rattle.netlist.specs.Kinds.{slots, unused, buffer, arity}
use Rattle.netlist.specs.Records.{Netlist, netlist, record_count, fanin}
use Rattle.netlist.specs.Source.{IsSource}
use Rattle.netlist.specs.Balance.{Named, Balanced}
use Rattle.netlist.specs.Counts.{is_buffer, buffer_count}
use Rattle.netlist.proofs.Source.{source_passed, no_buffer_lem}
use Rattle.verifier.specs.Legal.{Legal, Traces}
use Rattle.verifier.specs.Checks.{legal_checks, mapped_checks, verify_checks, verify_answer}
use Rattle.verifier.specs.Accepted.{Accepted, AcceptedExactly}
use Rattle.verifier.specs.Checks.{Buffers, Refused}
use Rattle.verifier.proofs.Trace.{driver_traces, traces_driver}

module _ (n : Netlist) (caps : Capacities) (m : Netlist) where
  passed_legal : n.size ≤ m.size → legal_checks n caps m ≡ Passed → Legal n caps m
  unfolding legal_checks
  passed_legal whole h =
      let f = simp reflect at h in
      let named : Named m = λ k j l u. ((f.0 k l).1.0 j u).0 in
      let balanced : Balanced m = λ k j l u. (f.0 k l).1.1 j u in
      record {
        whole = whole;
        kept = λ k l.
            let a = (f.0 k (omega arith)).0.0 l in
            record { kind = a.0; inversion = a.1.0; level = a.1.1.0; empty = a.1.1.1 };
        buffers = λ k l b.
            let a = (f.0 k b).0.1 l in
            record {
              kind = a.0;
              inversion = a.1.0;
              level = a.1.1.0;
              empty = λ j u g. a.1.1.1 j u g ∙ get_or-replicate slots j unused unused u;
            };
        named = named;
        no_output = λ k j l u. ((f.0 k l).1.0 j u).1;
        balanced = balanced;
        traced = λ k j l u.
            let uses : j < arity (m.at k).kind = rw ((f.0 k (omega arith)).0.0 l).0 u in
            subst (λ (d : ℕ). Traces m d (fanin m k j)) (f.1.0 k l j u)
            (driver_traces m named balanced (fanin m k j) (named k j (omega arith) uses));
        branched = f.1.1;
      }

  legal_passed : Legal n caps m → legal_checks n caps m ≡ Passed
  unfolding legal_checks
  legal_passed legal =
      simp reflect (
        λ k l. (
          (
            λ b. let a = legal.kept k b in (a.kind, (a.inversion, (a.level, a.empty))),
            λ b.
                let a = legal.buffers k b l in
                (a.kind, (a.inversion, (a.level, λ j u g. a.empty j u g ∙ sym (get_or-replicate slots j unused unused u)))),
          ),
          (λ j u. (legal.named k j l u, legal.no_output k j l u), λ j u. legal.balanced k j l u),
        ),
        (
          λ k l j u.
              let b : k < m.size = omega (arith, legal.whole) in
              let uses : j < arity (m.at k).kind = rw (legal.kept k l).kind u in
              traces_driver m legal.named legal.balanced (fanin n k j) (fanin m k j) (legal.named k j b uses) (legal.traced k j l u),
          legal.branched,
        ),
      )

  -- 12 to 17 pass exactly where the mapped netlist is legal
  pub legal_exactly : n.size ≤ m.size → (legal_checks n caps m ≡ Passed) ↔ Legal n caps m
  legal_exactly whole = (passed_legal whole, legal_passed)

  -- the buffers of a legal mapped netlist are its records from the source's size on
  pub buffers_all : IsSource n → Legal n caps m → buffer_count m ≡ m.size - n.size
  unfolding buffer_count
  buffers_all source legal =
      subst (λ (size : ℕ). count (is_buffer m) size ≡ m.size - n.size) (add-sub_of_le legal.whole)
      (omega (
        arith,
        count_append (is_buffer m) n.size (m.size - n.size),
        count_none (is_buffer m) n.size (λ k l e. no_buffer_lem n source k l (legal.kept k l).kind (eqb-true (m.at k).kind buffer e)),
        count_all (λ i. is_buffer m (n.size + i)) (m.size - n.size)
            (λ i l. eq-eqb (m.at (n.size + i)).kind buffer (legal.buffers (n.size + i) (omega arith) (omega arith)).kind),
      ))

-- all checks pass exactly where the mapped bytes are a legal netlist of the source bytes, within the sizes
pub checks_passed : (source : List ℕ) (caps : Capacities) (mapped : List ℕ) → (verify_checks source caps mapped ≡ Passed) ↔ Accepted source caps mapped
unfolding verify_checks mapped_checks
checks_passed source caps mapped = (
  λ e.
      let f = simp (reflect, source_passed) at e in
      record {
        allowed = record { low = f.0.0.0.0; high = f.0.0.0.1; input_low = f.0.0.1.0; input_high = f.0.0.1.1 };
        is_source = f.0.1;
        whole = f.1.0.0;
        fits = f.1.0.1.1;
        legal = (legal_exactly (netlist source) caps (netlist mapped) f.1.0.1.0).0 f.1.1;
      },
  λ a.
      simp (reflect, source_passed, legal_exactly (netlist source) caps (netlist mapped) a.legal.whole) (
        (((a.allowed.low, a.allowed.high), (a.allowed.input_low, a.allowed.input_high)), a.is_source),
        ((a.whole, (a.legal.whole, a.fits)), a.legal),
      ),
)

passed_buffers : (a : Checked) (n buffers : ℕ) → outcome a (Buffers n) Refused ≡ Buffers buffers → (a ≡ Passed) × (buffers ≡ n)
passed_buffers Passed n buffers e = (refl, cc)
passed_buffers (Failed number place) n buffers e = (cc, cc)

-- demand 2: the verifier accepts exactly the legal mapped netlists, and answers their number of buffers
pub accepted_exactly : AcceptedExactly
accepted_exactly source caps mapped buffers = (
  λ e.
      let f = passed_buffers (verify_checks source caps mapped) (buffer_count (netlist mapped)) buffers e in
      ((checks_passed source caps mapped).0 f.0, f.1),
  λ a. rw ((checks_passed source caps mapped).1 a.0, a.1),
)

-- what the code has of an accepted call
module _ (source : List ℕ) (caps : Capacities) (mapped : List ℕ) where
  module _ (e : Passed ≡ verify_checks source caps mapped) (m n : ℕ) (g : m ≡ record_count mapped) (h : n ≡ record_count source) where
    accepted : Accepted source caps mapped
    accepted = (checks_passed source caps mapped).0 (sym e)

    pub source_first : n ≤ m
    source_first = omega (arith, accepted.legal.whole)

    pub buffers_fit : m - n < 2 ^ 32
    buffers_fit = omega (arith, accepted.fits)

    pub verify_passed : Buffers (m - n) ≡ verify_answer source caps mapped
    verify_passed =
        rw (← e, buffers_all (netlist source) caps (netlist mapped) accepted.is_source.is_source accepted.legal, g, h)

  pub answer_refused : (number place : ℕ) → Failed number place ≡ verify_checks source caps mapped → Refused number place ≡ verify_answer source caps mapped
  answer_refused number place e = rw (← e)
