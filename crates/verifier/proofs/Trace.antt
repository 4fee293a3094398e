-- The trace by levels is the trace of specification 2.3: in a balanced netlist `driver m x` is the one place where x, traced back, ends.
-- By induction on the level, which falls by one at each buffer.
use Prim.Native.Nat.{ℕ, zero, suc, ◌≤◌, ◌<◌}
use mathlib.Core.Path.{◌≡◌, refl, sym, ◌∙◌}
use mathlib.Core.Logic.{◌≢◌}
use mathlib.Core.Bool.{Bool, true, false}
use lib.Dec.{eqb}
use borrow.Author.Tests.{eqb-true, eqb-false, eq-eqb, ne_eqb}
use native.Mathlib.Omega.{arith}
use Rattle.netlist.specs.Kinds.{buffer}
use Rattle.netlist.specs.Records.{Netlist, fanin}
use Rattle.netlist.specs.Balance.{Named, Balanced}
use Rattle.netlist.proofs.Balance.{buffer_named_lem, buffer_level}
use Rattle.verifier.specs.Legal.{Traces}
use Rattle.verifier.specs.Legal.Traces.{here, back}
use Rattle.verifier.specs.Trace.{walk, driver}

-- where no buffer stands the walk stays
pub walk_here : (m : Netlist) (level x : ℕ) → (m.at x).kind ≢ buffer → walk m level x ≡ x
unfolding walk
walk_here m zero x h = refl
walk_here m (suc level) x h = rw (ne_eqb (m.at x).kind buffer h)

-- from a buffer it goes on to the buffer's fanin
pub walk_back : (m : Netlist) (level x : ℕ) → (m.at x).kind ≡ buffer → walk m (suc level) x ≡ walk m level (fanin m x 0)
unfolding walk
walk_back m level x h = rw (eq-eqb (m.at x).kind buffer h)

-- a trace has one end
pub traces_one : {m : Netlist} {d e x : ℕ} → Traces m d x → Traces m e x → d ≡ e
traces_one (here p b) (here q c) = sym p ∙ q
traces_one (here p b) (back c t) = absurd (b c)
traces_one (back b t) (here q c) = absurd (c b)
traces_one (back b t) (back c u) = traces_one t u

module _ (m : Netlist) (named : Named m) (balanced : Balanced m) where
  walk_traces : (level x : ℕ) → x < m.size → (m.at x).level ≡ level → Traces m (walk m level x) x
  walk_traces zero x h l = rw (walk_here m 0 x none) (here refl none)
    where
      none : (m.at x).kind ≢ buffer
      none b = omega (arith, buffer_level m balanced x h b)
  walk_traces (suc level) x h l =
      go
      (eqb (m.at x).kind buffer)
      refl
      (λ b. walk_traces level (fanin m x 0) (buffer_named_lem m named x h b) (omega (arith, buffer_level m balanced x h b)))
    where
      go :
          (b : Bool) →
          eqb (m.at x).kind buffer ≡ b →
          ((m.at x).kind ≡ buffer → Traces m (walk m level (fanin m x 0)) (fanin m x 0)) →
          Traces m (walk m (suc level) x) x
      go true e ih =
          let b : (m.at x).kind ≡ buffer = eqb-true _ _ e in rw (walk_back m level x b) (back b (ih b))
      go false e ih = rw (walk_here m (suc level) x (eqb-false _ _ e)) (here refl (eqb-false _ _ e))

  -- every record traces to its driver, and to nothing else
  pub driver_traces : (x : ℕ) → x < m.size → Traces m (driver m x) x
  driver_traces x h = walk_traces (m.at x).level x h refl

  pub traces_driver : (d x : ℕ) → x < m.size → Traces m d x → driver m x ≡ d
  traces_driver d x h t = traces_one (driver_traces x h) t

  -- no buffer is a driver
  pub driver_here : (x : ℕ) → (m.at x).kind ≢ buffer → driver m x ≡ x
  driver_here x b = walk_here m (m.at x).level x b

  -- a buffer's driver is its fanin's
  pub driver_back : (x : ℕ) → x < m.size → (m.at x).kind ≡ buffer → driver m x ≡ driver m (fanin m x 0)
  driver_back x h b = traces_driver (driver m (fanin m x 0)) x h (back b (driver_traces (fanin m x 0) (buffer_named_lem m named x h b)))

  traces_end : {d : ℕ} (x : ℕ) → x < m.size → Traces m d x → (d < m.size) × ((m.at d).kind ≢ buffer)
  traces_end x h (here p b) = rw (← p) (h, b)
  traces_end x h (back b t) = traces_end (fanin m x 0) (buffer_named_lem m named x h b) t

  -- a driver is a record, and no buffer
  pub driver_end : (x : ℕ) → x < m.size → (driver m x < m.size) × ((m.at (driver m x)).kind ≢ buffer)
  driver_end x h = traces_end x h (driver_traces x h)

  traces_level : {d : ℕ} (x : ℕ) → x < m.size → Traces m d x → (m.at d).level ≤ (m.at x).level
  traces_level x h (here p b) = rw p (omega arith)
  traces_level x h (back b t) = omega (arith, buffer_level m balanced x h b, traces_level (fanin m x 0) (buffer_named_lem m named x h b) t)

  -- a driver stands no higher than what traces to it, and below each of its buffers
  pub driver_below : (x : ℕ) → x < m.size → (m.at (driver m x)).level ≤ (m.at x).level
  driver_below x h = traces_level x h (driver_traces x h)

  pub driver_under : (x : ℕ) → x < m.size → (m.at x).kind ≡ buffer → (m.at (driver m x)).level < (m.at x).level
  driver_under x h b =
      rw (driver_back x h b)
      (omega (arith, buffer_level m balanced x h b, driver_below (fanin m x 0) (buffer_named_lem m named x h b)))
