-- Laws of one step: its lengths, and what its first half holds.
use Prim.Native.Nat.{ℕ, ◌*◌, ◌<◌}
use mathlib.Core.Path.{◌≡◌, ◌∙◌}
use mathlib.Core.List.{List}
use native.Mathlib.Omega.{arith}
use lib.ListN.{length, get_or, take, length-append}
use lib.Seq.{take_at, get_or-take}
use Rattle.facts.specs.Sums.{bit}
use Rattle.facts.proofs.Lists.{length_tabulate, get_d_tabulate}
use Rattle.facts.proofs.Sums.{on_bit}
use Rattle.netlist.specs.Records.{Netlist}
use Rattle.simulator.specs.Logic.{on, next}
use Rattle.simulator.specs.Step.{renewed_below, renewed, older, stepped}

pub length_below : (m : Netlist) (row held : List ℕ) (n : ℕ) → length (renewed_below m row held n) ≡ n
unfolding renewed_below
length_below m row held n = length_tabulate _ n

pub length_older : (n : ℕ) (area : List ℕ) → length (older n area) ≡ n
unfolding older
length_older n area = length_tabulate _ n

module _ (m : Netlist) (row area : List ℕ) where
  pub length_stepped : length (stepped m row area) ≡ 2 * m.size
  unfolding stepped
  length_stepped =
      length-append (renewed m row (take m.size area)) (older m.size area)
      ∙ omega (arith, length_below m row (take m.size area) m.size, length_older m.size area)

  -- the first half has the new values
  pub take_stepped : take m.size (stepped m row area) ≡ renewed m row (take m.size area)
  unfolding stepped
  take_stepped = take_at (renewed m row (take m.size area)) (older m.size area) m.size (length_below m row (take m.size area) m.size)

  pub stepped_at : (i : ℕ) → i < m.size → get_or (stepped m row area) i 0 ≡ bit (next m row (on (take m.size area)) i)
  unfolding renewed_below
  stepped_at i l =
      rw (← get_or-take m.size (stepped m row area) i 0 l, take_stepped) (get_d_tabulate _ m.size i 0 l)

  -- the step equation
  pub stepped_on : (i : ℕ) → i < m.size →
      on (take m.size (stepped m row area)) i ≡ next m row (on (take m.size area)) i
  stepped_on i l =
      rw (get_or-take m.size (stepped m row area) i 0 l, stepped_at i l) (on_bit (next m row (on (take m.size area)) i))
