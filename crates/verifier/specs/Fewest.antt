-- Demand 3: no legal mapped netlist has fewer buffers than the fewest of `fanout`, in all, on a net or at a level of a net.
use Rattle.std.specs.Prelude.{ℕ, ◌+◌, ◌≤◌, ◌<◌, ◌≡◌, Bool, true, ◌&&◌, ◌↔◌, List, eqb}
use Rattle.facts.specs.Sums.{count}
use Rattle.netlist.specs.declared.Capacities.{Capacities}
use Rattle.netlist.specs.Kinds.{buffer}
use Rattle.netlist.specs.Records.{Netlist, netlist, fanin}
use Rattle.netlist.specs.Source.{IsSource}
use Rattle.netlist.specs.Counts.{is_buffer, buffer_count}
use Rattle.fanout.specs.Nets.{row, buffers_at, net_has_tree, tree_size, fewest_in_all}
use Rattle.verifier.specs.Checks.{Buffers}
use Rattle.verifier.specs.Legal.{Legal, Traces}
use Rattle.verifier.specs.Trace.{driver}
use Rattle.verifier.specs.Checks.{verify_answer}

-- record x is a buffer on the net of d: its slot, traced back through buffers, ends there
abbrev pub on_net : Netlist → ℕ → ℕ → Bool
on_net m d x = is_buffer m x && eqb (driver m (fanin m x 0)) d

-- and it stands at a level
abbrev pub on_net_at : Netlist → ℕ → ℕ → ℕ → Bool
on_net_at m d level x = on_net m d x && eqb (m.at x).level level

-- the buffers on d's net, and those of them at a level
unfoldable pub buffers_on : Netlist → ℕ → ℕ
buffers_on m d = count (on_net m d) m.size

unfoldable pub buffers_on_at : Netlist → ℕ → ℕ → ℕ
buffers_on_at m d level = count (on_net_at m d level) m.size

-- in a legal mapped netlist that is the trace of specification 2.3
abbrev pub OnNetExactly : Type 0
OnNetExactly =
    (n : Netlist) (caps : Capacities) (m : Netlist) → Legal n caps m → (d x : ℕ) → x < m.size →
    (on_net m d x ≡ true) ↔ (((m.at x).kind ≡ buffer) × Traces m d (fanin m x 0))

-- the source n's nets have trees for the capacities, and m has at least the fewest buffers of each
pub record NoFewer (n : Netlist) (caps : Capacities) (m : Netlist) : Type 0 where
  pub trees : (d : ℕ) → d < n.size → net_has_tree n caps d ≡ true
  pub at_levels : (d k : ℕ) → d < n.size → 1 ≤ k → buffers_at caps.buffer (row n d) k ≤ buffers_on_at m d ((n.at d).level + k)
  pub on_nets : (d : ℕ) → d < n.size → tree_size n caps d ≤ buffers_on m d
  pub in_all : fewest_in_all n caps ≤ buffer_count m
  -- a netlist with the fewest buffers on every net has no more records
  pub fits : n.size + fewest_in_all n caps ≤ m.size

-- of every legal mapped netlist
abbrev pub NoneFewer : Type 0
NoneFewer = (n : Netlist) (caps : Capacities) (m : Netlist) → 0 < caps.buffer → IsSource n → Legal n caps m → NoFewer n caps m

-- of every netlist that the verifier accepts
abbrev pub NoneAcceptedFewer : Type 0
NoneAcceptedFewer =
    (source : List ℕ) (caps : Capacities) (mapped : List ℕ) (buffers : ℕ) →
    verify_answer source caps mapped ≡ Buffers buffers →
    NoFewer (netlist source) caps (netlist mapped)

-- m has no more buffers than other: in all, on each net of the source n, and at each level of each net
pub record NoMore (n m other : Netlist) : Type 0 where
  pub in_all : buffer_count m ≤ buffer_count other
  pub on_nets : (d : ℕ) → d < n.size → buffers_on m d ≤ buffers_on other d
  pub at_levels : (d level : ℕ) → d < n.size → buffers_on_at m d level ≤ buffers_on_at other d level

-- a legal netlist with the fewest buffers in all has no more than any legal one, anywhere
abbrev pub LeastEverywhere : Type 0
LeastEverywhere =
    (n : Netlist) (caps : Capacities) (m other : Netlist) → 0 < caps.buffer → IsSource n → Legal n caps m → Legal n caps other →
    buffer_count m ≤ fewest_in_all n caps →
    NoMore n m other
