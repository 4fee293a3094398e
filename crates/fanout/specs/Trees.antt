-- Specification 2.1, 2.4 (Lee, Riener, De Micheli): what a legal tree of one net is. Nothing of the mapper's own tree is in it.
use Rattle.std.specs.Prelude.{ℕ, zero, suc, ◌+◌, ◌*◌, ◌-◌, ◌/◌, ◌%◌, ◌≤◌, ◌<◌, ◌≡◌, Bool, true, ◌&&◌, List, length, get_or, eqb}
use Rattle.facts.specs.Sums.{count}
use Rattle.netlist.specs.Kinds.{slots}
use Rattle.netlist.specs.Records.{Netlist, names}

-- the net of one driver: which of the numbers below `places` are sinks, and how many levels each stands above the driver
pub record Net : Type 0 where
  pub places : ℕ
  pub sink : ℕ → Bool
  pub distance : ℕ → ℕ

-- how many sinks stand at distance k
unfoldable pub sinks_at : Net → ℕ → ℕ
sinks_at net k = count (λ x. net.sink x && eqb (net.distance x) k) net.places

-- the net of driver d: slot j of record i is number slots * i + j, and a sink where it names d
abbrev pub net_of : Netlist → ℕ → Net
net_of m d =
    record {
      places = slots * m.size;
      sink = λ x. names m d (x / slots) (x % slots);
      distance = λ x. (m.at (x / slots)).level - (m.at d).level;
    }

-- a net with a sink for each distance of a list
abbrev pub net_at : List ℕ → Net
net_at distances = record { places = length distances; sink = λ x. true; distance = λ x. get_or distances x 0 }

-- a tree: its buffers, each with its distance from the driver and the node it hangs on, and the node that each sink hangs on;
-- node 0 is the driver, node suc b is buffer b
pub record Tree : Type 0 where
  pub buffers : ℕ
  pub distance : ℕ → ℕ
  pub buffer_on : ℕ → ℕ
  pub sink_on : ℕ → ℕ

-- how many levels a node stands above the driver
abbrev pub node_distance : Tree → ℕ → ℕ
node_distance t zero = 0
node_distance t (suc b) = t.distance b

-- how many buffers and sinks a node feeds
unfoldable pub fed : Net → Tree → ℕ → ℕ
fed net t y =
    count (λ b. eqb (t.buffer_on b) y) t.buffers + count (λ x. net.sink x && eqb (t.sink_on x) y) net.places

-- how many buffers stand at distance k
unfoldable pub buffers_in : Tree → ℕ → ℕ
buffers_in t k = count (λ b. eqb (t.distance b) k) t.buffers

-- a legal tree of a net whose driver may feed c slots and whose buffers may feed s; a buffer that feeds nothing is legal
pub record Legal (c s : ℕ) (net : Net) (t : Tree) : Type 0 where
  -- every buffer and every sink hangs on the driver or on a buffer of the tree
  pub buffer_named : (b : ℕ) → b < t.buffers → t.buffer_on b ≤ t.buffers
  pub sink_named : (x : ℕ) → x < net.places → net.sink x ≡ true → t.sink_on x ≤ t.buffers
  -- and stands exactly one level above it
  pub buffer_balanced : (b : ℕ) → b < t.buffers → t.distance b ≡ suc (node_distance t (t.buffer_on b))
  pub sink_balanced : (x : ℕ) → x < net.places → net.sink x ≡ true →
      net.distance x ≡ suc (node_distance t (t.sink_on x))
  -- the driver feeds at most c of them, a buffer at most s
  pub driver_branched : fed net t 0 ≤ c
  pub buffer_branched : (b : ℕ) → b < t.buffers → fed net t (suc b) ≤ s

-- a row of counts is a net's: entry k is the number of sinks at distance k, and all stand above the driver
pub record RowOf (net : Net) (r : List ℕ) : Type 0 where
  pub entry : (k : ℕ) → get_or r k 0 ≡ sinks_at net k
  pub above : (x : ℕ) → x < net.places → net.sink x ≡ true → 0 < net.distance x
