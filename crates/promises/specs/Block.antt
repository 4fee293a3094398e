-- The block view on what the mapper wrote: the records of one net's buffers, those and no others.
use Rattle.std.specs.Prelude.{ℕ, ◌+◌, ◌≤◌, ◌<◌, ◌≡◌, ◌↔◌, true, List, []}
use Rattle.netlist.specs.declared.Capacities.{Capacities}
use Rattle.netlist.specs.Kinds.{is_driver}
use Rattle.netlist.specs.Records.{netlist, record_count, record_at}
use Rattle.netlist.specs.Bytes.{recs}
use Rattle.verifier.specs.Fewest.{on_net}
use Rattle.fanout.specs.Nets.{tree_size}
use Rattle.mapper.specs.Mapped.{block_start}
use Rattle.mapper.specs.Answer.{map_area}
use Rattle.mapper.specs.View.{block_ends, block_view}
use Rattle.promises.specs.Written.{Maps, written}

-- the block of d holds the records from `from` on, `many` of them; and a record of the netlist is a buffer on d's net, its slot
-- traced back through buffers, exactly if it is one of these
pub record BlockOf (source : List ℕ) (caps : Capacities) (list area : List ℕ) (d from many : ℕ) : Type 0 where
  pub holds : block_view source caps (map_area source caps list area) d ≡ recs (netlist (written source caps list area)) from many
  pub exactly : (x : ℕ) → x < (netlist (written source caps list area)).size →
      (on_net (netlist (written source caps list area)) d x ≡ true) ↔ ((from ≤ x) × (x < from + many))

abbrev pub BlockExact : Type 0
BlockExact =
    (source : List ℕ) (caps : Capacities) (list area : List ℕ) (d : ℕ) → Maps source caps list area → is_driver (record_at source d).kind ≡ true →
    BlockOf source caps list area d (block_start (netlist source) caps d) (tree_size (netlist source) caps d)

-- where the area ends before the block does, the part is empty
abbrev pub BlockShort : Type 0
BlockShort =
    (source : List ℕ) (caps : Capacities) (mapped : List ℕ) (d : ℕ) → record_count mapped < (block_ends source caps d).to →
    block_view source caps mapped d ≡ []
