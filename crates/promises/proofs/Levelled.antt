-- The other calls take a source with its least levels: it is a source, and a tree for any driver capacity is one for each driver's own.
use native.Mathlib.Omega.{arith}
use mathlib.Core.Path.{ap}
use mathlib.Core.Bool.{not}
use Rattle.facts.specs.Checks.{◌and_then◌}
use Rattle.facts.proofs.Reflect.{check_passed, then_passed, scan_passed}
use Rattle.netlist.specs.Capacities.{capacities_of, capacity_of, Allowed}
use Rattle.netlist.specs.Records.{netlist, record_at, record_count}
use Rattle.netlist.specs.Checks.{capacity_check, capacity_checks, structure_checks, source_checks}
use Rattle.netlist.proofs.Balance.{capacity_least}
use Rattle.netlist.proofs.Source.{capacities_passed, unlevelled_passed, source_passed}
use Rattle.fanout.specs.Nets.{row}
use Rattle.fanout.specs.Trees.{net_of}
use Rattle.fanout.proofs.Promises.{tree_exactly, row_of_net}
use Rattle.nets.specs.Checks.{tree_check, no_tree}
use Rattle.levels.specs.Levels.{levels_answer, levels_area}
use Rattle.levels.proofs.Promises.{levels_written}
use Rattle.promises.specs.Levelled.{LevelledMaps}

pub levelled_maps_lem : LevelledMaps
unfolding levels_answer
levelled_maps_lem source s b area e some most =
    let caps = capacities_of s b in
    let copy = levels_area source s area in
    let made = levels_written source s area e in
    let u = (unlevelled_passed source s).0 ((then_passed (capacity_check s and_then structure_checks source) _).0 e).0 in
    let allowed : Allowed caps = record { low = u.low; high = u.high; input_low = some; input_high = most } in (
      (then_passed (capacity_checks caps) (source_checks copy)).1 ((capacities_passed caps).1 allowed, (source_passed copy).1 made.is_source),
      (scan_passed (tree_check (netlist copy) caps) (record_count copy)).1
          (λ d l.
          let c = capacity_of caps (record_at copy d).kind in
          let tree = made.trees c d (capacity_least caps (record_at copy d).kind allowed) in
          let has = (tree_exactly c s (net_of (netlist copy) d) (row (netlist copy) d) (omega (arith, u.low)) (row_of_net copy made.is_source d)).0 tree in
          (check_passed 8 d (no_tree (netlist copy) caps d)).1 (ap not has)),
    )
