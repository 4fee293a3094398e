-- The block view (specification 4.8): the block of one driver's buffers as a part of the lent mapped netlist.
use Rattle.std.specs.Prelude.{ℕ, suc, ◌*◌, ◌-◌, cond, List, [], take, drop, leb}
use Rattle.facts.specs.Answers.{Checked}
use Rattle.facts.specs.Checks.{unless_refused}
use Rattle.netlist.specs.declared.Capacities.{Capacities}
use Rattle.netlist.specs.Kinds.{width, is_driver}
use Rattle.netlist.specs.Records.{Netlist, netlist, record_count}
use Rattle.mapper.specs.declared.Ends.{Ends}
use Rattle.mapper.specs.Mapped.{block_start}
use Rattle.mapper.specs.Answer.{source_maps}

-- no block
abbrev pub no_ends : Ends
no_ends = record { from = 0; to = 0 }

-- the records of d's block: behind the source and the trees before it
abbrev pub own_ends : Netlist → Capacities → ℕ → Ends
own_ends n caps d = record { from = block_start n caps d; to = block_start n caps (suc d) }

-- what the checks leave of it; only drivers have one
abbrev pub ends_of : Checked → Netlist → Capacities → ℕ → Ends
ends_of checks n caps d = unless_refused checks (cond (is_driver (n.at d).kind) (own_ends n caps d) no_ends) no_ends

-- none where 1, 26 or one of 2 to 9 refuses the source or the capacities, or the record is no driver
unfoldable pub block_ends : List ℕ → Capacities → ℕ → Ends
block_ends bytes caps d = ends_of (source_maps bytes caps) (netlist bytes) caps d

-- the records between two ends; none where the area ends before they do
abbrev pub between : List ℕ → Ends → List ℕ
between area e =
    cond (leb e.to (record_count area)) (take (width * e.to - width * e.from) (drop (width * e.from) area)) []

-- the block view
abbrev pub block_view : List ℕ → Capacities → List ℕ → ℕ → List ℕ
block_view bytes caps mapped d = between mapped (block_ends bytes caps d)
