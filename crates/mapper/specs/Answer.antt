-- The mapper's answer (specification 4.1, 2.6, 3.3): checks 1, 26, 27, 28 and 2 to 10, seven numbers, the area.
use Rattle.std.specs.Prelude.{ℕ, ◌+◌, ◌*◌, Bool, List, [], ◌∷◌, length, ltb}
use Rattle.facts.specs.Answers.{Checked}
use Rattle.facts.specs.Checks.{check, ◌and_then◌, outcome, unless_refused}
use Rattle.facts.specs.Areas.{onto}
use Rattle.facts.specs.Rounding.{rounded}
use Rattle.netlist.specs.declared.Capacities.{Capacities}
use Rattle.netlist.specs.Kinds.{width, mapped_limit}
use Rattle.netlist.specs.Records.{Netlist, netlist, depth}
use Rattle.netlist.specs.Checks.{capacity_checks, source_checks, input_checks}
use Rattle.netlist.specs.Bytes.{bytes_of}
use Rattle.fanout.specs.Nets.{fewest_in_all}
use Rattle.nets.specs.Checks.{tree_checks}
use Rattle.prices.specs.Prices.{junctions, buffer_junctions}
use Rattle.prices.specs.Checks.{price_list_checks}
use Rattle.mapper.specs.declared.MapTotals.{MapTotals}
use Rattle.mapper.specs.Mapped.{mapped_size, mapped}

-- 9: too many records
abbrev pub too_large : Netlist → Capacities → Bool
too_large n caps = ltb mapped_limit (mapped_size n caps)

-- 10: an area that M records do not fit
abbrev pub too_short : Netlist → Capacities → List ℕ → Bool
too_short n caps area = ltb (length area) (width * mapped_size n caps)

-- 1, 26 and 2 to 9: whether the source has a mapped netlist
unfoldable pub source_maps : List ℕ → Capacities → Checked
source_maps bytes caps =
    input_checks bytes caps and_then tree_checks (netlist bytes) caps and_then check 9 0 (too_large (netlist bytes) caps)

-- 1, 26, 27, 28 and 2 to 10
unfoldable pub map_checks : List ℕ → Capacities → List ℕ → List ℕ → Checked
map_checks bytes caps list area =
    capacity_checks caps
    and_then price_list_checks list
    and_then source_checks bytes
    and_then tree_checks (netlist bytes) caps
    and_then check 9 0 (too_large (netlist bytes) caps)
    and_then check 10 0 (too_short (netlist bytes) caps area)

-- the buffers' part of all junctions in percent, rounded
abbrev pub share : ℕ → ℕ → ℕ
share part whole = rounded (100 * part) whole

-- the mapper's seven numbers (specification 4.1)
pub record Mapping : Type 0 where
  pub number : ℕ
  pub place : ℕ
  pub size : ℕ
  pub buffers : ℕ
  pub depth : ℕ
  pub junctions : ℕ
  pub share : ℕ

-- a refusal: what follows the place is 0
abbrev pub refusal : ℕ → ℕ → Mapping
refusal number place =
    record { number = number; place = place; size = 0; buffers = 0; depth = 0; junctions = 0; share = 0 }

-- the numbers of an accepted source with its buffers, their JJs and all JJs
abbrev pub figures : Netlist → ℕ → ℕ → ℕ → Mapping
figures n bs part whole =
    record {
      number = 0;
      place = 0;
      size = n.size + bs;
      buffers = bs;
      depth = depth n;
      junctions = whole;
      share = share part whole;
    }

-- the numbers of an accepted source: number and place are 0
abbrev pub accepted : MapTotals → Mapping
accepted t =
    record { number = 0; place = 0; size = t.size; buffers = t.buffers; depth = t.depth; junctions = t.junctions; share = t.share }

-- the answer that the checks leave; the mapped netlist is priced
abbrev pub answer_of : Checked → Netlist → Capacities → List ℕ → Mapping
answer_of checks n caps list =
    outcome checks (figures n (fewest_in_all n caps) (buffer_junctions list (mapped n caps)) (junctions list (mapped n caps))) refusal

-- the area that the checks leave
abbrev pub area_of : Checked → Netlist → Capacities → List ℕ → List ℕ
area_of checks n caps area = unless_refused checks (onto (bytes_of (mapped n caps)) area) area

-- the mapper's seven numbers
unfoldable pub map_answer : List ℕ → Capacities → List ℕ → List ℕ → Mapping
map_answer bytes caps list area = answer_of (map_checks bytes caps list area) (netlist bytes) caps list

-- what the area holds after the call
unfoldable pub map_area : List ℕ → Capacities → List ℕ → List ℕ → List ℕ
map_area bytes caps list area = area_of (map_checks bytes caps list area) (netlist bytes) caps area

-- the numbers of an answer, in the order of specification 4.1
unfoldable pub mapping_numbers : Mapping → List ℕ
mapping_numbers a =
    a.number ∷ a.place ∷ a.size ∷ a.buffers ∷ a.depth ∷ a.junctions ∷ a.share ∷ []
