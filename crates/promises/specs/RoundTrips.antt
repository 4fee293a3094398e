-- Stripping and mapping, one after the other, with the same capacities (specification 6.5).
use Rattle.std.specs.Prelude.{ℕ, ◌*◌, ◌≤◌, ◌≡◌, List, length, take}
use Rattle.facts.specs.Answers.{Passed}
use Rattle.facts.specs.Areas.{onto}
use Rattle.facts.specs.Bytes.{AreBytes}
use Rattle.netlist.specs.declared.Capacities.{Capacities}
use Rattle.netlist.specs.Kinds.{width}
use Rattle.netlist.specs.Records.{netlist, record_count}
use Rattle.netlist.specs.Counts.{buffer_count}
use Rattle.verifier.specs.Fewest.{NoMore}
use Rattle.strip.specs.Answer.{Records}
use Rattle.strip.specs.Answer.{strip_answer, strip_area}
use Rattle.prices.specs.Checks.{price_list_checks}
use Rattle.mapper.specs.Answer.{map_answer}
use Rattle.promises.specs.Written.{Maps, written}

-- mapped, then stripped into an area with room for it: the source comes back, and what lies beyond it stays
abbrev pub StripMapped : Type 0
StripMapped =
    (source : List ℕ) (caps : Capacities) (list area back : List ℕ) → AreBytes source → Maps source caps list area → length source ≤ length back →
    (strip_answer caps (written source caps list area) back ≡ Records (record_count source))
    × (strip_area caps (written source caps list area) back ≡ onto source back)

-- what stripping writes: the first N records of the area
abbrev pub stripped_source : Capacities → List ℕ → List ℕ → ℕ → List ℕ
stripped_source caps mapped area size = take (width * size) (strip_area caps mapped area)

-- the mapper takes a source and an area, and what it writes has no more buffers than other: in all, on each net, and at each level of each net
pub record MapsNoWorse (source : List ℕ) (caps : Capacities) (list area other : List ℕ) : Type 0 where
  pub maps : Maps source caps list area
  pub answered : (map_answer source caps list area).buffers ≤ buffer_count (netlist other)
  pub no_more : NoMore (netlist source) (netlist (written source caps list area)) (netlist other)

-- anybody's netlist stripped, then mapped with any good price list into an area as long as it was
abbrev pub MapStripped : Type 0
MapStripped =
    (caps : Capacities) (mapped source : List ℕ) (size : ℕ) (list area : List ℕ) →
    strip_answer caps mapped source ≡ Records size → price_list_checks list ≡ Passed → length mapped ≤ length area →
    MapsNoWorse (stripped_source caps mapped source size) caps list area mapped
