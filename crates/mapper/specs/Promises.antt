-- What is promised of the mapper and of the block view, on any bytes, capacities, price list and area.
use Rattle.std.specs.Prelude.{ℕ, ◌+◌, ◌*◌, ◌≤◌, ◌<◌, ◌≡◌, true, false, List, [], length, take, eqb}
use Rattle.facts.specs.Answers.{Passed, Refused}
use Rattle.facts.specs.Sums.{count}
use Rattle.facts.specs.Refusals.{Conditions, Fails, ◌or◌, Each, Exact}
use Rattle.netlist.specs.declared.Capacities.{Capacities}
use Rattle.netlist.specs.Kinds.{width, mapped_limit, buffer, is_driver}
use Rattle.netlist.specs.Capacities.{capacities_of, most_input_capacity}
use Rattle.netlist.specs.Records.{Netlist, netlist, record_count, record_at}
use Rattle.netlist.specs.Refusals.{CapacityFails, SourceFails}
use Rattle.netlist.specs.Bytes.{recs}
use Rattle.fanout.specs.Promises.{NoNetTree, LeastNetTree}
use Rattle.fanout.specs.Nets.{tree_size, fewest_in_all}
use Rattle.prices.specs.Checks.{price_list_checks}
use Rattle.prices.specs.Promises.{PriceListFails}
use Rattle.mapper.specs.Mapped.{block_start, mapped_size, mapped}
use Rattle.mapper.specs.Answer.{refusal, source_maps, map_checks, map_answer, map_area}
use Rattle.mapper.specs.View.{block_view}

-- 8: a driver for whose net no legal tree exists
abbrev pub Treeless : Netlist → Capacities → ℕ → Type 0
Treeless n caps d = (is_driver (n.at d).kind ≡ true) × NoNetTree n caps d

-- 9: the source and the fewest buffers of all nets are over 60,000 records
abbrev pub TooLarge : Netlist → Capacities → Type 0
TooLarge n caps = mapped_limit < mapped_size n caps

-- 10: an area that M records do not fit
abbrev pub TooShort : Netlist → Capacities → List ℕ → Type 0
TooShort n caps area = length area < width * mapped_size n caps

-- 1, 26, 27, 28 and 2 to 10
abbrev pub MapFails : List ℕ → Capacities → List ℕ → List ℕ → Conditions
MapFails bytes caps list area =
    CapacityFails caps
    or PriceListFails list
    or SourceFails bytes
    or Each (record_count bytes) (λ d. Fails 8 d (Treeless (netlist bytes) caps d))
    or Fails 9 0 (TooLarge (netlist bytes) caps)
    or Fails 10 0 (TooShort (netlist bytes) caps area)

-- each of 1, 26, 27, 28 and 2 to 10 is answered exactly where its condition is the first that holds, and a call is accepted exactly if none does
abbrev pub MapExact : Type 0
MapExact = (bytes : List ℕ) (caps : Capacities) (list area : List ℕ) → Exact (MapFails bytes caps list area) (map_checks bytes caps list area)

-- a refused call answers number and place, zeros after them, and leaves the area
pub record Refuses (bytes : List ℕ) (caps : Capacities) (list area : List ℕ) (number place : ℕ) : Type 0 where
  pub answer : map_answer bytes caps list area ≡ refusal number place
  pub kept : map_area bytes caps list area ≡ area

abbrev pub RefusedLeaves : Type 0
RefusedLeaves =
    (bytes : List ℕ) (caps : Capacities) (list area : List ℕ) (number place : ℕ) →
    map_checks bytes caps list area ≡ Refused number place → Refuses bytes caps list area number place

-- what an accepted call answers and writes
pub record Accepts (bytes : List ℕ) (caps : Capacities) (list area : List ℕ) : Type 0 where
  pub number : (map_answer bytes caps list area).number ≡ 0
  pub place : (map_answer bytes caps list area).place ≡ 0
  -- M is the source's records and the buffers
  pub size : (map_answer bytes caps list area).size ≡ record_count bytes + (map_answer bytes caps list area).buffers
  -- the first M records are the mapped netlist, and the area keeps its length
  pub written : netlist (take (width * (map_answer bytes caps list area).size) (map_area bytes caps list area)) ≡ mapped (netlist bytes) caps
  pub long : length (map_area bytes caps list area) ≡ length area
  -- the buffers answered are the records of kind 5 written ..
  pub kinds : (map_answer bytes caps list area).buffers ≡ count (λ i. eqb ((mapped (netlist bytes) caps).at i).kind buffer) (mapped (netlist bytes) caps).size
  -- .. and the sum of the fewest buffers of all nets
  pub fewest : (map_answer bytes caps list area).buffers ≡ fewest_in_all (netlist bytes) caps
  -- each net's being the least number of buffers of a legal tree
  pub least : (d : ℕ) → is_driver (record_at bytes d).kind ≡ true →
      LeastNetTree (netlist bytes) caps d (tree_size (netlist bytes) caps d)
  pub none : (d : ℕ) → is_driver (record_at bytes d).kind ≡ false → tree_size (netlist bytes) caps d ≡ 0

abbrev pub AcceptedMaps : Type 0
AcceptedMaps =
    (bytes : List ℕ) (caps : Capacities) (list area : List ℕ) → map_checks bytes caps list area ≡ Passed → Accepts bytes caps list area

-- the list decides JJs and share and nothing else: two lists that 27 and 28 pass, accepted or refused
pub record PricedAlike (source : List ℕ) (caps : Capacities) (list other area : List ℕ) : Type 0 where
  pub number : (map_answer source caps other area).number ≡ (map_answer source caps list area).number
  pub place : (map_answer source caps other area).place ≡ (map_answer source caps list area).place
  pub size : (map_answer source caps other area).size ≡ (map_answer source caps list area).size
  pub buffers : (map_answer source caps other area).buffers ≡ (map_answer source caps list area).buffers
  pub depth : (map_answer source caps other area).depth ≡ (map_answer source caps list area).depth
  pub bytes : map_area source caps other area ≡ map_area source caps list area

abbrev pub AnyPriceList : Type 0
AnyPriceList =
    (source : List ℕ) (caps : Capacities) (list other area : List ℕ) →
    price_list_checks list ≡ Passed → price_list_checks other ≡ Passed → PricedAlike source caps list other area

-- b decides no more than whether there are trees: what is accepted with some b is accepted with every larger one up to 4,095, with the same numbers and the same bytes
abbrev pub LargerInputCapacity : Type 0
LargerInputCapacity =
    (bytes : List ℕ) (s b c : ℕ) (list area : List ℕ) → b ≤ c → c ≤ most_input_capacity →
    map_checks bytes (capacities_of s b) list area ≡ Passed →
    (map_answer bytes (capacities_of s c) list area ≡ map_answer bytes (capacities_of s b) list area)
    × (map_area bytes (capacities_of s c) list area ≡ map_area bytes (capacities_of s b) list area)

-- on what the mapper wrote the block view of a driver is the records of its tree's buffers
abbrev pub BlockWritten : Type 0
BlockWritten =
    (bytes : List ℕ) (caps : Capacities) (list area : List ℕ) (d : ℕ) →
    map_checks bytes caps list area ≡ Passed → is_driver (record_at bytes d).kind ≡ true →
    block_view bytes caps (map_area bytes caps list area) d
    ≡ recs (mapped (netlist bytes) caps) (block_start (netlist bytes) caps d) (tree_size (netlist bytes) caps d)

-- without a mapping, or for another record, there is no block
abbrev pub BlockNone : Type 0
BlockNone =
    (bytes : List ℕ) (caps : Capacities) (area : List ℕ) (d : ℕ) →
    ((number place : ℕ) → source_maps bytes caps ≡ Refused number place → block_view bytes caps area d ≡ [])
    × (is_driver (record_at bytes d).kind ≡ false → block_view bytes caps area d ≡ [])
