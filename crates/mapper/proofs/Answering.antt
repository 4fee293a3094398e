-- Laws of the mapper's answer: its numbers, and which check refuses.
use Prim.Native.Nat.{ℕ, ◌+◌, ◌*◌, ◌≤◌, ◌<◌}
use mathlib.Core.Path.{◌≡◌, refl, sym, ap, ap₂, ◌∙◌}
use mathlib.Core.Logic.{◌↔◌}
use mathlib.Core.Bool.{true, false}
use mathlib.Core.List.{List}
use native.Mathlib.Omega.{arith}
use mir.Val.{Fits}
use mir.Syntax.{w32, w64}
use lib.ListN.{length}
use borrow.Author.Tests.{lt-ltb, le-ltb, not-false}
use Rattle.facts.specs.Answers.{Checked, Passed, Refused}
use Rattle.facts.specs.Checks.{check, ◌and_then◌}
use Rattle.facts.specs.Sums.{sum}
use Rattle.facts.specs.Areas.{onto}
use Rattle.facts.proofs.Reflect.{check_passed, then_passed, then_assoc, scan_passed}
use Rattle.netlist.specs.declared.Capacities.{Capacities}
use Rattle.netlist.specs.Kinds.{width, mapped_limit}
use Rattle.netlist.specs.Records.{Netlist, netlist, record_count, depth}
use Rattle.netlist.specs.Checks.{capacity_checks, source_checks, input_checks}
use Rattle.netlist.specs.Bytes.{bytes_of}
use Rattle.fanout.specs.Nets.{fewest_in_all}
use Rattle.mapper.specs.Answer.{Mapping}
use Rattle.mapper.specs.Mapped.{mapped_size, mapped}
use Rattle.mapper.specs.PrivateWriting.{Ready, Counted, Sized}
use Rattle.prices.specs.Prices.{junctions, buffer_junctions}
use Rattle.prices.specs.Checks.{price_list_checks}
use Rattle.prices.specs.PrivatePrices.{AppliedPrices}
use Rattle.mapper.specs.PrivatePricing.{tree_price, driver_price}
use Rattle.mapper.specs.Answer.{share, figures, refusal, too_large, too_short, source_maps, map_checks, map_answer, map_area}
use Rattle.nets.specs.Checks.{tree_check, tree_checks, no_tree}
use Rattle.nets.specs.PrivateCounts.{NetNumbers}
use Rattle.nets.specs.PrivateChains.{Chained}
use Rattle.nets.proofs.TreeCounts.{total_small, input_source, input_allowed}
use Rattle.mapper.proofs.NetPrices.{part_price, whole_price, trees_small, drivers_small}

-- the numbers of an accepted source
pub accepted_is : (n : Netlist) (N bs part whole D percent : ℕ) → N ≡ n.size → D ≡ depth n → percent ≡ share part whole →
    record { number = 0; place = 0; size = N + bs; buffers = bs; depth = D; junctions = whole; share = percent } ≡ figures n bs part whole
accepted_is n N bs part whole D percent e f h = cc

-- what the mapper checks: the call, then the trees, the size and the area
abbrev call_checks : List ℕ → Capacities → List ℕ → Checked
call_checks bytes caps list = capacity_checks caps and_then price_list_checks list and_then source_checks bytes

abbrev pub late_checks : List ℕ → Capacities → List ℕ → Checked
late_checks bytes caps area =
    tree_checks (netlist bytes) caps and_then check 9 0 (too_large (netlist bytes) caps) and_then check 10 0 (too_short (netlist bytes) caps area)

module _ (bytes : List ℕ) (caps : Capacities) (list area : List ℕ) where
  split : map_checks bytes caps list area ≡ (call_checks bytes caps list and_then late_checks bytes caps area)
  unfolding map_checks
  split =
      sym
      (then_assoc (capacity_checks caps) (price_list_checks list and_then source_checks bytes) (late_checks bytes caps area)
      ∙ ap (λ (a : Checked). capacity_checks caps and_then a) (then_assoc (price_list_checks list) (source_checks bytes) (late_checks bytes caps area)))

  -- 1, 26, 27, 28 and 2 to 7
  module _ (number place : ℕ) (f : Refused number place ≡ call_checks bytes caps list) where
    call_refused : map_checks bytes caps list area ≡ Refused number place
    call_refused = split ∙ ap (λ (a : Checked). a and_then late_checks bytes caps area) (sym f)

    pub refused_call : refusal number place ≡ map_answer bytes caps list area
    unfolding map_answer
    refused_call = cc call_refused

    pub kept_call : area ≡ map_area bytes caps list area
    unfolding map_area
    kept_call = cc call_refused

  -- once they pass
  module _ (f : Passed ≡ call_checks bytes caps list) where
    pub passed_source : input_checks bytes caps ≡ Passed
    passed_source =
        let c = (then_passed (capacity_checks caps) (price_list_checks list and_then source_checks bytes)).0 (sym f) in
        (then_passed (capacity_checks caps) (source_checks bytes)).1 (c.0, ((then_passed (price_list_checks list) (source_checks bytes)).0 c.1).1)

    pub passed_list : price_list_checks list ≡ Passed
    passed_list =
        let c = (then_passed (capacity_checks caps) (price_list_checks list and_then source_checks bytes)).0 (sym f) in
        ((then_passed (price_list_checks list) (source_checks bytes)).0 c.1).0

  pub checked : input_checks bytes caps ≡ Passed → price_list_checks list ≡ Passed → map_checks bytes caps list area ≡ late_checks bytes caps area
  unfolding map_checks
  checked i l = let c = (then_passed (capacity_checks caps) (source_checks bytes)).0 i in rw (c.0, l, c.1) refl

  -- all of them pass exactly if the list does, the source has a mapped netlist, and the area has room for it
  pub map_passed : (map_checks bytes caps list area ≡ Passed)
      ↔ ((price_list_checks list ≡ Passed) × (source_maps bytes caps ≡ Passed) × (check 10 0 (too_short (netlist bytes) caps area) ≡ Passed))
  unfolding map_checks source_maps
  map_passed = (
    λ e.
        let c = (then_passed (capacity_checks caps) _).0 e in
        let l = (then_passed (price_list_checks list) _).0 c.1 in
        let s = (then_passed (source_checks bytes) _).0 l.1 in
        let t = (then_passed (tree_checks (netlist bytes) caps) _).0 s.1 in
        let z = (then_passed (check 9 0 (too_large (netlist bytes) caps)) _).0 t.1 in (
          l.0,
          (then_passed (input_checks bytes caps) _).1
              ((then_passed (capacity_checks caps) _).1 (c.0, s.0), (then_passed (tree_checks (netlist bytes) caps) _).1 (t.0, z.0)),
          z.1,
        ),
    λ h.
        let m = (then_passed (input_checks bytes caps) _).0 h.1 in
        let t = (then_passed (tree_checks (netlist bytes) caps) _).0 m.1 in
        checked m.0 h.0
        ∙ (then_passed (tree_checks (netlist bytes) caps) _).1
        (t.0, (then_passed (check 9 0 (too_large (netlist bytes) caps)) _).1 (t.1, h.2)),
  )

  -- 8
  module _ (i : input_checks bytes caps ≡ Passed) (l : AppliedPrices list) (number place : ℕ) (f : Refused number place ≡ tree_checks (netlist bytes) caps) where
    tree_refused : map_checks bytes caps list area ≡ Refused number place
    tree_refused = checked i l.passes ∙ rw (← f) refl

    pub refused_tree : refusal number place ≡ map_answer bytes caps list area
    unfolding map_answer
    refused_tree = cc tree_refused

    pub kept_tree : area ≡ map_area bytes caps list area
    unfolding map_area
    kept_tree = cc tree_refused

-- what 1, 26 and 2 to 8 show
module _ (bytes : List ℕ) (caps : Capacities) (i : input_checks bytes caps ≡ Passed) (N : ℕ) (size : N ≡ record_count bytes) (total : ℕ)
    (p : Passed ≡ tree_checks (netlist bytes) caps) (e : total ≡ fewest_in_all (netlist bytes) caps) where
  pub counted_all : (first next : List ℕ) (end : ℕ) → Chained (netlist bytes) first next 0 end → Counted bytes caps N first next end total
  counted_all first next end l = let t = sym p in search

  pub sized_all : (totals : List ℕ) → NetNumbers (netlist bytes) caps N totals → N ≤ length totals → Sized bytes caps N totals total
  sized_all totals n l = let t = sym p in search

-- what 1, 26 and 2 to 9 show
pub passed_ready : (bytes : List ℕ) (caps : Capacities) → input_checks bytes caps ≡ Passed → tree_checks (netlist bytes) caps ≡ Passed →
    mapped_size (netlist bytes) caps ≤ mapped_limit → Ready (netlist bytes) caps
passed_ready bytes caps i t l =
    record {
      source = input_source bytes caps i;
      allowed = input_allowed bytes caps i;
      trees = λ d b.
          not-false _
          ((check_passed 8 d (no_tree (netlist bytes) caps d)).0 ((scan_passed (tree_check (netlist bytes) caps) (record_count bytes)).0 t d b));
      fits = l;
    }

-- the total of all trees cannot overflow
pub total_fits : (bytes : List ℕ) (caps : Capacities) (N total : ℕ) → input_checks bytes caps ≡ Passed → N ≡ record_count bytes →
    total ≡ fewest_in_all (netlist bytes) caps → Fits w64 (N + total)
total_fits bytes caps N total i e f =
    omega (
      arith,
      e,
      f,
      total_small (netlist bytes) caps (input_source bytes caps i) (input_allowed bytes caps i).low,
      (input_source bytes caps i).few,
    )

-- 9, 10 and acceptance
module _ (bytes : List ℕ) (caps : Capacities) (N : ℕ) (first next : List ℕ) (end total : ℕ) (h : Counted bytes caps N first next end total) where
  pub counted_ready : N + total ≤ mapped_limit → Ready (netlist bytes) caps
  counted_ready l = passed_ready bytes caps h.input h.trees (omega (arith, h.records, h.buffers))

  module _ (list area : List ℕ) (p : AppliedPrices list) where
    sized : map_checks bytes caps list area
        ≡ (check 9 0 (too_large (netlist bytes) caps) and_then check 10 0 (too_short (netlist bytes) caps area))
    sized = checked bytes caps list area h.input p.passes ∙ rw h.trees refl

    -- 9
    module _ (l : mapped_limit < N + total) where
      large : map_checks bytes caps list area ≡ Refused 9 0
      large = sized ∙ rw (lt-ltb mapped_limit (mapped_size (netlist bytes) caps) (omega (arith, h.records, h.buffers))) refl

      pub refused_large : refusal 9 0 ≡ map_answer bytes caps list area
      unfolding map_answer
      refused_large = cc large

      pub kept_large : area ≡ map_area bytes caps list area
      unfolding map_area
      kept_large = cc large

    module _ (l : N + total ≤ mapped_limit) where
      late : map_checks bytes caps list area ≡ check 10 0 (too_short (netlist bytes) caps area)
      late = sized ∙ rw (le-ltb mapped_limit (mapped_size (netlist bytes) caps) (omega (arith, h.records, h.buffers))) refl

      -- 10
      module _ (b : length area < width * (N + total)) where
        short : too_short (netlist bytes) caps area ≡ true
        short = lt-ltb (length area) (width * mapped_size (netlist bytes) caps) (omega (arith, h.records, h.buffers))

        pub refused_short : refusal 10 0 ≡ map_answer bytes caps list area
        unfolding map_answer
        refused_short = cc (late, short)

        pub kept_short : area ≡ map_area bytes caps list area
        unfolding map_area
        kept_short = cc (late, short)

      -- the prices of all trees and of all gates fit
      module _ (part gates : ℕ) (e : part ≡ sum (tree_price list (netlist bytes) caps) (netlist bytes).size)
          (f : gates ≡ sum (driver_price list (netlist bytes)) N) where
        pub part_fits : part ≤ 255 * mapped_limit
        part_fits = omega (arith, trees_small list p (netlist bytes) caps (input_allowed bytes caps h.input).low (netlist bytes).size, h.records, h.buffers)

        pub whole_fits : Fits w32 (gates + part)
        whole_fits =
            omega (arith, part_fits, drivers_small list p (netlist bytes) N, h.records, h.buffers)

      module _ (b : width * (N + total) ≤ length area) where
        pub mapped_room : width * mapped_size (netlist bytes) caps ≤ length area
        mapped_room = omega (arith, h.records, h.buffers)

        long : too_short (netlist bytes) caps area ≡ false
        long = le-ltb (length area) (width * mapped_size (netlist bytes) caps) mapped_room

        pub mapped_answer : (part gates : ℕ) (r : Mapping) → part ≡ sum (tree_price list (netlist bytes) caps) (netlist bytes).size →
            gates ≡ sum (driver_price list (netlist bytes)) N → r ≡ figures (netlist bytes) total part (gates + part) → r ≡ map_answer bytes caps list area
        unfolding map_answer
        mapped_answer part gates r e f g =
            let ready = counted_ready l in
            let a : part ≡ buffer_junctions list (mapped (netlist bytes) caps) = e ∙ sym (part_price list (netlist bytes) caps ready) in
            let w : gates + part ≡ junctions list (mapped (netlist bytes) caps) =
            ap₂ ◌+◌ (f ∙ ap (sum (driver_price list (netlist bytes))) h.records) e ∙ sym (whole_price list (netlist bytes) caps ready) in
            g ∙ rw (late, long) (ap₂ (λ (x y : ℕ). figures (netlist bytes) total x y) a w ∙ rw h.buffers refl)

        pub mapped_area : (after : List ℕ) → after ≡ onto (bytes_of (mapped (netlist bytes) caps)) area → after ≡ map_area bytes caps list area
        unfolding map_area
        mapped_area after e = cc (late, long)
