-- Laws of the block view: where a block begins, when there is none, and that its part lies within the area.
use Prim.Native.Nat.{ℕ, suc, ◌+◌, ◌-◌, ◌*◌, ◌≤◌, ◌<◌}
use mathlib.Core.Path.{◌≡◌, ◌∙◌}
use mathlib.Core.Bool.{Bool, true, false, cond}
use mathlib.Core.List.{List, []}
use native.Mathlib.Omega.{arith}
use native.Mathlib.Numerals.{add-one}
use mir.Val.{Fits}
use mir.Syntax.{w64}
use lib.ListN.{length, get_or, take, drop}
use borrow.Author.Tests.{le-leb, lt-leb, le-ltb, lt-ltb}
use Rattle.facts.specs.Answers.{Checked, Passed, Refused}
use Rattle.facts.specs.Sums.{sum}
use Rattle.facts.proofs.Sums.{sum_more}
use Rattle.netlist.specs.declared.Capacities.{Capacities}
use Rattle.netlist.specs.Kinds.{width, source_limit, mapped_limit, is_driver}
use Rattle.netlist.specs.Records.{netlist, record_count, record_at}
use Rattle.netlist.specs.Checks.{input_checks}
use Rattle.netlist.proofs.Records.{record_past}
use Rattle.fanout.specs.Nets.{tree_size}
use Rattle.mapper.specs.declared.Ends.{Ends}
use Rattle.mapper.specs.Mapped.{block_start, mapped_size}
use Rattle.mapper.specs.Answer.{source_maps}
use Rattle.nets.specs.Checks.{tree_checks}
use Rattle.mapper.specs.PrivateWriting.{Sized, Mappable}
use Rattle.nets.proofs.TreeCounts.{input_source, input_allowed, total_small, numbers_sum}
use Rattle.mapper.specs.View.{no_ends, own_ends, ends_of, block_ends, between}

module _ (bytes : List ℕ) (caps : Capacities) (d : ℕ) where
  -- 1, 26 and 2 to 7
  pub ends_input : (number place : ℕ) (r : Ends) → Refused number place ≡ input_checks bytes caps → r ≡ no_ends → r ≡ block_ends bytes caps d
  unfolding block_ends source_maps
  ends_input number place r e g = cc

  -- 8
  pub ends_tree : input_checks bytes caps ≡ Passed → (number place : ℕ) (r : Ends) → Refused number place ≡ tree_checks (netlist bytes) caps → r ≡ no_ends →
      r ≡ block_ends bytes caps d
  unfolding block_ends source_maps
  ends_tree i number place r e g = cc

-- 9
module _ (bytes : List ℕ) (caps : Capacities) (N : ℕ) (totals : List ℕ) (total : ℕ) (h : Sized bytes caps N totals total) where
  pub ends_large : (d : ℕ) (r : Ends) → mapped_limit < N + total → r ≡ no_ends → r ≡ block_ends bytes caps d
  unfolding block_ends source_maps
  ends_large d r l e = cc (lt-ltb mapped_limit (mapped_size (netlist bytes) caps) (omega (arith, h.records, h.buffers)))

  pub ends_maps : N + total ≤ mapped_limit → Mappable bytes caps N totals
  unfolding source_maps
  ends_maps l =
      let maps : source_maps bytes caps ≡ Passed = cc (le-ltb mapped_limit (mapped_size (netlist bytes) caps) (omega (arith, h.records, h.buffers))) in
      search

module _ (bytes : List ℕ) (caps : Capacities) (N : ℕ) (totals : List ℕ) (h : Mappable bytes caps N totals) where
  module _ (m : ℕ) (l : m ≤ N) where
    pub start_few : m ≤ source_limit
    start_few = omega (arith, h.records, (input_source bytes caps h.input).few)

    -- where a block begins
    module _ (total : ℕ) (e : total ≡ sum (λ d. get_or totals d 0) m) where
      before : total ≡ sum (tree_size (netlist bytes) caps) m
      before = e ∙ numbers_sum bytes caps N totals m h.trees h.numbers h.records l

      pub start_is : N + total ≡ block_start (netlist bytes) caps m
      start_is = omega (arith, before, h.records)

      pub start_fits : Fits w64 (N + total)
      start_fits =
          omega (
            arith,
            before,
            sum_more (tree_size (netlist bytes) caps) m (record_count bytes) (omega (arith, h.records)),
            total_small (netlist bytes) caps (input_source bytes caps h.input) (input_allowed bytes caps h.input).low,
            h.records,
            (input_source bytes caps h.input).few,
          )

  module _ (d : ℕ) where
    pub ends_past : (r : Ends) → N ≤ d → r ≡ no_ends → r ≡ block_ends bytes caps d
    unfolding block_ends
    ends_past r l e = cc (record_past bytes d (omega (arith, h.records)))

    module _ (kind : ℕ) (b : Bool) (k : kind ≡ (record_at bytes d).kind) (e : b ≡ is_driver kind) where
      pub ends_other : (r : Ends) → b ≡ false → r ≡ no_ends → r ≡ block_ends bytes caps d
      unfolding block_ends
      ends_other r f g = cc

      pub ends_driver : (x y : ℕ) → b ≡ true → x ≡ block_start (netlist bytes) caps d → y ≡ block_start (netlist bytes) caps (d + 1) →
          record { from = x; to = y } ≡ block_ends bytes caps d
      unfolding block_ends
      ends_driver x y f g i = cc (add-one d)

-- a block ends behind its beginning
ends_order : (bytes : List ℕ) (caps : Capacities) (d : ℕ) → (block_ends bytes caps d).from ≤ (block_ends bytes caps d).to
unfolding block_ends
ends_order bytes caps d = go (source_maps bytes caps)
  where
    pick : (b : Bool) → (cond b (own_ends (netlist bytes) caps d) no_ends).from
        ≤ (cond b (own_ends (netlist bytes) caps d) no_ends).to
    pick true = omega (arith, sum_more (tree_size (netlist bytes) caps) d (suc d) (omega arith))
    pick false = omega arith

    go : (a : Checked) → (ends_of a (netlist bytes) caps d).from ≤ (ends_of a (netlist bytes) caps d).to
    go Passed = pick (is_driver (record_at bytes d).kind)
    go (Refused number place) = omega arith

module _ (bytes area : List ℕ) (caps : Capacities) (d : ℕ) (e : Ends) (h : e ≡ block_ends bytes caps d) where
  ordered : e.from ≤ e.to
  ordered = rw h (ends_order bytes caps d)

  pub view_empty : (m : ℕ) → m ≡ record_count area → m < e.to → [] ≡ between area (block_ends bytes caps d)
  view_empty m c l = cc (lt-leb e.to (record_count area) (omega arith))

  module _ (m : ℕ) (c : m ≡ record_count area) (l : e.to ≤ m) where
    pub view_order : width * e.from ≤ width * e.to
    view_order = omega (arith, ordered)

    pub view_end : width * e.to ≤ length area
    view_end = omega arith

    pub view_part : take (width * e.to - width * e.from) (drop (width * e.from) area) ≡ between area (block_ends bytes caps d)
    view_part = cc (le-leb e.to (record_count area) (omega arith))
