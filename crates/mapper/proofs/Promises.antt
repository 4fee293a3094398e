-- The promises of the mapper and of the block view.
use Prim.Native.Nat.{ℕ, suc, ◌+◌, ◌-◌, ◌*◌, ◌≤◌}
use mathlib.Core.Path.{◌≡◌, refl, sym, ◌∙◌, ap, ap₂}
use mathlib.Core.Logic.{◌↔◌, ⊎_elim}
use mathlib.Core.Bool.{Bool, true, false, not}
use mathlib.Core.List.{List, [], ◌++◌, append_assoc}
use native.Mathlib.Omega.{arith}
use native.Mathlib.Nat.{zero-add}
use lib.ListN.{length, take, drop, length-append, length-drop}
use lib.Seq.{take_at, drop_at}
use borrow.Author.Tests.{le-leb, not-true}
use Rattle.facts.specs.Answers.{Checked, Passed, Refused}
use Rattle.facts.specs.Checks.{check, ◌and_then◌}
use Rattle.facts.specs.Sums.{sum}
use Rattle.facts.proofs.Sums.{sum_more}
use Rattle.facts.specs.Refusals.{Conditions, row_of, Fails, ◌or◌, Each, First}
use Rattle.facts.specs.Areas.{onto}
use Rattle.facts.proofs.Bools.{true_false}
use Rattle.facts.proofs.Reflect.{less, check_passed, then_passed, less_none}
use Rattle.facts.proofs.Refusals.{InRow, After, exact, rows_before, one_row, within_one, first_check, first_after, first_then, first_scan, scan_rows}
use Rattle.netlist.specs.declared.Capacities.{Capacities}
use Rattle.netlist.specs.Kinds.{width, mapped_limit, is_driver}
use Rattle.netlist.specs.Records.{Netlist, netlist, record_count, record_at}
use Rattle.netlist.specs.Source.{IsSource}
use Rattle.netlist.specs.Checks.{capacity_checks, source_checks, input_checks}
use Rattle.netlist.specs.Refusals.{SourceFails}
use Rattle.netlist.specs.Capacities.{capacity_of}
use Rattle.netlist.specs.Bytes.{recs, bytes_of}
use Rattle.netlist.proofs.Source.{driver_inside}
use Rattle.netlist.proofs.Refusals.{capacities_rows, capacities_first, source_rows, source_first}
use Rattle.netlist.proofs.Bytes.{length_recs, recs_append}
use Rattle.fanout.specs.Nets.{row, nodes_at, net_has_tree, tree_size, fewest_in_all}
use Rattle.fanout.specs.Trees.{Tree, Legal, net_of}
use Rattle.fanout.specs.Promises.{LeastNetTree}
use Rattle.fanout.proofs.Promises.{tree_exactly, least_tree}
use Rattle.fanout.proofs.Rows.{row_of_net, no_sinks}
use Rattle.mapper.specs.Answer.{Mapping}
use Rattle.mapper.specs.Mapped.{block_start, mapped_size, mapped}
use Rattle.mapper.specs.PrivateWriting.{Ready}
use Rattle.mapper.specs.View.{no_ends, ends_of, block_ends, between}
use Rattle.mapper.specs.Answer.{figures, too_large, too_short, source_maps, map_checks, answer_of, area_of, map_answer, map_area}
use Rattle.mapper.specs.Promises.{Treeless, TooLarge, TooShort, MapFails, MapExact, RefusedLeaves, Accepts, AcceptedMaps, AnyPriceList, BlockWritten, BlockNone}
use Rattle.prices.specs.Prices.{junctions, buffer_junctions}
use Rattle.prices.specs.Checks.{price_list_checks}
use Rattle.prices.specs.Promises.{PriceListFails}
use Rattle.prices.proofs.Promises.{list_rows, list_first}
use Rattle.mapper.proofs.Answering.{passed_ready, map_passed}
use Rattle.nets.specs.Checks.{no_tree, tree_check, tree_checks}
use Rattle.nets.proofs.TreeCounts.{input_source, input_allowed, measured_none}
use Rattle.mapper.proofs.Written.{mapped_read}
use Rattle.mapper.proofs.Feeds.{buffer_count_lem}

-- check 8 of d fails exactly if d is a driver for whose net no legal tree exists
treeless_is : (n : Netlist) (caps : Capacities) (d : ℕ) → IsSource n → 2 ≤ caps.buffer → (no_tree n caps d ≡ true) ↔ Treeless n caps d
treeless_is n caps d i p = (there (is_driver (n.at d).kind) refl, λ h. back (net_has_tree n caps d) refl h)
  where
    c : ℕ
    c = capacity_of caps (n.at d).kind

    exactly : ((t : Tree) × Legal c caps.buffer (net_of n d) t) ↔ (net_has_tree n caps d ≡ true)
    exactly = tree_exactly c caps.buffer (net_of n d) (row n d) (omega arith) (row_of_net n d i)

    there : (b : Bool) → is_driver (n.at d).kind ≡ b → no_tree n caps d ≡ true → Treeless n caps d
    there true e h = (e, λ t l. true_false (net_has_tree n caps d) (exactly.0 (t, l)) (not-true _ h))
    there false e h = absurd (true_false (net_has_tree n caps d) empty (not-true _ h))
      where
        empty : net_has_tree n caps d ≡ true
        empty = le-leb (nodes_at caps.buffer (row n d) 1) c (omega (arith, (measured_none n caps d p (no_sinks n d i e)).nodes))

    back : (b : Bool) → net_has_tree n caps d ≡ b → Treeless n caps d → no_tree n caps d ≡ true
    back true e h = let t = exactly.1 e in absurd (h.1 t.0 t.1)
    back false e h = ap not e

-- the checks give their first failing condition
module _ (bytes : List ℕ) (caps : Capacities) (list area : List ℕ) where
  abbrev Trees : Conditions
  Trees = Each (record_count bytes) (λ d. Fails 8 d (Treeless (netlist bytes) caps d))

  abbrev Sizes : Conditions
  Sizes = Fails 9 0 (TooLarge (netlist bytes) caps) or Fails 10 0 (TooShort (netlist bytes) caps area)

  tree_rows : InRow (row_of 8) Trees
  tree_rows = scan_rows (λ d. Fails 8 d (Treeless (netlist bytes) caps d)) (row_of 8) 8 8 (record_count bytes) (λ d. within_one 8 d (Treeless (netlist bytes) caps d))

  size_rows : After (row_of 8) Sizes
  size_rows k p =
      ⊎_elim
      (λ f. omega (arith, one_row 9 0 (TooLarge (netlist bytes) caps) k p f))
      (λ f. omega (arith, one_row 10 0 (TooShort (netlist bytes) caps area) k p f))

  late_rows : After (row_of 7) (Trees or Sizes)
  late_rows k p = ⊎_elim (λ f. omega (arith, tree_rows k p f)) (λ f. omega (arith, size_rows k p f))

  source_late : After (row_of 28) (SourceFails bytes or Trees or Sizes)
  source_late k p = ⊎_elim (λ f. (source_rows bytes k p f).0) (λ f. omega (arith, late_rows k p f))

  list_late : After (row_of 26) (PriceListFails list or SourceFails bytes or Trees or Sizes)
  list_late k p = ⊎_elim (λ f. (list_rows list k p f).0) (λ f. omega (arith, source_late k p f))

  trees_first : input_checks bytes caps ≡ Passed →
      First (Trees or Sizes)
      (tree_checks (netlist bytes) caps and_then check 9 0 (too_large (netlist bytes) caps) and_then check 10 0 (too_short (netlist bytes) caps area))
  trees_first i =
      first_then
      (rows_before (row_of 8) (λ k p f. omega (arith, tree_rows k p f)) size_rows)
      (first_scan (tree_check (netlist bytes) caps) (λ d. Fails 8 d (Treeless (netlist bytes) caps d)) (row_of 8) 8 8
      (λ d. within_one 8 d (Treeless (netlist bytes) caps d)) (record_count bytes)
      (λ d l. first_check 8 d (treeless_is (netlist bytes) caps d (input_source bytes caps i) (input_allowed bytes caps i).low)))
      (first_then
      (rows_before (row_of 9)
      (λ k p f. omega (arith, one_row 9 0 (TooLarge (netlist bytes) caps) k p f))
      (λ k p f. omega (arith, one_row 10 0 (TooShort (netlist bytes) caps area) k p f)))
      (first_check 9 0 (less mapped_limit (mapped_size (netlist bytes) caps)))
      (first_check 10 0 (less (length area) (width * mapped_size (netlist bytes) caps))))

  map_first : First (MapFails bytes caps list area) (map_checks bytes caps list area)
  unfolding map_checks
  map_first =
      first_after (rows_before (row_of 26) (λ k p f. (capacities_rows caps k p f).1) list_late) (capacities_first caps)
      (λ c.
      first_then (rows_before (row_of 28) (λ k p f. (list_rows list k p f).1) source_late) (list_first list)
      (first_after (rows_before (row_of 7) (λ k p f. (source_rows bytes k p f).1) late_rows) (source_first bytes)
      (λ i. trees_first ((then_passed (capacity_checks caps) (source_checks bytes)).1 (c, i)))))

pub map_exact : MapExact
map_exact bytes caps list area = exact (map_first bytes caps list area)

pub refused_leaves : RefusedLeaves
unfolding map_answer map_area
refused_leaves bytes caps list area number place e =
    record { answer = cc; kept = cc }

-- what an accepted call shows
module _ (bytes : List ℕ) (caps : Capacities) where
  pub maps_ready : source_maps bytes caps ≡ Passed → Ready (netlist bytes) caps
  unfolding source_maps
  maps_ready e =
      let a = (then_passed (input_checks bytes caps) (tree_checks (netlist bytes) caps and_then check 9 0 (too_large (netlist bytes) caps))).0 e in
      let b = (then_passed (tree_checks (netlist bytes) caps) (check 9 0 (too_large (netlist bytes) caps))).0 a.1 in
      passed_ready bytes caps a.0 b.0
      ((less_none mapped_limit (mapped_size (netlist bytes) caps)).0 ((check_passed 9 0 (too_large (netlist bytes) caps)).0 b.1))

  module _ (list area : List ℕ) (e : map_checks bytes caps list area ≡ Passed) where
    parts : (price_list_checks list ≡ Passed) × (source_maps bytes caps ≡ Passed) × (check 10 0 (too_short (netlist bytes) caps area) ≡ Passed)
    parts = (map_passed bytes caps list area).0 e

    ready : Ready (netlist bytes) caps
    ready = maps_ready parts.1

    room : width * mapped_size (netlist bytes) caps ≤ length area
    room = (less_none (length area) (width * mapped_size (netlist bytes) caps)).0 ((check_passed 10 0 (too_short (netlist bytes) caps area)).0 parts.2)

    answered : map_answer bytes caps list area
        ≡ figures (netlist bytes) (fewest_in_all (netlist bytes) caps) (buffer_junctions list (mapped (netlist bytes) caps))
        (junctions list (mapped (netlist bytes) caps))
    unfolding map_answer
    answered = ap (λ (a : Checked). answer_of a (netlist bytes) caps list) e

    area_written : map_area bytes caps list area ≡ onto (bytes_of (mapped (netlist bytes) caps)) area
    unfolding map_area
    area_written = ap (λ (a : Checked). area_of a (netlist bytes) caps area) e

    long_bytes : length (bytes_of (mapped (netlist bytes) caps)) ≡ width * mapped_size (netlist bytes) caps
    long_bytes = length_recs (mapped (netlist bytes) caps) 0 (mapped_size (netlist bytes) caps)

    net_least : (d : ℕ) → is_driver (record_at bytes d).kind ≡ true →
        LeastNetTree (netlist bytes) caps d (tree_size (netlist bytes) caps d)
    net_least d b =
        least_tree (capacity_of caps (record_at bytes d).kind) caps.buffer (net_of (netlist bytes) d) (row (netlist bytes) d)
        (omega (arith, ready.allowed.low)) (row_of_net (netlist bytes) d ready.source) (ready.trees d (driver_inside bytes d b))

    net_none : (d : ℕ) → is_driver (record_at bytes d).kind ≡ false → tree_size (netlist bytes) caps d ≡ 0
    net_none d b =
        sym (measured_none (netlist bytes) caps d ready.allowed.low (no_sinks (netlist bytes) d ready.source b)).buffers

    accepts : Accepts bytes caps list area
    accepts =
        record {
          number = ap (λ (m : Mapping). m.number) answered;
          place = ap (λ (m : Mapping). m.place) answered;
          size = ap (λ (m : Mapping). m.size) answered ∙ sym (ap (λ (m : Mapping). record_count bytes + m.buffers) answered);
          written =
              ap₂ (λ (m : Mapping) (a : List ℕ). netlist (take (width * m.size) a)) answered area_written
              ∙ ap netlist (take_at (bytes_of (mapped (netlist bytes) caps)) _ (width * mapped_size (netlist bytes) caps) long_bytes)
              ∙ mapped_read (netlist bytes) caps ready;
          long =
              ap length area_written
              ∙ length-append (bytes_of (mapped (netlist bytes) caps)) (drop (length (bytes_of (mapped (netlist bytes) caps))) area)
              ∙ omega (arith, long_bytes, room, length-drop (length (bytes_of (mapped (netlist bytes) caps))) area);
          kinds = ap (λ (m : Mapping). m.buffers) answered ∙ sym (buffer_count_lem (netlist bytes) caps ready);
          fewest = ap (λ (m : Mapping). m.buffers) answered;
          least = net_least;
          none = net_none;
        }

pub accepted_maps : AcceptedMaps
accepted_maps bytes caps list area e = accepts bytes caps list area e

-- two lists that pass leave the same checks
good_checks : (source : List ℕ) (caps : Capacities) (list other area : List ℕ) → price_list_checks list ≡ Passed → price_list_checks other ≡ Passed →
    map_checks source caps other area ≡ map_checks source caps list area
unfolding map_checks
good_checks source caps list other area e f = rw (e, f) refl

-- what two answers that the same checks leave have in common
answers_alike : (source : List ℕ) (caps : Capacities) (list other : List ℕ) (a : Checked) →
    let x : Mapping = answer_of a (netlist source) caps list in
    let y : Mapping = answer_of a (netlist source) caps other in
    (y.number ≡ x.number) × (y.place ≡ x.place) × (y.size ≡ x.size) × (y.buffers ≡ x.buffers) × (y.depth ≡ x.depth)
answers_alike source caps list other Passed = (refl, refl, refl, refl, refl)
answers_alike source caps list other (Refused number place) = (refl, refl, refl, refl, refl)

pub any_price_list_lem : AnyPriceList
unfolding map_answer map_area
any_price_list_lem source caps list other area e f =
    let same = good_checks source caps list other area e f in
    let alike = answers_alike source caps list other (map_checks source caps list area) in
    record {
      number = rw same alike.0;
      place = rw same alike.1;
      size = rw same alike.2;
      buffers = rw same alike.3;
      depth = rw same alike.4;
      bytes = rw same refl;
    }

-- c records from record i on, of a netlist's bytes and what follows them
part_recs : (m : Netlist) (i c k : ℕ) (rest : List ℕ) →
    take (width * c) (drop (width * i) (recs m 0 (i + (c + k)) ++ rest)) ≡ recs m i c
part_recs m i c k rest =
    rw (recs_append m 0 i (c + k), zero-add i, recs_append m i c k, append_assoc, append_assoc, drop_at (recs m 0 i) _ (width * i) (length_recs m 0 i))
    (take_at (recs m i c) (recs m (i + c) k ++ rest) (width * c) (length_recs m i c))

pub block_written : BlockWritten
unfolding sum block_ends
block_written bytes caps list area d e b =
    rw ((parts bytes caps list area e).1, b, le-leb to (record_count (map_area bytes caps list area)) inside, wide, area_written bytes caps list area e)
    (ap (λ (k : ℕ). take (width * c) (drop (width * start) (recs (mapped (netlist bytes) caps) 0 k ++ past))) all
    ∙ part_recs (mapped (netlist bytes) caps) start c rest past)
  where
    start : ℕ
    start = block_start (netlist bytes) caps d

    to : ℕ
    to = block_start (netlist bytes) caps (suc d)

    c : ℕ
    c = tree_size (netlist bytes) caps d

    rest : ℕ
    rest = mapped_size (netlist bytes) caps - to

    past : List ℕ
    past = drop (length (bytes_of (mapped (netlist bytes) caps))) area

    before : to ≤ mapped_size (netlist bytes) caps
    before = omega (arith, sum_more (tree_size (netlist bytes) caps) (suc d) (record_count bytes) (driver_inside bytes d b))

    inside : to ≤ record_count (map_area bytes caps list area)
    inside = omega (arith, before, (accepts bytes caps list area e).long, room bytes caps list area e)

    wide : width * to - width * start ≡ width * c
    wide = omega arith

    all : mapped_size (netlist bytes) caps ≡ start + (c + rest)
    all = omega (arith, before)

none_between : (area : List ℕ) → between area no_ends ≡ []
none_between area = rw (le-leb 0 (record_count area) (omega arith)) refl

pub block_none : BlockNone
unfolding block_ends
block_none bytes caps area d = (λ number place e. rw e (none_between area), other (source_maps bytes caps))
  where
    other : (a : Checked) → is_driver (record_at bytes d).kind ≡ false → between area (ends_of a (netlist bytes) caps d) ≡ []
    other Passed b = rw b (none_between area)
    other (Refused number place) b = none_between area
