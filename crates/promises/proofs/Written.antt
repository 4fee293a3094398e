-- What the mapper writes is accepted, and nothing accepted has fewer buffers: its bytes are those of the mapped netlist, which is
-- legal and has the fewest buffers of all nets.
use Prim.Native.Nat.{ℕ, ◌*◌, ◌-◌, ◌<◌}
use native.Mathlib.Omega.{arith}
use mathlib.Core.Path.{◌≡◌, refl, sym, ap, ◌∙◌}
use mathlib.Core.Bool.{not}
use mathlib.Core.Logic.{⊎_elim}
use mathlib.Core.List.{List}
use lib.ListN.{length, drop}
use lib.Seq.{take_at, drop_at}
use borrow.Author.Tests.{le-ltb}
use Rattle.facts.specs.Answers.{Passed}
use Rattle.nets.specs.Checks.{no_tree, tree_check}
use Rattle.facts.specs.Refusals.{row_of}
use Rattle.facts.proofs.Refusals.{Numbered, row_positive, zero_passed}
use Rattle.facts.proofs.Reflect.{check_passed, then_passed, scan_passed}
use Rattle.netlist.specs.declared.Capacities.{Capacities}
use Rattle.netlist.specs.Kinds.{width, mapped_limit}
use Rattle.netlist.specs.Records.{Netlist, netlist, record_count}
use Rattle.netlist.specs.Source.{Source}
use Rattle.netlist.specs.Checks.{input_checks}
use Rattle.netlist.specs.Counts.{buffer_count}
use Rattle.netlist.specs.Bytes.{bytes_of}
use Rattle.netlist.proofs.Refusals.{capacities_rows, source_rows}
use Rattle.prices.proofs.Promises.{list_rows}
use Rattle.netlist.proofs.Source.{input_passed}
use Rattle.netlist.proofs.Bytes.{length_recs}
use Rattle.mapper.specs.Mapped.{mapped_size, mapped}
use Rattle.mapper.specs.PrivateWriting.{Ready}
use Rattle.mapper.specs.Answer.{too_large, source_maps, map_checks, answer_of, map_answer, map_area}
use Rattle.mapper.specs.Promises.{MapFails}
use Rattle.mapper.proofs.Answering.{checked, map_passed}
use Rattle.mapper.proofs.Promises.{maps_ready, map_exact}
use Rattle.mapper.proofs.Written.{mapped_read}
use Rattle.verifier.specs.Checks.{verify_checks}
use Rattle.verifier.proofs.Accepted.{checks_passed, accepted_exactly, buffers_all}
use Rattle.verifier.proofs.Balance.{accepted_balanced_lem}
use Rattle.verifier.proofs.Fewest.{none_accepted_fewer}
use Rattle.verifier.proofs.Least.{least_everywhere}
use Rattle.promises.specs.Written.{Maps, written, WrittenLegal, WrittenBalanced, WrittenAccepted, WrittenLeast, BuffersOneNumber, BeyondKept, MapsWhereAccepted}
use Rattle.promises.proofs.Ready.{mapped_legal, mapped_fewest}

-- what passing 1, 26 and 2 to 9 gives
pub record Mapped (source : List ℕ) (caps : Capacities) : Type 0 where
  pub is_source : Source source
  pub ready : Ready (netlist source) caps

pub source_ready : (source : List ℕ) (caps : Capacities) → source_maps source caps ≡ Passed → Mapped source caps
unfolding source_maps
source_ready source caps e =
    record {
      is_source = (input_passed source caps ((then_passed (input_checks source caps) _).0 e).0).is_source;
      ready = maps_ready source caps e;
    }

-- no refusal of the mapper has number 0
pub map_numbered : (source : List ℕ) (caps : Capacities) (list area : List ℕ) → Numbered (MapFails source caps list area)
map_numbered source caps list area number place =
    ⊎_elim
    (λ a. row_positive number (row_of 0) (capacities_rows caps number place a).0)
    (⊎_elim
    (λ a. row_positive number (row_of 26) (list_rows list number place a).0)
    (⊎_elim
    (λ a. row_positive number (row_of 28) (source_rows source number place a).0)
    (⊎_elim (λ a. omega (arith, a.2.0)) (⊎_elim (λ a. omega (arith, a.0)) (λ a. omega (arith, a.0))))))

-- an accepted call passes all its checks
pub maps_passed : (source : List ℕ) (caps : Capacities) (list area : List ℕ) → Maps source caps list area → map_checks source caps list area ≡ Passed
unfolding map_answer
maps_passed source caps list area =
    zero_passed (λ a. (answer_of a (netlist source) caps list).number) (map_exact source caps list area) (map_numbered source caps list area) (λ n p. refl)

module _ (source : List ℕ) (caps : Capacities) (list area : List ℕ) (maps : Maps source caps list area) where
  pub mapped_from : Mapped source caps
  mapped_from = source_ready source caps ((map_passed source caps list area).0 (maps_passed source caps list area maps)).1

  pub answer_size : (map_answer source caps list area).size ≡ mapped_size (netlist source) caps
  unfolding map_answer
  answer_size = rw (maps_passed source caps list area maps) (omega arith)

  answer_buffers : (map_answer source caps list area).buffers ≡ mapped_size (netlist source) caps - record_count source
  unfolding map_answer
  answer_buffers = rw (maps_passed source caps list area maps) (omega arith)

  written_bytes : written source caps list area ≡ bytes_of (mapped (netlist source) caps)
  unfolding map_area
  written_bytes =
      rw (answer_size, maps_passed source caps list area maps)
      (take_at (bytes_of (mapped (netlist source) caps)) (drop (length (bytes_of (mapped (netlist source) caps))) area) (width * mapped_size (netlist source) caps) (length_recs (mapped (netlist source) caps) 0 (mapped_size (netlist source) caps)))

  pub written_netlist : netlist (written source caps list area) ≡ mapped (netlist source) caps
  written_netlist = ap netlist written_bytes ∙ mapped_read (netlist source) caps mapped_from.ready

pub beyond_kept : BeyondKept
unfolding map_area
beyond_kept source caps list area maps =
    let bytes : List ℕ = bytes_of (mapped (netlist source) caps) in
    let long : length bytes ≡ width * mapped_size (netlist source) caps = length_recs (mapped (netlist source) caps) 0 (mapped_size (netlist source) caps) in
    rw (answer_size source caps list area maps, maps_passed source caps list area maps)
    (drop_at bytes (drop (length bytes) area) (width * mapped_size (netlist source) caps) long ∙ ap (λ (k : ℕ). drop k area) long)

pub written_legal : WrittenLegal
written_legal source caps list area maps =
    let m = mapped_from source caps list area maps in
    record {
      allowed = m.ready.allowed;
      is_source = m.is_source;
      whole = rw (ap length (written_bytes source caps list area maps) ∙ length_recs (mapped (netlist source) caps) 0 (mapped_size (netlist source) caps)) (omega arith);
      fits = rw (ap (λ (x : Netlist). x.size) (written_netlist source caps list area maps)) m.ready.fits;
      legal = rw (written_netlist source caps list area maps) (mapped_legal (netlist source) caps m.ready);
    }

module _ (source : List ℕ) (caps : Capacities) (list area : List ℕ) (maps : Maps source caps list area) where
  buffers_written : (map_answer source caps list area).buffers ≡ buffer_count (netlist (written source caps list area))
  buffers_written =
      let legal = written_legal source caps list area maps in
      answer_buffers source caps list area maps
      ∙ sym (buffers_all (netlist source) caps (netlist (written source caps list area)) legal.is_source.is_source legal.legal
      ∙ ap (λ (x : Netlist). x.size - record_count source) (written_netlist source caps list area maps))

pub written_accepted : WrittenAccepted
written_accepted source caps list area maps =
    (accepted_exactly source caps (written source caps list area) (map_answer source caps list area).buffers).1
    (written_legal source caps list area maps, buffers_written source caps list area maps)

pub written_balanced : WrittenBalanced
written_balanced source caps list area maps =
    accepted_balanced_lem source caps (written source caps list area) (map_answer source caps list area).buffers (written_accepted source caps list area maps)

pub written_least : WrittenLeast
written_least source caps list area other buffers maps e =
    let ours = written_legal source caps list area maps in
    let theirs = (accepted_exactly source caps other buffers).0 e in
    let least =
    least_everywhere (netlist source) caps (netlist (written source caps list area)) (netlist other) (omega (arith, ours.allowed.low)) ours.is_source.is_source ours.legal theirs.0.legal
    (omega (arith, ap buffer_count (written_netlist source caps list area maps), mapped_fewest (netlist source) caps (mapped_from source caps list area maps).ready)) in
    (omega (arith, buffers_written source caps list area maps, theirs.1, least.in_all), least)

pub buffers_one_number : BuffersOneNumber
buffers_one_number source caps list area maps =
    let m = mapped_from source caps list area maps in
    record {
      added = omega (arith, answer_size source caps list area maps, answer_buffers source caps list area maps);
      kinds = sym (buffers_written source caps list area maps);
      counts = sym (buffers_written source caps list area maps ∙ ap buffer_count (written_netlist source caps list area maps) ∙ mapped_fewest (netlist source) caps m.ready);
    }

pub maps_where_accepted : MapsWhereAccepted
unfolding verify_checks
maps_where_accepted source caps other list area buffers e f =
    let a = ((accepted_exactly source caps other buffers).0 e).0 in
    let few = none_accepted_fewer source caps other buffers e in
    let p : 0 < caps.buffer = omega (arith, a.allowed.low) in
    let n = netlist source in
    checked source caps list area ((then_passed (input_checks source caps) _).0 ((checks_passed source caps other).1 a)).0 f
    ∙ rw (
      (scan_passed (tree_check n caps) n.size).1 (λ d l. (check_passed 8 d (no_tree n caps d)).1 (ap not (few.trees d l))),
      (check_passed 9 0 (too_large n caps)).1 (le-ltb mapped_limit (mapped_size n caps) (omega (arith, few.fits))),
    )
    refl
