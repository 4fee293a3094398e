-- Round trips: what the mapper wrote is accepted for its source, so that is the one that stripping writes; and a source that stripping wrote
-- has an accepted netlist, so the mapper takes it and has no more buffers.
use Prim.Native.Nat.{ℕ, ◌*◌, ◌≤◌}
use native.Mathlib.Omega.{arith}
use mathlib.Core.Path.{◌≡◌, refl, sym, ap, ◌∙◌, subst}
use mathlib.Core.List.{List}
use lib.ListN.{length, take, drop}
use lib.Seq.{take_at}
use borrow.Author.Tests.{le-ltb}
use Rattle.facts.specs.Answers.{Checked, Passed}
use Rattle.facts.proofs.Reflect.{check_passed}
use Rattle.netlist.specs.declared.Capacities.{Capacities}
use Rattle.netlist.specs.Kinds.{width}
use Rattle.netlist.specs.Records.{netlist, record_count}
use Rattle.verifier.proofs.Accepted.{accepted_exactly}
use Rattle.verifier.proofs.Fewest.{none_accepted_fewer}
use Rattle.strip.specs.Sources.{SourceOf}
use Rattle.strip.specs.Answer.{strip_area}
use Rattle.strip.proofs.Promises.{strip_accepts, strip_writes}
use Rattle.mapper.specs.Mapped.{mapped_size}
use Rattle.prices.specs.Checks.{price_list_checks}
use Rattle.mapper.specs.Answer.{map_answer, answer_of}
use Rattle.promises.specs.Written.{Maps, written}
use Rattle.promises.specs.RoundTrips.{StripMapped, stripped_source, MapsNoWorse, MapStripped}
use Rattle.promises.proofs.Written.{written_accepted, written_least, maps_where_accepted}

pub strip_mapped_lem : StripMapped
strip_mapped_lem source caps list area back bytes maps room =
    let from : SourceOf caps (written source caps list area) source =
    record { bytes = bytes; buffers = (map_answer source caps list area).buffers; accepted = written_accepted source caps list area maps } in (
      (strip_accepts caps (written source caps list area) back (record_count source)).1 (source, from, room, refl),
      strip_writes caps (written source caps list area) back source from room,
    )

-- where the verifier accepts another netlist, an area as long as that is enough
maps_within : (source : List ℕ) (caps : Capacities) (other list area : List ℕ) → SourceOf caps other source → price_list_checks list ≡ Passed →
    length other ≤ length area → Maps source caps list area
unfolding map_answer
maps_within source caps other list area s l room =
    let few = none_accepted_fewer source caps other s.buffers s.accepted in
    ap (λ (a : Checked). (answer_of a (netlist source) caps list).number)
    (maps_where_accepted source caps other list area s.buffers s.accepted l
    ∙ (check_passed 10 0 _).1 (le-ltb (length area) (width * mapped_size (netlist source) caps) (omega (arith, few.fits))))

pub map_stripped_lem : MapStripped
map_stripped_lem caps mapped source size list area e good room =
    let found = (strip_accepts caps mapped source size).0 e in
    let s = found.1 in
    let same : stripped_source caps mapped source size ≡ found.0 = wrote found.0 s found.2 found.3 in
    let maps = maps_within found.0 caps mapped list area s good room in
    let least = written_least found.0 caps list area mapped s.buffers maps s.accepted in
    subst (λ (l : List ℕ). MapsNoWorse l caps list area mapped) (sym same)
    (record {
      maps = maps;
      answered = omega (arith, ((accepted_exactly found.0 caps mapped s.buffers).0 s.accepted).1);
      no_more = least.1;
    })
  where
    wrote : (l : List ℕ) → SourceOf caps mapped l → length l ≤ length source → size ≡ record_count l → take (width * size) (strip_area caps mapped source) ≡ l
    wrote l s fits n =
        let whole = ((accepted_exactly l caps mapped s.buffers).0 s.accepted).0.is_source.whole in
        ap (take (width * size)) (strip_writes caps mapped source l s fits)
        ∙ take_at l (drop (length l) source) (width * size) (omega (arith, whole, n))
