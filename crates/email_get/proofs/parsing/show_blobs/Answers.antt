use Rattle.std.proofs.Common.{◌≡◌, ◌<◌, ◌+◌, ℕ, List, [], ◌∷◌, ◌++◌, Bor, map, drop, get_or, length, option_map, Ok, refl, ap}
use Rattle.std.proofs.lemmas.List.{drop_all, drop_more}
use Rattle.serde_json.specs.View.{view, members_view}
use Rattle.email_bodies.specs.Asking.{BodyAsk}
use Rattle.email_properties.specs.Wanted.{email_asked}
use Rattle.jmap_arguments.specs.declared.method_error.MethodError.TheVariants.{Memory}
use Rattle.email_get.specs.EmailParse.{ShownBlob, ShowsBlob}
use Rattle.email_get.specs.declared.parsing.Shown.{Shown}
use Rattle.email_get.specs.reading.Gathered.{GatheredBlobs, GathersThese}
use Rattle.email_get.specs.Showing.{ShowsAll}
use Rattle.email_get.proofs.AskLemmas.{lacks_memory, same_error, given_after}
use Rattle.email_get.proofs.Due.{due_shown_blob}
use Rattle.email_get.proofs.LoopLemmas.{begins, continues, stops, lacks_after, finishes}
use Rattle.email_get.proofs.ParseLemmas.{none_gathered, members_whole, gathers_on, put_found_whole, missing_whole}
use Rattle.email_get.proofs.parsing.show_blobs.Goals as goal

abbrev gathered : Shown → GatheredBlobs
gathered s = record { parsed = members_view s.parsed.entries; missing = map view s.missing.items }

-- texts, as they are
abbrev nows : List (Bor (List ℕ)) → List (List ℕ)
nows ts = map (λ t. t.now) ts

abbrev no_text : Bor (List ℕ)
no_text = record { ref_ptr = (0, 0); now = [] }

pub loop-id-init : goal.loop-id-init
loop-id-init g c = record {
  done = [];
  shown = begins g.B.BodySource.answers g.B.BodySource.lacks (ShowsBlob c.args.state.now.rows.numbered.rows c.args.blobs.now (email_asked c.args.wanted.now))
      (nows c.args.ids.now.items)
      (c.args.bodies.now, c.args.world.now) (nows c.deref-id-items.result.now) [] (ap nows c.deref-id-items.ensures.value) refl;
  gathers = none_gathered c.new.result.entries c.new-2.result.items c.new.ensures.empty c.new-2.ensures.items;
  whole = members_whole c.new.result.entries c.new.ensures.empty;
}

-- the texts from one place on
from_here : (ts : List (Bor (List ℕ))) (i : ℕ) → i < length ts → nows (drop i ts) ≡ (get_or ts i no_text).now ∷ nows (drop (i + 1) ts)
from_here ts i inside = ap nows (drop_more ts i no_text inside)

pub returns-in_err-found-clause-shows : goal.returns-in_err-found-clause-shows
returns-in_err-found-clause-shows g c =
    let Shows = ShowsBlob c.args.state.now.rows.numbered.rows c.args.blobs.now (email_asked c.args.wanted.now) in
    let ids = nows c.args.ids.now.items in
    let items = c.deref-id-items.result.now in
    let i = c.loop-id.id-index in
    let e = c.in_err-found.field-0.0 in
    same_error g.B.BodySource.answers g.B.BodySource.lacks Memory gathered (c.args.bodies.now, c.args.world.now) (c.parsed_blob.new.bodies, c.parsed_blob.new.world)
    c.from_residual.result e (GathersThese c.args.state.now.rows.numbered.rows c.args.blobs.now (email_asked c.args.wanted.now) ids) c.from_residual.ensures.1
    (stops g.B.BodySource.answers g.B.BodySource.lacks Shows ids Memory (c.args.bodies.now, c.args.world.now) (c.loop-id.bodies, c.loop-id.world)
    (c.parsed_blob.new.bodies, c.parsed_blob.new.world) (nows (drop i items)) (nows (drop (i + 1) items)) (get_or items i no_text).now c.loop-id.invariant.done e
    (from_here items i c.loop-id-test.true) c.loop-id.invariant.shown c.in_err-found.ensures.shows)

pub returns-in_err-add_shown-clause-shows : goal.returns-in_err-add_shown-clause-shows
returns-in_err-add_shown-clause-shows g c =
    let Shows = ShowsBlob c.args.state.now.rows.numbered.rows c.args.blobs.now (email_asked c.args.wanted.now) in
    let ids = nows c.args.ids.now.items in
    let items = c.deref-id-items.result.now in
    let i = c.loop-id.id-index in
    let id = (get_or items i no_text).now in
    lacks_memory g.B.BodySource.answers g.B.BodySource.lacks Memory gathered (c.args.bodies.now, c.args.world.now) (c.parsed_blob.new.bodies, c.parsed_blob.new.world)
    c.from_residual-in_err-add_shown.result (GathersThese c.args.state.now.rows.numbered.rows c.args.blobs.now (email_asked c.args.wanted.now) ids)
    c.from_residual-in_err-add_shown.ensures.1
    (lacks_after g.B.BodySource.answers g.B.BodySource.lacks Shows ids (c.args.bodies.now, c.args.world.now) (c.loop-id.bodies, c.loop-id.world)
    (c.parsed_blob.new.bodies, c.parsed_blob.new.world) (nows (drop i items)) (nows (drop (i + 1) items)) id c.loop-id.invariant.done
    (λ (asks : List BodyAsk). Shows id asks (Ok (record { id = id; found = option_map view c.in_ok-found.found }))) (from_here items i c.loop-id-test.true)
    (λ asks m. due_shown_blob c.args.state.now.rows.numbered.rows c.args.blobs.now (email_asked c.args.wanted.now) id asks
    (Ok (record { id = id; found = option_map view c.in_ok-found.found })) m) c.loop-id.invariant.shown c.in_ok-found.ensures.shows)

pub loop-id-preserved : goal.loop-id-preserved
loop-id-preserved g c =
    let Shows = ShowsBlob c.args.state.now.rows.numbered.rows c.args.blobs.now (email_asked c.args.wanted.now) in
    let ids = nows c.args.ids.now.items in
    let items = c.deref-id-items.result.now in
    let i = c.loop-id.id-index in
    let id = (get_or items i no_text).now in
    let done = c.loop-id.invariant.done in
    let blob : ShownBlob = record { id = id; found = option_map view c.in_ok-found.found } in
    record {
      done = done ++ blob ∷ [];
      shown = continues g.B.BodySource.answers g.B.BodySource.lacks Shows ids (c.args.bodies.now, c.args.world.now) (c.loop-id.bodies, c.loop-id.world)
          (c.parsed_blob.new.bodies, c.parsed_blob.new.world) (nows (drop i items)) (nows (drop (i + 1) items)) id done (done ++ blob ∷ []) blob
          (from_here items i c.loop-id-test.true) refl
          (λ asks m. due_shown_blob c.args.state.now.rows.numbered.rows c.args.blobs.now (email_asked c.args.wanted.now) id asks (Ok blob) m)
          c.loop-id.invariant.shown c.in_ok-found.ensures.shows;
      gathers = gathers_on done (gathered c.loop-id.shown) (gathered c.add_shown.new.shown) blob c.loop-id.invariant.gathers
          c.in_ok-add_shown.ensures.parsed c.in_ok-add_shown.ensures.missing;
      whole = put_found_whole id c.in_ok-found.found (members_view c.loop-id.shown.parsed.entries) (members_view c.add_shown.new.shown.parsed.entries)
          c.in_ok-add_shown.ensures.parsed c.in_ok-found.ensures.whole c.loop-id.invariant.whole;
    }

pub returns-clause-shows : goal.returns-clause-shows
returns-clause-shows g c =
    let emails = c.args.state.now.rows.numbered.rows in
    let wanted = email_asked c.args.wanted.now in
    let Shows = ShowsBlob emails c.args.blobs.now wanted in
    let ids = nows c.args.ids.now.items in
    let items = c.deref-id-items.result.now in
    let i = c.loop-id.id-index in
    let done = c.loop-id.invariant.done in
    given_after g.B.BodySource.answers g.B.BodySource.lacks Memory gathered (c.args.bodies.now, c.args.world.now) (c.loop-id.bodies, c.loop-id.world) c.loop-id.shown
    (GathersThese emails c.args.blobs.now wanted ids) (λ (asks : List BodyAsk). ShowsAll Shows ids asks (Ok done)) (λ asks m. (done, m, c.loop-id.invariant.gathers))
    (finishes g.B.BodySource.answers g.B.BodySource.lacks Shows ids (c.args.bodies.now, c.args.world.now) (c.loop-id.bodies, c.loop-id.world) (nows (drop i items)) done
    (ap nows (drop_all i items c.loop-id-test.false)) c.loop-id.invariant.shown)

pub returns-clause-whole_missing : goal.returns-clause-whole_missing
returns-clause-whole_missing g c = missing_whole c.loop-id.invariant.done (map view c.loop-id.shown.missing.items) c.loop-id.invariant.gathers.missing
