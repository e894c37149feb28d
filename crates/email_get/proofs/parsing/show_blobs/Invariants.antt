use Rattle.std.proofs.Common.{◌≡◌, false, drop, map, List}
use Rattle.serde_json.specs.View.{view, members_view}
use Rattle.serde_json.specs.Written.{members_have_float}
use Rattle.email_properties.specs.Wanted.{email_asked}
use Rattle.email_get.specs.EmailParse.{ShownBlob, ShowsBlob}
use Rattle.email_get.specs.reading.Gathered.{GathersBlobs}
use Rattle.email_get.proofs.LoopLemmas.{SoFar}
use Rattle.email_get.proofs.parsing.show_blobs.Given as goal

abbrev pub invariant-loop-id : goal.invariant-loop-id
invariant-loop-id g l = record {
  done : List ShownBlob;
  shown : SoFar g.B.BodySource.answers g.B.BodySource.lacks (ShowsBlob l.state.rows.numbered.rows l.blobs (email_asked l.wanted)) (map (λ t. t.now) l.ids.items)
      (l.initial.bodies, l.initial.world) (l.bodies, l.world) (map (λ t. t.now) (drop l.id-index l.id-items)) done;
  gathers : GathersBlobs done (record { parsed = members_view l.shown.parsed.entries; missing = map view l.shown.missing.items });
  whole : members_have_float (members_view l.shown.parsed.entries) ≡ false;
}
