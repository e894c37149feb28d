use Rattle.std.proofs.Common.{◌≡◌, false, drop, map}
use Rattle.serde_json.specs.View.{view, items_of}
use Rattle.serde_json.specs.Written.{items_have_float}
use Rattle.email_properties.specs.Wanted.{email_asked}
use Rattle.email_get.specs.EmailGet.{ShowsEmail}
use Rattle.email_get.proofs.LoopLemmas.{SoFar}
use Rattle.email_get.proofs.emails.emails_at.Given as goal

abbrev pub invariant-loop-number : goal.invariant-loop-number
invariant-loop-number g l = record {
  shown : SoFar g.B.BodySource.answers g.B.BodySource.lacks (ShowsEmail l.state.rows.numbered.rows (email_asked l.wanted)) l.numbers
      (l.initial.bodies, l.initial.world) (l.bodies, l.world) (drop l.number-index l.numbers) (map view l.list.items);
  whole : items_have_float (items_of (map view l.list.items)) ≡ false;
}
