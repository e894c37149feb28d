use Rattle.std.proofs.Common.{Option, List, ℕ, Ok, subst}
use Rattle.serde_json.specs.View.{view}
use Rattle.email_bodies.specs.Asking.{BodyAsk}
use Rattle.email_objects.specs.EmailObjects.{IsEmailObject}
use Rattle.email_properties.specs.Wanted.{email_asked}
use Rattle.jmap_arguments.specs.declared.method_error.MethodError.TheVariants.{Memory}
use Rattle.email_get.specs.Asked.{FailsAfter}
use Rattle.email_get.specs.EmailGet.{AsksBody, ShowsRow, AsObject, NoBody}
use Rattle.email_get.proofs.AskLemmas.{lacks_memory, same_error, vain_after, given_after, refused_after}
use Rattle.email_get.proofs.Due.{due_body}
use Rattle.email_get.proofs.emails.row_value.Goals as goal

pub returns-in_err-body-clause-shows : goal.returns-in_err-body-clause-shows
returns-in_err-body-clause-shows g c =
    let asked = email_asked c.args.wanted.now in
    let e = c.in_err-body.field-0.0 in
    same_error g.B.BodySource.answers g.B.BodySource.lacks Memory view (c.args.bodies.now, c.args.world.now) (c.body_for.new.bodies, c.body_for.new.world)
    c.from_residual.result e (ShowsRow asked c.args.row.now) c.from_residual.ensures.1
    (refused_after g.B.BodySource.answers g.B.BodySource.lacks Memory view (c.args.bodies.now, c.args.world.now) (c.body_for.new.bodies, c.body_for.new.world) e
    (ShowsRow asked c.args.row.now) (AsksBody asked c.args.row.now) (λ asks f m. NoBody f m) c.in_err-body.ensures.asks)

pub returns-in_err-email_value-clause-shows : goal.returns-in_err-email_value-clause-shows
returns-in_err-email_value-clause-shows g c =
    let asked = email_asked c.args.wanted.now in
    lacks_memory g.B.BodySource.answers g.B.BodySource.lacks Memory view (c.args.bodies.now, c.args.world.now) (c.body_for.new.bodies, c.body_for.new.world)
    c.from_residual-in_err-email_value.result (ShowsRow asked c.args.row.now) c.from_residual-in_err-email_value.ensures.1
    (vain_after g.B.BodySource.answers g.B.BodySource.lacks (FailsAfter (ShowsRow asked c.args.row.now))
    (λ (asks : List BodyAsk). AsksBody asked c.args.row.now asks (Ok c.in_ok-body.body))
    (c.args.bodies.now, c.args.world.now) (c.body_for.new.bodies, c.body_for.new.world) (λ asks m. due_body asked c.args.row.now m) c.in_ok-body.ensures.asks)

pub returns-clause-shows : goal.returns-clause-shows
returns-clause-shows g c =
    let asked = email_asked c.args.wanted.now in
    let value = c.in_ok-email_value.field-0 in
    let P : Option (List ℕ) → Type 0 = λ o. IsEmailObject c.args.row.now o asked (view value) in
    given_after g.B.BodySource.answers g.B.BodySource.lacks Memory view (c.args.bodies.now, c.args.world.now) (c.body_for.new.bodies, c.body_for.new.world) value
    (ShowsRow asked c.args.row.now) (λ (asks : List BodyAsk). AsksBody asked c.args.row.now asks (Ok c.in_ok-body.body))
    (λ asks m. AsObject c.in_ok-body.body (view value) m (subst P c.octets_of.ensures c.in_ok-email_value.ensures.object)) c.in_ok-body.ensures.asks
