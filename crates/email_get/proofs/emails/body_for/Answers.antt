use Rattle.std.proofs.Common.{List, ℕ, Option, Some, None, sym, ◌∙◌, refl}
use Rattle.email_properties.specs.Wanted.{email_asked}
use Rattle.jmap_arguments.specs.declared.method_error.MethodError.TheVariants.{Memory}
use Rattle.email_get.specs.Asked.{place_of, error_by}
use Rattle.email_get.specs.EmailGet.{AsksBody, NotNeeded, Comes, Lacks}
use Rattle.email_get.proofs.AskLemmas.{unasked, came, failed}
use Rattle.email_get.proofs.emails.body_for.Goals as goal

pub returns-then-not-needs_body-clause-asks : goal.returns-then-not-needs_body-clause-asks
returns-then-not-needs_body-clause-asks g c =
    unasked g.B.BodySource.answers g.B.BodySource.lacks Memory (λ (o : Option (List ℕ)). o) (c.args.bodies.now, c.args.world.now) None
    (AsksBody (email_asked c.args.wanted.now) c.args.row.now) (NotNeeded (sym c.needs_body.ensures ∙ c.if-not-needs_body.true))

pub returns-in-Ok-clause-asks : goal.returns-in-Ok-clause-asks
returns-in-Ok-clause-asks g c =
    came g.B.BodySource.answers g.B.BodySource.lacks Memory (λ (o : Option (List ℕ)). o) (c.args.bodies.now, c.args.world.now) (c.body.new.self, c.body.new.world)
    c.place_of.result (place_of c.args.row.now) c.in-Ok.octets (Some c.in-Ok.octets) (AsksBody (email_asked c.args.wanted.now) c.args.row.now) c.place_of.ensures
    c.in-Ok.ensures.body (Comes c.in-Ok.octets (sym c.needs_body.ensures ∙ c.if-not-needs_body.false))

pub returns-in-Err-clause-asks : goal.returns-in-Err-clause-asks
returns-in-Err-clause-asks g c =
    failed g.B.BodySource.answers g.B.BodySource.lacks Memory (λ (o : Option (List ℕ)). o) error_by (c.args.bodies.now, c.args.world.now) (c.body.new.self, c.body.new.world)
    c.place_of.result (place_of c.args.row.now) c.in-Err.error c.error_of.result (AsksBody (email_asked c.args.wanted.now) c.args.row.now) c.place_of.ensures
    c.error_of.ensures refl
    c.in-Err.ensures.ended c.in-Err.ensures.memory (Lacks (sym c.needs_body.ensures ∙ c.if-not-needs_body.false))
