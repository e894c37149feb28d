use Rattle.std.proofs.Common.{List, ℕ, Option, Some, None, refl}
use Rattle.email_bodies.specs.declared.error.BodyError.TheVariants.{Memory}
use Rattle.message_blobs.specs.BlobIds.{root_view}
use Rattle.email_bodies.proofs.Joins.{vain_at_once}
use Rattle.email_get.specs.Asked.{FailsAfter, place_of}
use Rattle.email_get.specs.Blobs.{FindsRoot}
use Rattle.email_get.proofs.AskLemmas.{unasked, came, failed, lacks_memory, same_error}
use Rattle.email_get.proofs.BlobLemmas.{upload_given, email_gone, email_came, email_lacks}
use Rattle.email_get.proofs.blobs.root_octets.Goals as goal

pub returns-in_err-upload_octets-in-Upload : goal.returns-in_err-upload_octets-in-Upload
returns-in_err-upload_octets-in-Upload g c =
    lacks_memory g.B.BodySource.answers g.B.BodySource.lacks Memory (λ (o : Option (List ℕ)). o) (c.args.bodies.now, c.args.world.now) (c.args.bodies.now, c.args.world.now)
    c.from_residual.result (FindsRoot c.args.state.now.rows.numbered.rows c.args.blobs.now (root_view c.args.root)) c.from_residual.ensures.1
    (vain_at_once g.B.BodySource.answers g.B.BodySource.lacks (FailsAfter (FindsRoot c.args.state.now.rows.numbered.rows c.args.blobs.now (root_view c.args.root)))
    (c.args.bodies.now, c.args.world.now))

pub returns-in_ok-upload_octets-in-Upload : goal.returns-in_ok-upload_octets-in-Upload
returns-in_ok-upload_octets-in-Upload g c =
    let emails = c.args.state.now.rows.numbered.rows in
    let shared = c.in_ok-upload_octets-in-Upload.field-0 in
    unasked g.B.BodySource.answers g.B.BodySource.lacks Memory (λ (o : Option (List ℕ)). o) (c.args.bodies.now, c.args.world.now) shared
    (FindsRoot emails c.args.blobs.now (root_view c.args.root))
    (upload_given emails c.args.blobs.now c.args.root c.in-Upload.id c.get.result shared c.in-Upload.is c.get.ensures c.in_ok-upload_octets-in-Upload.ensures)

pub returns-in-None : goal.returns-in-None
returns-in-None g c =
    let emails = c.args.state.now.rows.numbered.rows in
    unasked g.B.BodySource.answers g.B.BodySource.lacks Memory (λ (o : Option (List ℕ)). o) (c.args.bodies.now, c.args.world.now) None
    (FindsRoot emails c.args.blobs.now (root_view c.args.root)) (email_gone emails c.args.blobs.now c.args.root c.in-Email.number c.in-Email.is c.in-None.ensures)

pub returns-in_err-body-in-Some : goal.returns-in_err-body-in-Some
returns-in_err-body-in-Some g c =
    let emails = c.args.state.now.rows.numbered.rows in
    let row = c.in-Some.row.now in
    let e = c.in_err-body-in-Some.field-0.0 in
    same_error g.B.BodySource.answers g.B.BodySource.lacks Memory (λ (o : Option (List ℕ)). o) (c.args.bodies.now, c.args.world.now) (c.body.new.self, c.body.new.world)
    c.from_residual-in_err-body-in-Some.result e (FindsRoot emails c.args.blobs.now (root_view c.args.root)) c.from_residual-in_err-body-in-Some.ensures.1
    (failed g.B.BodySource.answers g.B.BodySource.lacks Memory (λ (o : Option (List ℕ)). o) (λ e. e) (c.args.bodies.now, c.args.world.now) (c.body.new.self, c.body.new.world)
    c.place_of.result (place_of row) e e (FindsRoot emails c.args.blobs.now (root_view c.args.root)) c.place_of.ensures refl refl
    c.in_err-body-in-Some.ensures.ended c.in_err-body-in-Some.ensures.memory
    (email_lacks emails c.args.blobs.now c.args.root c.in-Email.number row c.in-Email.is c.in-Some.ensures))

pub returns-in_ok-body-in-Some : goal.returns-in_ok-body-in-Some
returns-in_ok-body-in-Some g c =
    let emails = c.args.state.now.rows.numbered.rows in
    let row = c.in-Some.row.now in
    let octets = c.in_ok-body-in-Some.field-0 in
    came g.B.BodySource.answers g.B.BodySource.lacks Memory (λ (o : Option (List ℕ)). o) (c.args.bodies.now, c.args.world.now) (c.body.new.self, c.body.new.world)
    c.place_of.result (place_of row) octets (Some octets) (FindsRoot emails c.args.blobs.now (root_view c.args.root)) c.place_of.ensures c.in_ok-body-in-Some.ensures.body
    (email_came emails c.args.blobs.now c.args.root c.in-Email.number row octets c.in-Email.is c.in-Some.ensures)
