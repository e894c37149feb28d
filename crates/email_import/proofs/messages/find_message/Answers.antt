use Rattle.std.proofs.Common.{◌≡◌, ◌∙◌, List, ℕ, Result, Ok, Err}
use Rattle.email_bodies.specs.Asking.{BodyAsk}
use Rattle.email_bodies.specs.declared.error.BodyError.TheVariants.{Memory}
use Rattle.email_get.specs.Asked.{FailsAfter}
use Rattle.email_get.specs.Blobs.{FindsBlob}
use Rattle.email_get.proofs.AskLemmas.{unasked, lacks_memory, same_error, vain_after, given_after, refused_after}
use Rattle.set_jobs.specs.declared.done.SetError.{SetError}
use Rattle.email_import.specs.Messages.{FindsMessage}
use Rattle.email_import.proofs.FindLemmas.{too_long, isnt_long, found_is, lacks_is, due_message}
use Rattle.email_import.proofs.messages.find_message.Goals as goal

abbrev as_it_is : Result (List ℕ) SetError → Result (List ℕ) SetError
as_it_is r = r

pub returns-then-is_of_long_email : goal.returns-then-is_of_long_email
returns-then-is_of_long_email g c =
    let emails = c.args.state.now.rows.numbered.rows in
    let i = c.args.ready.now in
    let text = c.as_bytes-blob.result.now in
    let same : text ≡ i.blob = c.as_bytes-blob.ensures.value ∙ c.as_str.ensures in
    unasked g.B.BodySource.answers g.B.BodySource.lacks Memory as_it_is (c.args.bodies.now, c.args.world.now) (Err c.long_error.result)
    (FindsMessage emails c.args.uploads.now i)
    (too_long emails c.args.uploads.now i text c.is_of_long_email.result c.long_error.result same c.is_of_long_email.ensures c.if-is_of_long_email.true c.long_error.ensures)

pub returns-in_err-octets : goal.returns-in_err-octets
returns-in_err-octets g c =
    let emails = c.args.state.now.rows.numbered.rows in
    let uploads = c.args.uploads.now in
    let i = c.args.ready.now in
    let text = c.as_bytes-blob.result.now in
    let same : text ≡ i.blob = c.as_bytes-blob.ensures.value ∙ c.as_str.ensures in
    let e = c.in_err-octets.field-0.0 in
    same_error g.B.BodySource.answers g.B.BodySource.lacks Memory as_it_is (c.args.bodies.now, c.args.world.now) (c.find_blob.new.bodies, c.find_blob.new.world)
    c.from_residual.result e (FindsMessage emails uploads i) c.from_residual.ensures.1
    (refused_after g.B.BodySource.answers g.B.BodySource.lacks Memory as_it_is (c.args.bodies.now, c.args.world.now) (c.find_blob.new.bodies, c.find_blob.new.world)
    e (FindsMessage emails uploads i) (FindsBlob emails uploads text)
    (λ asks f found. lacks_is emails uploads i text same asks f
    (isnt_long emails uploads i text c.is_of_long_email.result same c.is_of_long_email.ensures c.if-is_of_long_email.false) found)
    c.in_err-octets.ensures)

pub returns-in_err-with_found : goal.returns-in_err-with_found
returns-in_err-with_found g c =
    let emails = c.args.state.now.rows.numbered.rows in
    let uploads = c.args.uploads.now in
    let i = c.args.ready.now in
    let text = c.as_bytes-blob.result.now in
    let same : text ≡ i.blob = c.as_bytes-blob.ensures.value ∙ c.as_str.ensures in
    lacks_memory g.B.BodySource.answers g.B.BodySource.lacks Memory as_it_is (c.args.bodies.now, c.args.world.now) (c.find_blob.new.bodies, c.find_blob.new.world)
    c.from_residual-in_err-with_found.result (FindsMessage emails uploads i) c.from_residual-in_err-with_found.ensures.1
    (vain_after g.B.BodySource.answers g.B.BodySource.lacks (FailsAfter (FindsMessage emails uploads i))
    (λ (asks : List BodyAsk). FindsBlob emails uploads text asks (Ok c.in_ok-octets.octets)) (c.args.bodies.now, c.args.world.now)
    (c.find_blob.new.bodies, c.find_blob.new.world)
    (λ asks found. due_message emails uploads i text same asks (Ok c.in_ok-octets.octets)
    (isnt_long emails uploads i text c.is_of_long_email.result same c.is_of_long_email.ensures c.if-is_of_long_email.false) found)
    c.in_ok-octets.ensures)

pub returns : goal.returns
returns g c =
    let emails = c.args.state.now.rows.numbered.rows in
    let uploads = c.args.uploads.now in
    let i = c.args.ready.now in
    let text = c.as_bytes-blob.result.now in
    let same : text ≡ i.blob = c.as_bytes-blob.ensures.value ∙ c.as_str.ensures in
    let came = c.in_ok-with_found.field-0 in
    given_after g.B.BodySource.answers g.B.BodySource.lacks Memory as_it_is (c.args.bodies.now, c.args.world.now) (c.find_blob.new.bodies, c.find_blob.new.world)
    came (FindsMessage emails uploads i) (λ (asks : List BodyAsk). FindsBlob emails uploads text asks (Ok c.in_ok-octets.octets))
    (λ asks found. found_is emails uploads i text same asks c.in_ok-octets.octets came
    (isnt_long emails uploads i text c.is_of_long_email.result same c.is_of_long_email.ensures c.if-is_of_long_email.false) c.in_ok-with_found.ensures found)
    c.in_ok-octets.ensures
