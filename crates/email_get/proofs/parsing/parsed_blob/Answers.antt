use Rattle.std.proofs.Common.{Option, List, ℕ, None, Some, Ok, option_map, refl}
use Rattle.serde_json.specs.View.{view}
use Rattle.serde_json.specs.declared.value.Value.{Value}
use Rattle.email_bodies.specs.Asking.{BodyAsk}
use Rattle.email_bodies.specs.declared.error.BodyError.TheVariants as body
use Rattle.email_properties.specs.Wanted.{email_asked}
use Rattle.jmap_arguments.specs.declared.method_error.MethodError.TheVariants.{Memory}
use Rattle.message_blobs.specs.BlobIds.{root_view}
use Rattle.email_get.specs.Asked.{FailsAfter, error_by}
use Rattle.email_get.specs.Blobs.{FindsOctets}
use Rattle.email_get.specs.EmailParse.{ShownBlob, ShowsBlob}
use Rattle.email_get.proofs.AskLemmas.{unasked, lacks_memory, vain_after, given_after, turned}
use Rattle.email_get.proofs.ParseLemmas.{no_blob, blob_gone, blob_fails, blob_parsed, octets_due}
use Rattle.email_get.proofs.parsing.parsed_blob.Goals as goal

abbrev shown_as : List ℕ → Option Value → ShownBlob
shown_as id o = record { id = id; found = option_map view o }

pub returns-in_default-clause-shows : goal.returns-in_default-clause-shows
returns-in_default-clause-shows g c =
    let emails = c.args.state.now.rows.numbered.rows in
    let wanted = email_asked c.args.wanted.now in
    let id = c.args.id.now in
    unasked g.B.BodySource.answers g.B.BodySource.lacks Memory (shown_as id) (c.args.bodies.now, c.args.world.now) None (ShowsBlob emails c.args.blobs.now wanted id)
    (no_blob emails c.args.blobs.now wanted id c.as_bytes.result.now c.as_bytes.ensures.value c.in_default.ensures)

pub returns-in_err-message_value-in-Ok-Some-clause-shows : goal.returns-in_err-message_value-in-Ok-Some-clause-shows
returns-in_err-message_value-in-Ok-Some-clause-shows g c =
    let emails = c.args.state.now.rows.numbered.rows in
    let wanted = email_asked c.args.wanted.now in
    let id = c.args.id.now in
    let blob = c.in-Some.blob in
    lacks_memory g.B.BodySource.answers g.B.BodySource.lacks Memory (shown_as id) (c.args.bodies.now, c.args.world.now) (c.blob_octets.new.bodies, c.blob_octets.new.world)
    c.from_residual.result (ShowsBlob emails c.args.blobs.now wanted id) c.from_residual.ensures.1
    (vain_after g.B.BodySource.answers g.B.BodySource.lacks (FailsAfter (ShowsBlob emails c.args.blobs.now wanted id))
    (λ (asks : List BodyAsk). FindsOctets emails c.args.blobs.now (root_view blob.root) blob.leaves.items asks (Ok c.in-Ok-Some.field-0)) (c.args.bodies.now, c.args.world.now)
    (c.blob_octets.new.bodies, c.blob_octets.new.world)
    (λ asks m. octets_due emails c.args.blobs.now wanted id c.as_bytes.result.now c.as_bytes.ensures.value (root_view blob.root) blob.leaves.items c.in-Some.ensures asks
    (Ok c.in-Ok-Some.field-0) m) c.in-Ok-Some.ensures)

pub returns-in-Err-clause-shows : goal.returns-in-Err-clause-shows
returns-in-Err-clause-shows g c =
    let emails = c.args.state.now.rows.numbered.rows in
    let wanted = email_asked c.args.wanted.now in
    let id = c.args.id.now in
    let root = root_view c.in-Some.blob.root in
    let leaves = c.in-Some.blob.leaves.items in
    let e = c.in-Err.error in
    let f = c.error_of.result in
    turned g.B.BodySource.answers g.B.BodySource.lacks body.Memory Memory error_by (c.args.bodies.now, c.args.world.now) (c.blob_octets.new.bodies, c.blob_octets.new.world) e f
    (FindsOctets emails c.args.blobs.now root leaves) (ShowsBlob emails c.args.blobs.now wanted id)
    c.error_of.ensures refl
    (λ asks e f is m. blob_fails emails c.args.blobs.now wanted id c.as_bytes.result.now c.as_bytes.ensures.value root leaves c.in-Some.ensures asks e f is m)
    c.in-Err.ensures

pub returns-in-Ok-None-clause-shows : goal.returns-in-Ok-None-clause-shows
returns-in-Ok-None-clause-shows g c =
    let emails = c.args.state.now.rows.numbered.rows in
    let wanted = email_asked c.args.wanted.now in
    let id = c.args.id.now in
    let root = root_view c.in-Some.blob.root in
    let leaves = c.in-Some.blob.leaves.items in
    let o = c.in-Ok-None.field-0 in
    given_after g.B.BodySource.answers g.B.BodySource.lacks Memory (shown_as id) (c.args.bodies.now, c.args.world.now) (c.blob_octets.new.bodies, c.blob_octets.new.world)
    None (ShowsBlob emails c.args.blobs.now wanted id) (λ (asks : List BodyAsk). FindsOctets emails c.args.blobs.now root leaves asks (Ok o))
    (λ asks m. blob_gone emails c.args.blobs.now wanted id c.as_bytes.result.now c.as_bytes.ensures.value root leaves c.in-Some.ensures asks o c.in-Ok-None.field-0-is m)
    c.in-Ok-None.ensures

pub returns-in_ok-message_value-in-Ok-Some-clause-shows : goal.returns-in_ok-message_value-in-Ok-Some-clause-shows
returns-in_ok-message_value-in-Ok-Some-clause-shows g c =
    let emails = c.args.state.now.rows.numbered.rows in
    let wanted = email_asked c.args.wanted.now in
    let id = c.args.id.now in
    let root = root_view c.in-Some.blob.root in
    let leaves = c.in-Some.blob.leaves.items in
    let o = c.in-Ok-Some.field-0 in
    let value = c.in_ok-message_value-in-Ok-Some.field-0 in
    given_after g.B.BodySource.answers g.B.BodySource.lacks Memory (shown_as id) (c.args.bodies.now, c.args.world.now) (c.blob_octets.new.bodies, c.blob_octets.new.world)
    (Some value) (ShowsBlob emails c.args.blobs.now wanted id) (λ (asks : List BodyAsk). FindsOctets emails c.args.blobs.now root leaves asks (Ok o))
    (λ asks m. blob_parsed emails c.args.blobs.now wanted id c.as_bytes.result.now c.as_bytes.ensures.value root leaves c.in-Some.ensures asks c.in-Ok-Some.octets o (view value)
    c.in-Ok-Some.field-0-is m c.in_ok-message_value-in-Ok-Some.ensures.object) c.in-Ok-Some.ensures
