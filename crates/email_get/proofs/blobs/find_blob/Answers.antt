use Rattle.std.proofs.Common.{Option, None, List, ℕ}
use Rattle.email_bodies.specs.declared.error.BodyError.TheVariants.{Memory}
use Rattle.message_blobs.specs.BlobIds.{root_view}
use Rattle.email_get.specs.Blobs.{FindsOctets, FindsBlob, NoBlobId, OfBlobId}
use Rattle.email_get.proofs.AskLemmas.{unasked, wider}
use Rattle.email_get.proofs.blobs.find_blob.Goals as goal

pub returns-in-None : goal.returns-in-None
returns-in-None g c =
    unasked g.B.BodySource.answers g.B.BodySource.lacks Memory (λ (o : Option (List ℕ)). o) (c.args.bodies.now, c.args.world.now) None
    (FindsBlob c.args.state.now.rows.numbered.rows c.args.blobs.now c.args.id.now) (NoBlobId c.in-None.ensures)

pub returns-in-Some : goal.returns-in-Some
returns-in-Some g c =
    let emails = c.args.state.now.rows.numbered.rows in
    let root = root_view c.in-Some.id.root in
    let leaves = c.in-Some.id.leaves.items in
    wider g.B.BodySource.answers g.B.BodySource.lacks Memory (λ (o : Option (List ℕ)). o) (c.args.bodies.now, c.args.world.now) (c.blob_octets.new.bodies, c.blob_octets.new.world)
    c.blob_octets.result (FindsOctets emails c.args.blobs.now root leaves) (FindsBlob emails c.args.blobs.now c.args.id.now)
    (λ asks r finds. OfBlobId root leaves c.in-Some.ensures finds) c.blob_octets.ensures
