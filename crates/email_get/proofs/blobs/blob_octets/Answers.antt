use Rattle.std.proofs.Common.{List, ℕ, Option, None, Ok, Err}
use Rattle.email_bodies.specs.Asking.{BodyAsk}
use Rattle.email_bodies.specs.declared.error.BodyError.TheVariants.{Memory}
use Rattle.message_blobs.specs.BlobIds.{root_view}
use Rattle.email_get.specs.Asked.{FailsAfter}
use Rattle.email_get.specs.Blobs.{FindsRoot, NoBody, FindsOctets}
use Rattle.email_get.proofs.AskLemmas.{lacks_memory, same_error, vain_after, given_after, refused_after}
use Rattle.email_get.proofs.BlobLemmas.{no_leaf_of_none, leaf_given}
use Rattle.email_get.proofs.Due.{due_octets_of}
use Rattle.email_get.proofs.blobs.blob_octets.Goals as goal

pub returns-in_err-root_octets : goal.returns-in_err-root_octets
returns-in_err-root_octets g c =
    let emails = c.args.state.now.rows.numbered.rows in
    let root = root_view c.args.id.now.root in
    let leaves = c.args.id.now.leaves.items in
    let e = c.in_err-root_octets.field-0.0 in
    same_error g.B.BodySource.answers g.B.BodySource.lacks Memory (λ (o : Option (List ℕ)). o) (c.args.bodies.now, c.args.world.now)
    (c.root_octets.new.bodies, c.root_octets.new.world)
    c.from_residual.result e (FindsOctets emails c.args.blobs.now root leaves) c.from_residual.ensures.1
    (refused_after g.B.BodySource.answers g.B.BodySource.lacks Memory (λ (o : Option (List ℕ)). o) (c.args.bodies.now, c.args.world.now)
    (c.root_octets.new.bodies, c.root_octets.new.world)
    e (FindsOctets emails c.args.blobs.now root leaves) (FindsRoot emails c.args.blobs.now root)
    (λ asks f m. record { of_root = Err f; finds_root = m; finds_leaf = NoBody f }) c.in_err-root_octets.ensures)

pub returns-in_err-leaf_of-in-Some : goal.returns-in_err-leaf_of-in-Some
returns-in_err-leaf_of-in-Some g c =
    let emails = c.args.state.now.rows.numbered.rows in
    let root = root_view c.args.id.now.root in
    lacks_memory g.B.BodySource.answers g.B.BodySource.lacks Memory (λ (o : Option (List ℕ)). o) (c.args.bodies.now, c.args.world.now)
    (c.root_octets.new.bodies, c.root_octets.new.world)
    c.from_residual-in_err-leaf_of-in-Some.result (FindsOctets emails c.args.blobs.now root c.args.id.now.leaves.items) c.from_residual-in_err-leaf_of-in-Some.ensures.1
    (vain_after g.B.BodySource.answers g.B.BodySource.lacks (FailsAfter (FindsOctets emails c.args.blobs.now root c.args.id.now.leaves.items))
    (λ (asks : List BodyAsk). FindsRoot emails c.args.blobs.now root asks (Ok c.in_ok-root_octets.field-0)) (c.args.bodies.now, c.args.world.now)
    (c.root_octets.new.bodies, c.root_octets.new.world) (λ asks m. due_octets_of emails c.args.blobs.now root c.args.id.now.leaves.items m) c.in_ok-root_octets.ensures)

pub returns-in-None : goal.returns-in-None
returns-in-None g c =
    let emails = c.args.state.now.rows.numbered.rows in
    let root = root_view c.args.id.now.root in
    let leaves = c.args.id.now.leaves.items in
    let found = c.in_ok-root_octets.field-0 in
    given_after g.B.BodySource.answers g.B.BodySource.lacks Memory (λ (o : Option (List ℕ)). o) (c.args.bodies.now, c.args.world.now)
    (c.root_octets.new.bodies, c.root_octets.new.world)
    None (FindsOctets emails c.args.blobs.now root leaves) (λ (asks : List BodyAsk). FindsRoot emails c.args.blobs.now root asks (Ok found))
    (λ asks m. record { of_root = Ok found; finds_root = m; finds_leaf = no_leaf_of_none leaves found c.in-None.is }) c.in_ok-root_octets.ensures

pub returns-in_ok-leaf_of-in-Some : goal.returns-in_ok-leaf_of-in-Some
returns-in_ok-leaf_of-in-Some g c =
    let emails = c.args.state.now.rows.numbered.rows in
    let root = root_view c.args.id.now.root in
    let leaves = c.args.id.now.leaves.items in
    let found = c.in_ok-root_octets.field-0 in
    let named = c.in_ok-leaf_of-in-Some.field-0 in
    given_after g.B.BodySource.answers g.B.BodySource.lacks Memory (λ (o : Option (List ℕ)). o) (c.args.bodies.now, c.args.world.now)
    (c.root_octets.new.bodies, c.root_octets.new.world)
    named (FindsOctets emails c.args.blobs.now root leaves) (λ (asks : List BodyAsk). FindsRoot emails c.args.blobs.now root asks (Ok found))
    (λ asks m. record {
      of_root = Ok found;
      finds_root = m;
      finds_leaf = leaf_given leaves c.as_slice.result.now c.in-Some.octets found named c.in-Some.is c.as_slice.ensures.value c.in_ok-leaf_of-in-Some.ensures;
    }) c.in_ok-root_octets.ensures
