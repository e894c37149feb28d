use Rattle.message_blobs.specs.declared.read_blob.NamedMessage.{NamedMessage}
use Rattle.message_blobs.proofs.LeafLemmas.{last_leaf}
use Rattle.message_blobs.proofs.read_blob.ReadBlob.leaf_octets.Goals as goal

pub returns-in_ok-enter-in-Some-clause-named : goal.returns-in_ok-enter-in-Some-clause-named
returns-in_ok-enter-in-Some-clause-named c =
    last_leaf (λ (m : NamedMessage). m.message) c.enter.new.last c.args.leaves.now c.in-Some.outer.now c.self.inside.octets c.args.self.now c.in-Some.number.now c.leaf_in.result
    c.in-Some.ensures.cases.0 c.self.view_is c.in_ok-enter-in-Some.ensures.entered c.leaf_in.ensures
