use Rattle.std.proofs.Common.{refl}
use Rattle.message_blobs.proofs.LeafLemmas.{no_leaf_read, part_within, leaf_read}
use Rattle.message_blobs.proofs.read_message.ReadMessage.leaf.Goals as goal

pub returns-in-None : goal.returns-in-None
returns-in-None c =
    λ s h. no_leaf_read c.self.inside.octets c.args.self.now c.self.inside.octets c.args.number c.self.inside.tree c.self.view_is refl c.self.invariant s c.in-None.ensures h

pub part_bytes-requires : goal.part_bytes-requires
part_bytes-requires c =
    part_within c.self.inside.octets c.args.self.now c.as_slice.result.now c.args.number c.self.inside.tree c.self.view_is c.as_slice.ensures c.self.invariant c.in-Some.leaf.now
    c.in-Some.ensures.0

pub returns-in_ok-from_vec-in-Some : goal.returns-in_ok-from_vec-in-Some
returns-in_ok-from_vec-in-Some c =
    leaf_read c.self.inside.octets c.args.self.now c.as_slice.result.now c.args.number c.self.inside.tree c.self.view_is c.as_slice.ensures c.self.invariant c.in-Some.leaf.now
    c.in_ok-spelled-in-Some.spelled.items _ _ c.in-Some.ensures.0 c.in-Some.ensures.1 c.in_ok-spelled-in-Some.ensures c.in_ok-from_vec-in-Some.ensures
