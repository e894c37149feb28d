use Rattle.body_parts.specs.reading.LeafLists.{parts_of}
use Rattle.body_parts.proofs.ObjectLemmas.{message_within}
use Rattle.body_parts.proofs.body_properties.list_value.Goals as goal

pub objects_at-requires : goal.objects_at-requires
objects_at-requires c =
    let body = c.args.body.now in
    message_within body.message.now.octets.now body.root.now (parts_of body.leaves.now) c.requires.are_leaves c.requires.within
