use Rattle.body_parts.specs.reading.LeafLists.{parts_of}
use Rattle.body_parts.proofs.ObjectLemmas.{itself_within, within_there}
use Rattle.body_parts.proofs.previews.preview_value.Goals as goal

pub part_preview-requires : goal.part_preview-requires
part_preview-requires c =
    let octets = c.args.octets.now in
    let part = c.in-Some.part.now in
    itself_within octets part (within_there octets (parts_of c.args.leaves.now) _ part c.requires c.in-Some.ensures.there)
