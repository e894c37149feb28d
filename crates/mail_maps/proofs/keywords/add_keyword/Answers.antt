use Rattle.std.proofs.Common.{ap, ◌∙◌, map, nat_cmp}
use Rattle.std.specs.BTreeSet.{insert_key}
use Rattle.std.specs.Cmp.Lexicographic.{slice_cmp}
use Rattle.mail_maps.specs.Keywords.{sorted_into}
use Rattle.mail_maps.specs.reading.Sets.{set_items}
use Rattle.mail_maps.proofs.KeySets.{items_of-insert_key}
use Rattle.mail_maps.proofs.keywords.add_keyword.Goals as goal

pub returns-in-None : goal.returns-in-None
returns-in-None c = ap (sorted_into (slice_cmp nat_cmp) (map set_items c.args.set.now.keys)) c.in-None.ensures

pub returns-in_ok-insert-in-Some : goal.returns-in_ok-insert-in-Some
returns-in_ok-insert-in-Some c =
    let keys = c.args.set.now.keys in
    ap (map set_items) c.in_ok-insert-in-Some.ensures.keys
    ∙ items_of-insert_key keys c.in_ok-key-in-Some.key
    ∙ ap (insert_key (slice_cmp nat_cmp) (map set_items keys)) c.in_ok-key-in-Some.ensures
    ∙ ap (sorted_into (slice_cmp nat_cmp) (map set_items keys)) c.in-Some.ensures
