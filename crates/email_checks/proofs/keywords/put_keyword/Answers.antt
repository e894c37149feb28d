use Rattle.std.proofs.Common.{ap, ◌∙◌, map, nat_cmp}
use Rattle.std.specs.BTreeSet.{insert_key}
use Rattle.std.specs.Cmp.Lexicographic.{slice_cmp}
use Rattle.mail_maps.specs.reading.Sets.{set_items}
use Rattle.mail_maps.proofs.KeySets.{items_of-insert_key}
use Rattle.email_checks.proofs.keywords.put_keyword.Goals as goal

pub returns : goal.returns
returns c =
    let keys = c.args.keywords.now.keys in
    ap (map set_items) c.in_ok-insert.ensures.keys ∙ items_of-insert_key keys c.in_ok-lower_case.field-0
    ∙ ap (insert_key (slice_cmp nat_cmp) (map set_items keys)) c.in_ok-lower_case.ensures
