use Rattle.std.proofs.Common.{◌≡◌, ◌∷◌, [], false, map, nat_cmp, string_bytes, if◌then◌else◌, sym, ap, ◌∙◌}
use Rattle.std.specs.BTreeSet.{insert_key}
use Rattle.std.specs.Cmp.Lexicographic.{slice_cmp}
use Rattle.serde_json.specs.View.{view}
use Rattle.mail_maps.specs.Keywords.{sorted_into}
use Rattle.set_patches.specs.Patches.{property_of}
use Rattle.set_patches.proofs.NameLemmas.{bytes_of-insert_key}
use Rattle.set_patches.proofs.patches.add_if_wrong.Goals as goal

pub returns-in_ok-insert : goal.returns-in_ok-insert
returns-in_ok-insert g c is_right tests =
    let keys = c.args.names.now.keys in
    let property = property_of c.args.part.now.pointer in
    let wrong : is_right c.args.part.now.pointer (view c.args.part.now.value.now) ≡ false = sym (c.in_ok-right.ensures is_right tests) ∙ c.if-not-right.true in
    ap (map string_bytes) c.in_ok-insert.ensures.keys
    ∙ bytes_of-insert_key keys c.in_ok-from_str.field-0
    ∙ ap (insert_key (slice_cmp nat_cmp) (map string_bytes keys)) (c.in_ok-from_str.ensures.ok ∙ c.property.ensures)
    ∙ ap (λ right. sorted_into (slice_cmp nat_cmp) (map string_bytes keys) (if right then [] else property ∷ [])) (sym wrong)
