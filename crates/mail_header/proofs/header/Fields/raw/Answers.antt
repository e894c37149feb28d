use Rattle.std.proofs.Common.{◌≡◌, List, Some, slice_get, refl, sym, ap, ◌∙◌}
use Rattle.std.specs.Option.{option_map}
use Rattle.std.proofs.lemmas.Option.{slice_get-map, slice_get-get_or}
use Rattle.mail_header.specs.declared.header.Field.{Field}
use Rattle.mail_header.specs.Fields.{field_view}
use Rattle.mail_header.proofs.header.Fields.raw.Goals as goal

pub returns-in-Some : goal.returns-in-Some
returns-in-Some c =
    let l = c.in-Some.ensures.lookup in
    let f = c.in-Some.field.now in
    let at = c.args.at in
    let s : slice_get c.args.self.now.list.items at ≡ Some f = ap (λ (u : List Field). slice_get u at) (sym c.as_slice.ensures.value)
    ∙ slice_get-get_or c.as_slice.result.now at f l.3.0 ∙ ap (λ (g : Field). Some g) (sym l.1) in
    (field_view f, slice_get-map field_view c.args.self.now.list.items at ∙ ap (option_map field_view) s, refl)
