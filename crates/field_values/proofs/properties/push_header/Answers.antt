use Rattle.std.proofs.Common.{ap, ◌∙◌, ◌∷◌, [], List, map}
use Rattle.std.proofs.lemmas.List.{map-append}
use Rattle.serde_json.specs.View.{view}
use Rattle.serde_json.specs.declared.value.Value.{Value}
use Rattle.mail_header.specs.Fields.{field_view, names_and_raws}
use Rattle.field_values.proofs.PropertyLemmas.{no_header, header_here}
use Rattle.field_values.proofs.properties.push_header.Goals as goal

pub returns-in_default : goal.returns-in_default
returns-in_default c = no_header (names_and_raws c.args.fields.now) c.args.at (map view c.args.headers.now.items) c.in_default.ensures

pub returns : goal.returns
returns c =
    let before = c.args.headers.now.items in
    let v = c.in_ok-header_value.field-0 in
    header_here (names_and_raws c.args.fields.now) c.args.at (field_view c.in-Some.field) (map view before) (map view c.push.new.self.items) (view v) c.in-Some.ensures
    c.in_ok-header_value.ensures (ap (λ (vs : List Value). map view vs) c.in_ok-push.ensures.items ∙ map-append view before (v ∷ []))
