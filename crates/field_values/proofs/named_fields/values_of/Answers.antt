use Rattle.std.proofs.Common.{◌∙◌, List, [], ◌∷◌, ap, map}
use Rattle.std.proofs.lemmas.List.{map-append}
use Rattle.serde_json.specs.View.{view}
use Rattle.serde_json.specs.declared.value.Value.{Value}
use Rattle.field_values.proofs.PropertyLemmas.{values_more}
use Rattle.field_values.proofs.named_fields.values_of.Goals as goal

pub loop-raw-preserved : goal.loop-raw-preserved
loop-raw-preserved c =
    let before = c.loop-raw.values.items in
    let v = c.in_ok-form_value.field-0 in
    values_more c.args.form c.args.raws.now c.loop-raw.raw-index _ (map view before) (map view c.push.new.self.items) (view v) c.loop-raw-test.true
    c.loop-raw.invariant c.in_ok-form_value.ensures (ap (λ (vs : List Value). map view vs) c.in_ok-push.ensures.items ∙ map-append view before (v ∷ []))
