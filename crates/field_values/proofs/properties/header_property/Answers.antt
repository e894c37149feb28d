use Rattle.std.proofs.Common.{sym, ◌∙◌}
use Rattle.std.proofs.lemmas.Result.{IfOk-weaker}
use Rattle.serde_json.specs.View.{view}
use Rattle.field_values.proofs.PropertyLemmas.{asks_list, asks_last}
use Rattle.field_values.proofs.properties.header_property.Goals as goal

pub returns-then-all : goal.returns-then-all
returns-then-all c = IfOk-weaker c.list_value.result _ _ (λ v h. asks_list c.args.property.now c.args.fields.now (view v) _ _
    (sym c.all.ensures ∙ c.if-all.true) c.name-name.ensures c.form-form.ensures h) c.list_value.ensures

pub returns-else-all : goal.returns-else-all
returns-else-all c = IfOk-weaker c.last_value.result _ _ (λ v h. asks_last c.args.property.now c.args.fields.now (view v) _ _
    (sym c.all.ensures ∙ c.if-all.false) c.name-name.ensures c.form-form.ensures h) c.last_value.ensures
