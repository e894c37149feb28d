use Rattle.std.proofs.Common.{map, take}
use Rattle.std.specs.List.{AllZip}
use Rattle.serde_json.specs.View.{view}
use Rattle.field_values.specs.Forms.{IsFormData}
use Rattle.field_values.proofs.named_fields.values_of.Given as goal

abbrev pub invariant-loop-raw : goal.invariant-loop-raw
invariant-loop-raw l = AllZip (IsFormData l.form) (map (λ r. r.now) (take l.raw-index l.raws)) (map view l.values.items)
