use Rattle.std.proofs.Common.{◌≡◌, map, take}
use Rattle.serde_json.specs.View.{view}
use Rattle.field_values.specs.Forms.{address_data}
use Rattle.field_values.proofs.forms.address_values.Given as goal

abbrev pub invariant-loop-address : goal.invariant-loop-address
invariant-loop-address l = map view l.values.items ≡ map address_data (take l.address-index l.addresses)
