use Rattle.std.proofs.Common.{◌≡◌, map, take}
use Rattle.serde_json.specs.View.{view}
use Rattle.mail_header.specs.Fields.{names_and_raws}
use Rattle.field_values.specs.HeaderProperties.{header_data}
use Rattle.field_values.proofs.properties.headers_value.Given as goal

abbrev pub invariant-loop-at : goal.invariant-loop-at
invariant-loop-at l = map view l.headers.items ≡ map header_data (take l.at (names_and_raws l.fields))
