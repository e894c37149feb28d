use Rattle.std.proofs.Common.{arith, map}
use Rattle.serde_json.specs.View.{view}
use Rattle.mail_header.specs.Fields.{names_and_raws}
use Rattle.field_values.proofs.PropertyLemmas.{headers_more}
use Rattle.field_values.proofs.properties.headers_value.Goals as goal

pub loop-at-preserved : goal.loop-at-preserved
loop-at-preserved c =
    headers_more (names_and_raws c.args.fields.now) c.loop-at.at (map view c.loop-at.headers.items) (map view c.push_header.new.headers.items)
    (omega arith) c.loop-at.invariant c.in_ok-push_header.ensures
