use Rattle.std.proofs.Common.{map}
use Rattle.std.proofs.lemmas.Result.{on_ok_weaker}
use Rattle.std.specs.Char.{to_ascii_lowercase}
use Rattle.mail_header.specs.Fields.{field_view, names_and_raws}
use Rattle.field_values.specs.reading.FieldIndex.{raws_at}
use Rattle.field_values.proofs.IndexLemmas.{field_added}
use Rattle.field_values.proofs.PropertyLemmas.{no_raw}
use Rattle.field_values.proofs.field_index.add_field.Goals as goal

pub returns-in_default : goal.returns-in_default
returns-in_default c = λ name.
    no_raw name (names_and_raws c.args.fields.now) c.args.at (raws_at c.args.index.now (map to_ascii_lowercase name)) c.in_default.ensures

pub returns : goal.returns
returns c = on_ok_weaker c.add_raw.result (λ grows. λ name.
    let lower = map to_ascii_lowercase name in
    field_added name (names_and_raws c.args.fields.now) c.args.at (field_view c.in-Some.field) c.in_ok-name.name.items (raws_at c.args.index.now lower)
    (raws_at c.add_raw.new.index lower) c.in-Some.ensures c.in_ok-name.ensures (grows lower)) c.add_raw.ensures
