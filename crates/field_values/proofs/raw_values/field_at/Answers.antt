use Rattle.std.proofs.Common.{slice_get}
use Rattle.mail_header.specs.Fields.{names_and_raws}
use Rattle.field_values.proofs.PropertyLemmas.{field_is}
use Rattle.field_values.proofs.raw_values.field_at.Goals as goal

pub returns : goal.returns
returns c =
    field_is (slice_get (names_and_raws c.args.fields.now) c.args.at) c.in_ok-name.name.now c.in_ok-raw.raw.now c.in_ok-name.ensures c.in_ok-raw.ensures
