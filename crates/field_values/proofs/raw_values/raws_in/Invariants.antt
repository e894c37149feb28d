use Rattle.std.proofs.Common.{◌≡◌, map, take}
use Rattle.mail_header.specs.Fields.{names_and_raws}
use Rattle.field_values.specs.HeaderProperties.{raws_named}
use Rattle.field_values.proofs.raw_values.raws_in.Given as goal

abbrev pub invariant-loop-at : goal.invariant-loop-at
invariant-loop-at l = map (λ r. r.now) l.raws.items ≡ raws_named l.name (take l.at (names_and_raws l.fields))
