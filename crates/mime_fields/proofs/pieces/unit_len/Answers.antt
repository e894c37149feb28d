use Rattle.mime_fields.proofs.PieceLemmas.{unit_one, unit_comment, unit_quoted}
use Rattle.mime_fields.proofs.pieces.unit_len.Goals as goal

pub returns-then-not-closed : goal.returns-then-not-closed
returns-then-not-closed c = unit_one c.args.text.now c.requires.some (c.requires.open c.if-not-closed.true)

pub returns-in-Some : goal.returns-in-Some
returns-in-Some c = unit_comment c.args.text.now c.in-Some.comment.now c.in-Some.field-0-1.now c.in-Some.ensures.0 c.in-Some.ensures.1

pub returns-in-Some-quoted_at : goal.returns-in-Some-quoted_at
returns-in-Some-quoted_at c =
    unit_quoted c.args.text.now c.in-Some-quoted_at.quoted.now c.in-Some-quoted_at.field-0-1.now c.in-Some-quoted_at.ensures.0 c.in-Some-quoted_at.ensures.1

pub returns : goal.returns
returns c = unit_one c.args.text.now c.requires.some (record { comment = c.in_default.ensures; quoted = c.in_default-quoted_at.ensures })
