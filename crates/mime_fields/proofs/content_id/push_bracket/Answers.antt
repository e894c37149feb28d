use Rattle.std.proofs.Common.{[], refl}
use Rattle.mime_fields.proofs.IdLemmas.{takes_comment, takes_quoted, takes_rest}
use Rattle.mime_fields.proofs.content_id.push_bracket.Goals as goal

pub returns-in-Some : goal.returns-in-Some
returns-in-Some c = takes_comment c.args.text.now c.in-Some.field-0-0.now c.in-Some.rest.now c.args.kept.now.items c.in-Some.ensures.0 c.in-Some.ensures.1

pub returns-in-Some-quoted_at : goal.returns-in-Some-quoted_at
returns-in-Some-quoted_at c = λ k o.
    takes_quoted c.args.text.now c.in-Some-quoted_at.quoted.now c.in-Some-quoted_at.rest.now c.args.kept.now.items c.extend_from_slice.new.self.items
    c.in-Some-quoted_at.ensures.0 c.in-Some-quoted_at.ensures.1 c.in_ok-extend_from_slice.ensures.items k

pub returns : goal.returns
returns c =
    takes_rest c.args.text.now [] c.args.kept.now.items c.push_visible.new.kept.items c.in_default.ensures c.in_default-quoted_at.ensures refl
    c.in_ok-push_visible.ensures
