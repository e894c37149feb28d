use Rattle.std.proofs.Common.{◌≡◌, false, sym, ◌∙◌}
use Rattle.mime_fields.specs.ContentIds.{is_opener}
use Rattle.mime_fields.proofs.IdLemmas.{takes_octet}
use Rattle.mime_fields.proofs.content_id.push_unit.Goals as goal

pub returns : goal.returns
returns c =
    let k = c.args.comments in
    let o : is_opener k c.in-Some.octet ≡ false = sym c.is_opener.ensures ∙ c.if-is_opener.false in
    takes_octet k c.args.text.now c.in-Some.rest.now c.args.kept.now.items c.push_octet.new.kept.items c.in-Some.octet c.in-Some.ensures o c.in_ok-push_octet-in-Some.ensures
