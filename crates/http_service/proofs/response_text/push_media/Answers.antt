use Rattle.std.proofs.Common.{◌++◌, codes, ap, ◌∙◌}
use Rattle.std.proofs.lemmas.List.{append_assoc}
use Rattle.http_service.specs.Responses.{media_field, crlf}
use Rattle.http_service.proofs.response_text.push_media.Goals as goal

pub returns : goal.returns
unfolding media_field
returns c =
    let head = c.args.head.now.items in
    let media = c.args.media.now in
    c.in_ok-extend_from_slice-3.ensures.items
    ∙ (λ i. (c.in_ok-extend_from_slice-2.ensures.items ∙ ap (λ t. t ++ media) c.in_ok-extend_from_slice.ensures.items) i ++ crlf)
    ∙ append_assoc (head ++ codes "Content-Type: ") media crlf
    ∙ append_assoc head (codes "Content-Type: ") (media ++ crlf)
