use Rattle.std.proofs.Common.{ℕ, List, Option, ap, ◌∙◌}
use Rattle.text_words.specs.Cuts.{front}
use Rattle.email_properties.specs.HeaderProperties.{is_name_octet, Asked, endings, asked_among, header_asked}
use Rattle.email_properties.proofs.header_property.header_of.Goals as goal

pub returns : goal.returns
returns c =
    let key = c.args.key.now in
    let name = front is_name_octet c.args.field.now in
    c.header_asked.ensures
    ∙ ap (λ (n : List ℕ). header_asked key n c.asked_among.result) c.cut.ensures.front
    ∙ ap (λ (o : Option Asked). header_asked key name o) (c.asked_among.ensures ∙ ap (λ (t : List ℕ). asked_among endings t) c.cut.ensures.back)
