use Rattle.std.proofs.Common.{ap, ◌∙◌}
use Rattle.std.proofs.lemmas.Result.{on_ok_weaker}
use Rattle.message_lines.specs.Ids.{bracketed}
use Rattle.message_texts.proofs.PartLemmas.{content_id_written}
use Rattle.message_texts.proofs.leaves.push_content_id.Goals as goal

pub returns-in_ok-id-in-Some : goal.returns-in_ok-id-in-Some
returns-in_ok-id-in-Some c =
    on_ok_weaker c.push_field.result
    (λ w. content_id_written c.args.text.now c.push_field.new.text c.args.cid.now c.in-Some.cid c.as_slice.result.now c.in-Some.is
    (c.as_slice.ensures.value ∙ c.in_ok-id-in-Some.ensures ∙ ap bracketed (c.as_bytes.ensures.value ∙ c.as_str.ensures)) w) c.push_field.ensures
