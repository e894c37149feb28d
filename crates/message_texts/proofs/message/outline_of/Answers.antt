use Rattle.std.proofs.Common.{ℤ, w64, subst}
use Rattle.std.proofs.lemmas.Int.{to_z-of_z}
use Rattle.message_texts.specs.Fields.{AreDraftFields}
use Rattle.message_texts.specs.Messages.{draft_part}
use Rattle.message_texts.proofs.FieldLemmas.{whole}
use Rattle.message_texts.proofs.message.outline_of.Goals as goal

pub returns : goal.returns
returns c =
    let added = c.in_ok-push_draft_fields.ensures in
    record {
      fields = added.fields;
      are = subst (λ (now : ℤ). AreDraftFields c.args.draft.now now c.args.word added.fields) (to_z-of_z w64 c.args.now c.ranges.now) added.are;
      text_is = whole added.fields (draft_part c.args.draft.now) c.new-text.result c.push_draft_fields.new.text c.push_field.new.text c.push_part.new.text c.new-text.ensures added.text_is
          c.in_ok-push_field.ensures c.in_ok-push_part.ensures;
    }
