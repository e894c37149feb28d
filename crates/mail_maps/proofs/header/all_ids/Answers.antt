use Rattle.std.proofs.Common.{◌≡◌, ℕ, List, ◌++◌, ap, ◌∙◌, codes}
use Rattle.mail_header.specs.Fields.{last_named, names_and_raws}
use Rattle.thread_rule.specs.Ids.{each_once}
use Rattle.mail_maps.specs.reading.EndedIds.{ended}
use Rattle.mail_maps.proofs.IdLemmas.{three_ended}
use Rattle.mail_maps.proofs.header.all_ids.Goals as goal

pub returns : goal.returns
returns c =
    let fields = names_and_raws c.args.fields.now in
    let xs : List (List ℕ) = c.in_ok-references.references in
    let ys : List (List ℕ) = c.in_ok-in_reply_to.in_reply_to in
    let zs : List (List ℕ) = c.in_ok-message_id.message_id in
    let whole : c.as_slice.result.now ≡ ended xs ++ ended ys ++ ended zs =
    c.as_slice.ensures.value ∙ c.in_ok-push_all-3.ensures
    ∙ ap (λ (t : List ℕ). t ++ ended zs) (c.in_ok-push_all-2.ensures
    ∙ ap (λ (t : List ℕ). t ++ ended ys) (c.in_ok-push_all.ensures ∙ ap (λ (t : List ℕ). t ++ ended xs) c.new-text.ensures.items)) in
    record {
      references = xs;
      in_reply_to = ys;
      message_id = zs;
      are_references = c.in_ok-references.ensures;
      are_in_reply_to = c.in_ok-in_reply_to.ensures;
      are_message_id = c.in_ok-message_id.ensures;
      all = c.in_ok-ids.ensures
          ∙ ap each_once (three_ended (last_named (codes "references") fields) (last_named (codes "in-reply-to") fields) (last_named (codes "message-id") fields) xs ys zs c.as_slice.result.now
          c.in_ok-references.ensures c.in_ok-in_reply_to.ensures c.in_ok-message_id.ensures whole);
    }
