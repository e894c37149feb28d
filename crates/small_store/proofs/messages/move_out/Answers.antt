use Rattle.std.proofs.Common.{◌≡◌, ◌∙◌, ◌∷◌, [], ℕ, Some, false, ap, sym}
use Rattle.std.specs.List.{slice_get}
use Rattle.imap_types.specs.declared.code.Code.TheVariants as code
use Rattle.imap_types.specs.declared.response.Response.TheVariants as response
use Rattle.imap_types.specs.declared.response.Status.TheVariants as status
use Rattle.honest_store.specs.StoreMail.{StoreFolder, StoreMail, StoreMessage}
use Rattle.small_answers.specs.ToldResponses.{ok_response, set_of}
use Rattle.small_store.specs.reading.Steps.{session_of}
use Rattle.small_store.proofs.Moving.{numbers_kept}
use Rattle.small_store.proofs.Reading.{read_at, read_is}
use Rattle.small_store.proofs.messages.move_out.Goals as goal

pub returns-clause-ok : goal.returns-clause-ok
returns-clause-ok c = λ f t m selected at_f at_m at_t.
    let mail = c.args.mail.now in
    let x = c.index-folders-source.result in
    let before = c.index-folders-target.result in
    let read = read_is c.folders.result.now mail.folders c.folders.ensures c.args.source x f c.index-folders-source.is at_f in
    let message = read_is c.messages.result.now f.messages (c.messages.ensures ∙ ap (λ (g : StoreFolder). g.messages) read) c.args.at c.index-messages-at.result m
    c.index-messages-at.is at_m in
    let was : slice_get mail.folders c.args.target ≡ Some before =
    read_at c.folders-2.result.now mail.folders c.folders-2.ensures c.args.target before c.requires.target c.index-folders-target.is in
    let kept = numbers_kept mail c.args.source c.args.target f t before m.uid c.requires.whole at_f was at_t in
    record {
      answer = c.in_ok-answer.ensures m (sym (c.uid-uid.ensures ∙ ap (λ (n : StoreMessage). n.uid) message))
          ∙ (ap (λ (v : ℕ). record { responses = ok_response (code.CopyUid v (set_of m.uid) (set_of before.uid_next)) ∷ response.Vanished false (set_of m.uid) ∷ []; status = status.Ok; code = code.Absent })
          (sym kept.0)
          ∙ ap (λ (u : ℕ). record { responses = ok_response (code.CopyUid t.validity (set_of m.uid) (set_of u)) ∷ response.Vanished false (set_of m.uid) ∷ []; status = status.Ok; code = code.Absent })
          (sym kept.1));
      session = ap (λ (n : StoreMail). session_of n selected) (c.in_ok-move_message.ensures.ok f t m at_f at_m at_t);
    }
