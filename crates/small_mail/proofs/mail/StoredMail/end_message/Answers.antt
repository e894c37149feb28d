use Rattle.std.proofs.Common.{◌∙◌, ◌+◌, ℕ, ap, refl}
use Rattle.std.specs.List.{slice_get}
use Rattle.std.proofs.lemmas.Result.{on_ok_weaker}
use Rattle.honest_store.specs.StoreMail.{StoreFolder}
use Rattle.honest_store.specs.MessageChanges.{folder_without}
use Rattle.small_mail.proofs.Mails.{folder_at, read_is, changed_is}
use Rattle.small_mail.proofs.Moves.{ended, ended_is}
use Rattle.small_mail.proofs.mail.StoredMail.end_message.Goals as goal

pub returns-clause-ok : goal.returns-clause-ok
returns-clause-ok c = on_ok_weaker c.end_message.result (λ gone f m at_f at_m.
    let fs = c.self.inside.folders.items in
    let us = c.self.inside.uses.items in
    let mail = c.args.self.now in
    let x_f = read_is fs us mail c.self.view_is c.args.place c.index_mut-folder.result.now f at_f c.index_mut-folder.ensures.value in
    changed_is fs us mail c.self.view_is c.args.place f (folder_without f m.uid (f.highest + 1)) c.end_message.new.self c.requires.whole at_f refl
    (gone m (ap (λ (g : StoreFolder). slice_get g.messages c.args.at) x_f ∙ at_m)
    ∙ (ap (λ (g : StoreFolder). ended g c.args.at m.uid (c.highest-modseq.result + 1)) x_f
    ∙ (ap (λ (q : ℕ). ended f c.args.at m.uid (q + 1)) (c.highest-modseq.ensures ∙ ap (λ (g : StoreFolder). g.highest) x_f)
    ∙ ended_is f c.args.at m (folder_at mail c.args.place f c.requires.whole at_f).ascend at_m)))) c.end_message.ensures.ok
