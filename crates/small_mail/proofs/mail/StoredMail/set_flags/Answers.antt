use Rattle.std.proofs.Common.{◌∙◌, ◌+◌, ap, refl}
use Rattle.std.specs.List.{slice_get}
use Rattle.honest_store.specs.StoreMail.{StoreFolder}
use Rattle.honest_store.specs.MessageChanges.{folder_flagged}
use Rattle.small_mail.proofs.Mails.{folder_at, read_at, read_is, changed_is}
use Rattle.small_mail.proofs.mail.StoredMail.set_flags.Goals as goal

pub set_flags-requires : goal.set_flags-requires
set_flags-requires c =
    let fs = c.self.inside.folders.items in
    let us = c.self.inside.uses.items in
    let mail = c.args.self.now in
    let x = c.index_mut.result.now in
    let there = read_at fs us mail c.self.view_is c.args.place x c.requires.folder c.index_mut.ensures.value in
    record { place = c.requires.message x there; order = (folder_at mail c.args.place x c.requires.whole there).ascend; room = c.requires.room x there }

pub returns : goal.returns
returns c = λ f m at_f at_m.
    let fs = c.self.inside.folders.items in
    let us = c.self.inside.uses.items in
    let mail = c.args.self.now in
    let x_f = read_is fs us mail c.self.view_is c.args.place c.index_mut.result.now f at_f c.index_mut.ensures.value in
    changed_is fs us mail c.self.view_is c.args.place f (folder_flagged f m.uid c.args.flags (f.highest + 1)) c.set_flags.new.self c.requires.whole at_f refl
    (c.set_flags.ensures m (ap (λ (g : StoreFolder). slice_get g.messages c.args.at) x_f ∙ at_m)
    ∙ ap (λ (g : StoreFolder). folder_flagged g m.uid c.args.flags (g.highest + 1)) x_f)
