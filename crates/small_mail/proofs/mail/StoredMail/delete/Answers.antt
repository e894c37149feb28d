use Rattle.std.proofs.Common.{◌≡◌, ◌∙◌, List, ap, bytes_eq, filter, not}
use Rattle.std.specs.List.{remove}
use Rattle.honest_store.specs.StoreMail.{StoreFolder, StoreMail}
use Rattle.small_mail.proofs.Folders.{deleted_is}
use Rattle.small_mail.proofs.Mails.{mail_of}
use Rattle.small_mail.proofs.mail.StoredMail.delete.Goals as goal

pub returns : goal.returns
returns c = λ f at_f.
    let mail = c.args.self.now in
    let left : c.remove-folder.new.self.items ≡ filter (λ (g : StoreFolder). not (bytes_eq g.name f.name)) mail.folders =
    c.remove-folder.ensures.items ∙ (ap (λ (m : StoreMail). remove m.folders c.args.place) c.self.view_is
    ∙ deleted_is mail.folders c.args.place f at_f c.requires.whole.names) in
    ap (λ (gs : List StoreFolder). mail_of gs c.self.inside.uses.items) left
    ∙ ap (λ (m : StoreMail). record m { folders = filter (λ (g : StoreFolder). not (bytes_eq g.name f.name)) mail.folders }) c.self.view_is
