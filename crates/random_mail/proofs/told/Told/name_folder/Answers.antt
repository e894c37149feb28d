use Rattle.std.proofs.Common.{◌≡◌, ℕ, List, Option, Some, None, sym, ap, ◌∙◌, option_map}
use Rattle.told_folder.specs.declared.message.NumberedFolder.{NumberedFolder}
use Rattle.told_mail.specs.Mail.{named}
use Rattle.random_mail.proofs.told.Told.name_folder.Goals as goal

pub put_folder-requires-clause-name : goal.put_folder-requires-clause-name
put_folder-requires-clause-name c n h there same =
    let found : named c.args.self.now.mirror.mail.folders h.folder.name ≡ Some h = c.one_named.ensures n h there in
    let name : c.as_slice.result.now ≡ h.folder.name = c.as_slice.ensures ∙ sym same in
    let some = ap (λ (t : List ℕ). option_map (λ (x : NumberedFolder). x.folder) (named c.args.self.now.mirror.mail.folders t)) name
    ∙ ap (λ (o : Option NumberedFolder). option_map (λ (x : NumberedFolder). x.folder) o) found in
    absurd (let none : None ≡ Some h.folder = c.in-None.ensures ∙ some in cc)
