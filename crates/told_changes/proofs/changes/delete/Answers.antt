use Rattle.std.proofs.Common.{◌≡◌, ◌∙◌, refl, sym, ap, is_some, true}
use Rattle.told_folder.specs.Folders.{folder_in}
use Rattle.told_folder.specs.declared.message.Folder.{Folder}
use Rattle.told_mail.specs.Mail.{Mail, named, without_folder}
use Rattle.told_changes.specs.Changes.{without_named}
use Rattle.told_changes.proofs.Steps.{steps_none}
use Rattle.told_changes.proofs.Storing.{cut_steps, folder_held, folder_there, no_folder}
use Rattle.told_changes.proofs.changes.delete.Goals as goal

pub returns-in_default-clause-mail : goal.returns-in_default-clause-mail
returns-in_default-clause-mail c =
    sym (ap (without_named c.args.mirror.now.mail) (no_folder (named c.args.mirror.now.mail.folders c.args.name.now) c.in_default.ensures))

pub returns-in_default-clause-steps : goal.returns-in_default-clause-steps
returns-in_default-clause-steps c = steps_none _ _ c.each_is_mail.ensures refl

pub returns-clause-mail : goal.returns-clause-mail
returns-clause-mail c =
    let m : Mail = c.args.mirror.now.mail in
    let f : Folder = c.in-Some.folder.now in
    let h = folder_held (named m.folders c.args.name.now) f c.in-Some.ensures in
    c.cut_folder.ensures.mail ∙ (ap (λ (g : Folder). without_folder m g.number) (sym h.2) ∙ sym (ap (without_named m) h.1))

pub returns-clause-steps : goal.returns-clause-steps
returns-clause-steps c =
    let m : Mail = c.args.mirror.now.mail in
    let f : Folder = c.in-Some.folder.now in
    let h = folder_held (named m.folders c.args.name.now) f c.in-Some.ensures in
    let there : is_some (folder_in m.folders f.number) ≡ true =
    ap (λ (g : Folder). is_some (folder_in m.folders g.number)) (sym h.2) ∙ folder_there m c.each_is_mail.ensures c.args.name.now h.0 h.1 in
    cut_steps _ _ f.number c.each_is_mail.ensures c.cut_folder.ensures.mail (c.cut_folder.ensures.counted there)
