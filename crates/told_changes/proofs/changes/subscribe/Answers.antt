use Rattle.std.proofs.Common.{ℕ, List, ◌∙◌, refl, sym, ap}
use Rattle.kept_names.specs.Changes.{subscribed}
use Rattle.told_folder.specs.declared.message.Folder.{Folder}
use Rattle.told_mail.specs.Mail.{Mail, named, with_attributes}
use Rattle.told_changes.specs.Changes.{with_subscribed}
use Rattle.told_changes.proofs.Steps.{steps_none}
use Rattle.told_changes.proofs.Storing.{attributes_steps, folder_held, no_folder}
use Rattle.told_changes.proofs.changes.subscribe.Goals as goal

pub returns-in_default-clause-ok : goal.returns-in_default-clause-ok
returns-in_default-clause-ok c =
    sym (ap (with_subscribed c.args.mirror.now.mail c.args.on) (no_folder (named c.args.mirror.now.mail.folders c.args.name.now) c.in_default.ensures))

pub returns-in_default-clause-steps : goal.returns-in_default-clause-steps
returns-in_default-clause-steps c = steps_none _ _ c.each_is_mail.ensures refl

pub returns-in_err-attributes-clause-steps : goal.returns-in_err-attributes-clause-steps
returns-in_err-attributes-clause-steps c = steps_none _ _ c.each_is_mail.ensures refl

pub returns-clause-ok : goal.returns-clause-ok
returns-clause-ok c =
    let m : Mail = c.args.mirror.now.mail in
    let f : Folder = c.in-Some.folder.now in
    let h = folder_held (named m.folders c.args.name.now) f c.in-Some.ensures in
    c.set_attributes.ensures.mail
    ∙ (ap (with_attributes m f.number) (c.in_ok-attributes.ensures ∙ ap (λ (was : List (List ℕ)). subscribed c.args.on was) c.as_slice.ensures)
    ∙ (ap (λ (g : Folder). with_attributes m g.number (subscribed c.args.on g.attributes)) (sym h.2)
    ∙ sym (ap (with_subscribed m c.args.on) h.1)))

pub returns-clause-steps : goal.returns-clause-steps
returns-clause-steps c =
    attributes_steps _ _ c.in-Some.folder.now.number c.in_ok-attributes.attributes c.each_is_mail.ensures c.set_attributes.ensures.mail c.set_attributes.ensures.counts
