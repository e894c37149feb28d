use Rattle.std.proofs.Common.{List, ap, ◌∙◌}
use Rattle.std.specs.List.{list_any}
use Rattle.told_folder.specs.declared.message.NumberedFolder.{NumberedFolder}
use Rattle.mailbox_names.specs.reading.Stays.{gives_clash}
use Rattle.mailbox_names.proofs.ClashLemmas.{looked_up_clashes}
use Rattle.mailbox_names.proofs.renames.clashes.Goals as goal

pub loop-held-init : goal.loop-held-init
loop-held-init c =
    let hs : List NumberedFolder = c.args.mirror.now.mail.folders in
    ap (λ (xs : List NumberedFolder). list_any (λ (h : NumberedFolder). gives_clash c.args.from.now c.args.to.now hs h.folder) xs) c.folders-held-items.ensures
    ∙ looked_up_clashes c.args.from.now c.args.to.now hs c.each_is_mail.ensures.numbers c.one_named.ensures
