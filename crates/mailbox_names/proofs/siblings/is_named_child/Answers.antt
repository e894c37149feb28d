use Rattle.std.proofs.Common.{sym, ◌∙◌}
use Rattle.std.specs.Option.{option_copied}
use Rattle.mail_maps.specs.Mailboxes.{folders_of}
use Rattle.mailbox_names.proofs.SiblingLemmas.{not_named_child, other_name, that_name}
use Rattle.mailbox_names.proofs.siblings.is_named_child.Goals as goal

pub returns-in_default : goal.returns-in_default
returns-in_default c =
    not_named_child (folders_of c.args.mirror.now.mail.folders) (option_copied c.args.parent) c.args.folder.now c.args.name.now
    (rw c.in_default.is at c.rest_under.ensures)

pub returns-then-not-branch : goal.returns-then-not-branch
returns-then-not-branch c =
    other_name (folders_of c.args.mirror.now.mail.folders) (option_copied c.args.parent) c.args.folder.now c.args.name.now c.in-Some.rest.now
    c.in-Some.ensures (sym c.if-not-branch.true ∙ c.in_ok-is_served_as.ensures)

pub returns : goal.returns
returns c =
    c.is_child_of.ensures
    ∙ that_name (folders_of c.args.mirror.now.mail.folders) (option_copied c.args.parent) c.args.folder.now c.args.name.now c.in-Some.rest.now
    c.in-Some.ensures (sym c.if-not-branch.false ∙ c.in_ok-is_served_as.ensures)
