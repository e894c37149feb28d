use Rattle.std.proofs.Common.{Some}
use Rattle.mail_maps.specs.Mailboxes.{folders_of}
use Rattle.mailbox_names.proofs.SiblingLemmas.{not_child}
use Rattle.mailbox_names.proofs.siblings.is_child.Goals as goal

pub returns-in-None : goal.returns-in-None
returns-in-None c = not_child (folders_of c.args.mirror.now.mail.folders) (Some c.args.folder.now) c.args.other.now c.in-None.ensures
