use Rattle.std.proofs.Common.{◌≡◌, Some, sym, ap, refl}
use Rattle.told_folder.specs.Folders.{uid_of, messages_in, message_in}
use Rattle.told_folder.specs.Keyed.{Ascends}
use Rattle.told_folder.specs.declared.message.Message.{Message}
use Rattle.told_folder.proofs.FolderLemmas.{ascends_in}
use Rattle.told_mail.specs.Mail.{Mail, with_flags_of}
use Rattle.told_mail.proofs.FieldLemmas.{flags_stay, flags_were}
use Rattle.told_mail.proofs.mirror.Mirror.has_flags.Goals as goal

pub returns-in-Some : goal.returns-in-Some
returns-in-Some c =
    let m : Mail = c.args.self.now.mail in
    let n = c.args.folder in
    let uid = c.args.uid in
    let x : Message = c.in-Some.message.now in
    let found : message_in m.folders n uid ≡ Some x = sym c.in-Some.ensures in
    let up : Ascends uid_of (messages_in m.folders n) = ascends_in m.folders n c.each_is_mail.ensures.uids in (
      λ t. flags_stay m n uid c.args.flags.now x found up (c.are_same.ensures.0 t),
      λ e. c.are_same.ensures.1 (flags_were m n uid c.args.flags.now x found up e),
    )

pub returns-in-None : goal.returns-in-None
returns-in-None c =
    let m : Mail = c.args.self.now.mail in
    (λ t. ap (with_flags_of m c.args.folder c.args.flags.now) (sym c.in-None.ensures), λ e. refl)
