-- What plans over a mirror keep of it.
use Rattle.told_mail.specs.Mail.{IsMail, IsNextMail}
use Rattle.told_mail.specs.Told.{Told}
use Rattle.imap_client.specs.Rounds.{CountsOn}

-- the count goes on as it should, and the mail can follow what it was
abbrev pub KeepsMirror : Told → Told → Type 0
KeepsMirror old new = CountsOn old new × (IsMail old.mail → IsNextMail old.mail new.mail)
