-- A mirror as what an exchange tells goes into it.
use Rattle.std.specs.Prelude.{◌≡◌, ◌<◌, ◌≤◌, ◌^◌, ◌-◌, min, None, is_some, true}
use Rattle.told_mail.specs.Mail.{Mail, held_in, message_in, IsNextMail}
use Rattle.told_mail.specs.Told.{Told}
use Rattle.told_changes.specs.declared.landing.Landing.{Landing}

-- the mail can follow; the count never falls, but to its last value, and where it stands, short of that, the mail is the same
pub record Steps (old new : Told) : Type 0 where
  pub next : IsNextMail old.mail new.mail
  pub rises : min old.changes (2 ^ 64 - 1) ≤ new.changes
  pub stands : old.changes ≡ new.changes → new.changes < 2 ^ 64 - 1 → new.mail ≡ old.mail

-- the folder is there, and no message of it has the UID
pub record IsFree (m : Mail) (l : Landing) : Type 0 where
  pub there : is_some (held_in m.folders l.folder) ≡ true
  pub free : message_in m.folders l.folder l.uid ≡ None
