-- What has become of the mail, and what was told since; when that is served.
use Rattle.std.specs.Prelude.{◌≡◌, ◌⊎◌, []}
use Rattle.told_mail.specs.Mail.{SameMail, IsNextMail}
use Rattle.told_mail.specs.Told.{Told}
use Rattle.mail_state.specs.History.{MailHistory, Advances, HasRoom}
use Rattle.email_bodies.specs.Keeping.{Bodies}

-- the history that is served, the mail told since, with the count of its changes, and the bodies that are kept
pub record KnownMail : Type 0 where
  pub history : MailHistory
  pub told : Told
  pub bodies : Bodies

-- nothing was told yet
abbrev pub known_mail : MailHistory → KnownMail
known_mail h = record { history = h; told = record { mail = h.mail; changes = 0 }; bodies = [] }

-- the told mail is other than the mail that is served
abbrev pub IsNewMail : KnownMail → Type 0
IsNewMail k = SameMail k.history.mail k.told.mail → ⊥

-- the history goes on to the told mail, which it can go on to
pub record GoesOnTo (k : KnownMail) (after : MailHistory) : Type 0 where
  pub next : IsNextMail k.history.mail k.told.mail
  pub advances : Advances k.history k.told.mail after

abbrev pub served_anew : KnownMail → MailHistory → KnownMail
served_anew k after = record k { history = after }

-- a place would pass the last one on the way to the told mail
pub record IsSpent (k : KnownMail) : Type 0 where
  pub after : MailHistory
  pub goes_on : GoesOnTo k after
  pub passes : HasRoom after → ⊥

-- a step to the told mail, with a place left for it
pub record Advanced (before after : KnownMail) : Type 0 where
  pub is_new : IsNewMail before
  pub next : MailHistory
  pub goes_on : GoesOnTo before next
  pub room : HasRoom next
  pub after_is : after ≡ served_anew before next

-- The told mail is served from then on: the history goes on to it, where it is new.
abbrev pub Commits : KnownMail → KnownMail → Type 0
Commits before after = (SameMail before.history.mail before.told.mail × (after ≡ before)) ⊎ Advanced before after
