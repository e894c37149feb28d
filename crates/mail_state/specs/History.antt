-- What has become of the mail since the beginning: a map of each type at each place, and the touches that led from one to the next.
use Rattle.std.specs.Prelude.{◌≡◌, ℕ, ◌≤◌, List}
use Rattle.change_list.specs.declared.list.TheConstants.{MAX_PLACE}
use Rattle.told_mail.specs.Mail.{Mail, no_mail, IsNextMail}
use Rattle.served_maps.specs.Past.{Past, no_past, gone_on, served, place_now}
use Rattle.mail_maps.specs.Rows.{Rows}
use Rattle.mail_maps.specs.Threads.{threads_of}
use Rattle.mail_maps.specs.Mailboxes.{mailboxes_of}
use Rattle.mail_maps.specs.Serve.{Email, ServedMailbox, email_of, mailbox_of, thread_of, email_tests, mailbox_tests, thread_tests}
use Rattle.mail_rows.specs.NumberedRows.{NumberedRows, none_numbered}
use Rattle.mail_rows.specs.Taking.{TakesMail}

pub record MailHistory : Type 0 where
  pub epoch : ℕ
  pub mail : Mail
  pub numbered : NumberedRows
  pub mailboxes : Past ServedMailbox
  pub emails : Past Email
  pub threads : Past (List ℕ)

abbrev pub first_history : ℕ → MailHistory
first_history epoch = record { epoch = epoch; mail = no_mail; numbered = none_numbered; mailboxes = no_past; emails = no_past; threads = no_past }

-- ---- going on

abbrev pub served_mailboxes : Mail → Rows → List (ℕ × ServedMailbox)
served_mailboxes m rows = served mailbox_of (mailboxes_of m.folders rows)

abbrev pub served_emails : Rows → List (ℕ × Email)
served_emails rows = served email_of rows

abbrev pub served_threads : Rows → List (ℕ × List ℕ)
served_threads rows = served thread_of (threads_of rows)

-- on to other mail, where these are the Emails that come of it
abbrev pub advanced : MailHistory → Mail → NumberedRows → MailHistory
advanced h m n = record {
  epoch = h.epoch;
  mail = m;
  numbered = n;
  mailboxes = gone_on mailbox_tests h.mailboxes (served_mailboxes m n.rows);
  emails = gone_on email_tests h.emails (served_emails n.rows);
  threads = gone_on thread_tests h.threads (served_threads n.rows);
}

-- each type goes from its last map to the new one by removals, then changes, then additions, each by ascending number
pub record Advances (h : MailHistory) (m : Mail) (after : MailHistory) : Type 0 where
  pub takes : TakesMail h.numbered m.folders after.numbered
  pub after_is : after ≡ advanced h m after.numbered

-- no place has passed the last one
pub record HasRoom (h : MailHistory) : Type 0 where
  pub mailboxes : place_now h.mailboxes ≤ MAX_PLACE
  pub emails : place_now h.emails ≤ MAX_PLACE
  pub threads : place_now h.threads ≤ MAX_PLACE

-- the histories that there are
pub data IsReached : MailHistory → Type 0 where
  Begins : (epoch : ℕ) → IsReached (first_history epoch)
  Goes : (h after : MailHistory) (m : Mail) → IsReached h → IsNextMail h.mail m → Advances h m after → IsReached after
