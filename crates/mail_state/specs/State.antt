-- What a state holds, and when it stands for a history.
use Rattle.std.specs.Prelude.{◌≡◌, ℕ, List, []}
use Rattle.change_list.specs.Kept.{Kept, none_yet}
use Rattle.told_mail.specs.Mail.{Mail}
use Rattle.served_maps.specs.Past.{StandsFor}
use Rattle.mail_maps.specs.declared.row.MailboxRow.{MailboxRow}
use Rattle.mail_maps.specs.Threads.{threads_of}
use Rattle.mail_maps.specs.Mailboxes.{mailboxes_of}
use Rattle.mail_maps.specs.Serve.{email_of, mailbox_of, thread_of}
use Rattle.mail_rows.specs.NumberedRows.{NumberedRows, none_numbered}
use Rattle.mail_state.specs.History.{MailHistory}
use Rattle.mail_state.specs.Sound.{IsSound}

-- the rows of the three types: Emails with their UIDs, Mailboxes with their full names
pub record ServedRows : Type 0 where
  pub numbered : NumberedRows
  pub mailboxes : List (ℕ × MailboxRow)
  pub threads : List (ℕ × List ℕ)

abbrev pub no_rows : ServedRows
no_rows = record { numbered = none_numbered; mailboxes = []; threads = [] }

-- those of mail whose Emails are these
abbrev pub rows_of : Mail → NumberedRows → ServedRows
rows_of m n = record { numbered = n; mailboxes = mailboxes_of m.folders n.rows; threads = threads_of n.rows }

-- the last touches of each type
pub record ChangeLists : Type 0 where
  pub mailbox : Kept
  pub email : Kept
  pub thread : Kept

abbrev pub first_lists : ChangeLists
first_lists = record { mailbox = none_yet; email = none_yet; thread = none_yet }

pub record ServedState : Type 0 where
  pub epoch : ℕ
  pub rows : ServedRows
  pub lists : ChangeLists

abbrev pub first_state : ℕ → ServedState
first_state epoch = record { epoch = epoch; rows = no_rows; lists = first_lists }

-- its rows, as they are served, are the last maps of the history, and its lists have the last touches
pub record IsStateOf (h : MailHistory) (s : ServedState) : Type 0 where
  pub sound : IsSound h
  pub epoch : s.epoch ≡ h.epoch
  pub rows : s.rows ≡ rows_of h.mail h.numbered
  pub mailboxes : StandsFor mailbox_of s.rows.mailboxes s.lists.mailbox h.mailboxes
  pub emails : StandsFor email_of s.rows.numbered.rows s.lists.email h.emails
  pub threads : StandsFor thread_of s.rows.threads s.lists.thread h.threads
