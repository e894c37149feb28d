-- A state's step to other mail: its touches, where a place has no room for them, and what comes of it.
use Rattle.std.specs.Prelude.{◌≡◌, ◌⊎◌, ◌↔◌, ℕ, ◌+◌, ◌<◌, nat_lt, if◌then◌else◌, List, ◌++◌, length, Option, Some, None, Result, Ok, Err, IsTrue}
use Rattle.std.specs.Option.{option_map, option_or}
use Rattle.change_list.specs.Kept.{Kept, IsOf}
use Rattle.change_list.specs.declared.list.TheConstants.{MAX_PLACE}
use Rattle.change_list.specs.Advance.{advance_entries}
use Rattle.change_list.specs.declared.entries.Entry.{Entry}
use Rattle.told_mail.specs.Mail.{Mail}
use Rattle.served_maps.specs.Past.{tests_of, place_now}
use Rattle.mail_maps.specs.Serve.{mailbox_of, thread_of, mailbox_tests, thread_tests}
use Rattle.mail_rows.specs.NumberedRows.{NumberedRows}
use Rattle.mail_rows.specs.Taking.{TakesMail}
use Rattle.mail_rows.specs.RowTouches.{email_touches}
use Rattle.mail_state.specs.declared.touches.Advance.{Advance}
use Rattle.mail_state.specs.declared.error.StateError.{StateError}
use Rattle.mail_state.specs.declared.error.StateError.TheVariants.{Spent, Memory}
use Rattle.mail_state.specs.History.{MailHistory, Advances, HasRoom}
use Rattle.mail_state.specs.State.{ServedRows, ChangeLists, ServedState, IsStateOf, rows_of}

-- ---- the touches of each type

pub record Touches : Type 0 where
  pub mailbox : List Entry
  pub email : List Entry
  pub thread : List Entry

abbrev pub touches_between : ServedRows → ServedRows → Touches
touches_between old new = record {
  mailbox = advance_entries (tests_of mailbox_of mailbox_tests) old.mailboxes new.mailboxes;
  email = email_touches old.numbered.rows new.numbered.rows;
  thread = advance_entries (tests_of thread_of thread_tests) old.threads new.threads;
}

-- ---- no room

-- the place of the list, where these touches would pass the last one
abbrev pub full_place : Kept → List Entry → Option ℕ
full_place list touches = if nat_lt MAX_PLACE (list.place + length touches) then Some list.place else None

-- of Mailboxes, Emails and Threads the first whose place would pass the last one
abbrev pub spent_place : ChangeLists → Touches → Option ℕ
spent_place lists t = option_or (full_place lists.mailbox t.mailbox) (option_or (full_place lists.email t.email) (full_place lists.thread t.thread))

-- on the way to this mail, where its Emails are these
abbrev pub spent_to : ServedState → Mail → NumberedRows → Option ℕ
spent_to s m n = spent_place s.lists (touches_between s.rows (rows_of m n))

-- Spent comes exactly where a place would pass the last one. The Emails that come of the mail are one thing alone.
abbrev pub RefusesSpent : {X : Type 0} → ServedState → Mail → Result X StateError → Type 0
RefusesSpent s m (Ok x) = (n : NumberedRows) × TakesMail s.rows.numbered m.folders n × (spent_to s m n ≡ None)
RefusesSpent s m (Err e) = (e ≡ Memory) ⊎ ((n : NumberedRows) × TakesMail s.rows.numbered m.folders n × (option_map Spent (spent_to s m n) ≡ Some e))

-- ---- the step, whatever came before

-- the touches were noted in the list
pub record Noted (before now : Kept) (touches : List Entry) : Type 0 where
  pub place : now.place ≡ before.place + length touches
  pub noted : (h : List Entry) → IsOf before h → IsOf now (h ++ touches)

pub record AllNoted (before now : ChangeLists) (t : Touches) : Type 0 where
  pub mailbox : Noted before.mailbox now.mailbox t.mailbox
  pub email : Noted before.email now.email t.email
  pub thread : Noted before.thread now.thread t.thread

-- the state has the rows of the mail, and its lists have the touches that lead to them
pub record StepsTo (s : ServedState) (m : Mail) (now : ServedState) : Type 0 where
  pub epoch : now.epoch ≡ s.epoch
  pub takes : TakesMail s.rows.numbered m.folders now.rows.numbered
  pub rows : now.rows ≡ rows_of m now.rows.numbered
  pub noted : AllNoted s.lists now.lists (touches_between s.rows now.rows)

-- ---- following

-- a type has moved where its place rose
pub record Moves (moved : Advance) (h after : MailHistory) : Type 0 where
  pub mailbox : IsTrue moved.mailbox ↔ (place_now h.mailboxes < place_now after.mailboxes)
  pub email : IsTrue moved.email ↔ (place_now h.emails < place_now after.emails)
  pub thread : IsTrue moved.thread ↔ (place_now h.threads < place_now after.threads)

-- the state stands for the history that went on to the mail, whose places have room
pub record FollowsMail (h : MailHistory) (m : Mail) (now : ServedState) (moved : Advance) : Type 0 where
  pub after : MailHistory
  pub advances : Advances h m after
  pub stands : IsStateOf after now
  pub moves : Moves moved h after
  pub room : HasRoom after

-- the history goes on to the mail, and a place passes the last one
pub record SpendsPlace (h : MailHistory) (m : Mail) : Type 0 where
  pub after : MailHistory
  pub advances : Advances h m after
  pub passes : HasRoom after → ⊥

-- what holds where the answer is Spent
abbrev pub IfSpent : {X : Type 0} → Result X StateError → Type 0 → Type 0
IfSpent (Ok x) P = Unit {0}
IfSpent (Err Memory) P = Unit {0}
IfSpent (Err (Spent place)) P = P
