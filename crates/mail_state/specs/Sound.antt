-- What holds of each history.
use Rattle.std.specs.Prelude.{◌≡◌, ℕ, ◌+◌, ◌≤◌, List, [], ◌∷◌, All, true, is_some, Option, Some, None}
use Rattle.std.specs.List.Sorted.{IsStrictlySortedBy}
use Rattle.std.specs.Map.{keys_of}
use Rattle.std.specs.Ordering.{nat_cmp}
use Rattle.change_list.specs.History.{Touch, map_then}
use Rattle.told_folder.specs.declared.message.NumberedFolder.{NumberedFolder}
use Rattle.told_mail.specs.Mail.{IsMail}
use Rattle.served_maps.specs.Past.{Past, IsPast, IsEverBelow, had_at, place_now}
use Rattle.mail_maps.specs.declared.row.EmailRow.{EmailRow}
use Rattle.mail_maps.specs.Envelope.{IsEnvelopeOf}
use Rattle.mail_maps.specs.Visible.{Placed, shown}
use Rattle.mail_maps.specs.Serve.{Email, ServedMailbox}
use Rattle.mail_rows.specs.NumberedRows.{knows, MarksApart}
use Rattle.mail_rows.specs.Remaining.{updated}
use Rattle.mail_state.specs.History.{MailHistory, served_mailboxes, served_emails, served_threads}

-- a row knows its number, has the folder, UID and keywords of its message, and the envelope of its header
pub record IsRowOf (hs : List NumberedFolder) (e : ℕ × EmailRow) : Type 0 where
  pub number : e.1.number ≡ e.0
  pub message : Placed
  pub there : shown hs e.1.mark ≡ Some message
  pub placed : e.1 ≡ updated e.1 message
  pub read : IsEnvelopeOf e.1.header e.1.envelope

-- whenever a number names an Email, that is the same one
abbrev pub KeepsImmutable : Past Email → Type 0
KeepsImmutable p = (i j q : ℕ) (u v : Email) → had_at p i q ≡ Some u → had_at p j q ≡ Some v → u.immutable ≡ v.immutable

-- a Mailbox comes of a touch that is what the touch finds but for its counts
pub record LeavesTheRest (was value : Option ServedMailbox) : Type 0 where
  pub now : ServedMailbox
  pub value_is : value ≡ Some now
  pub rest : (u : ServedMailbox) → was ≡ Some u → record u { counts = now.counts } ≡ now

-- each touch that counts alone leaves the rest
abbrev pub CountAlone : (ℕ → Option ServedMailbox) → List (Touch ServedMailbox) → Type 0
CountAlone was [] = Unit {0}
CountAlone was (t ∷ ts) = (t.counts_only ≡ true → LeavesTheRest (was t.id) t.value) × CountAlone (map_then was t) ts

pub record IsSound (h : MailHistory) : Type 0 where
  pub is_mail : IsMail h.mail
  pub mailboxes : IsPast h.mailboxes
  pub emails : IsPast h.emails
  pub threads : IsPast h.threads
  -- each last map is that of the rows
  pub mailboxes_now : h.mailboxes.now ≡ served_mailboxes h.mail h.numbered.rows
  pub emails_now : h.emails.now ≡ served_emails h.numbered.rows
  pub threads_now : h.threads.now ≡ served_threads h.numbered.rows
  -- each number ever used is below the next one
  pub mailboxes_below : IsEverBelow h.mailboxes h.mail.next_folder
  pub emails_below : IsEverBelow h.emails h.numbered.next
  pub threads_below : IsEverBelow h.threads h.numbered.next
  pub next : h.numbered.next ≤ place_now h.emails + 1
  pub ascending : IsStrictlySortedBy nat_cmp (keys_of h.numbered.rows)
  pub rows : All (IsRowOf h.mail.folders) h.numbered.rows
  pub marks : MarksApart h.numbered.rows
  -- an Email has a mark exactly where the mail shows it
  pub marks_shown : (mark : ℕ) → knows h.numbered.rows mark ≡ is_some (shown h.mail.folders mark)
  pub immutable : KeepsImmutable h.emails
  pub count_alone : CountAlone (λ _. None) h.mailboxes.touches
