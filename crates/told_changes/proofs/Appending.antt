-- A message that is put into a mirror under the next mark.
use Rattle.std.proofs.Common.{◌≡◌, ℕ, ℤ, ◌≤◌, ◌<◌, List, Option, Some, length, sym, ap, ◌∙◌, subst, arith}
use Rattle.imap_types.specs.Items.{kept}
use Rattle.imap_types.specs.declared.command.Command.{Command}
use Rattle.imap_types.specs.declared.command.Command.TheVariants as command
use Rattle.told_folder.specs.Folders.{mark_in}
use Rattle.told_folder.specs.Tell.{kept_header}
use Rattle.told_folder.specs.declared.exchange.Exchange.{Exchange}
use Rattle.told_folder.specs.declared.message.Message.{Message}
use Rattle.told_folder.specs.declared.telling.TheConstants.{MAX_MARK}
use Rattle.told_mail.specs.Mail.{Mail, IsMail, IsNextMail, with_message}
use Rattle.told_mail.specs.Told.{Told, counted_up}
use Rattle.told_changes.specs.Changes.{appended_message}
use Rattle.told_changes.specs.Headers.{header_of}
use Rattle.told_changes.specs.Landings.{landing_in, target_of, told_landing}
use Rattle.told_changes.specs.declared.landing.Landing.{Landing}
use Rattle.told_changes.specs.reading.Steps.{Steps}
use Rattle.told_changes.proofs.Changing.{appended_next}
use Rattle.told_changes.proofs.Keeping.{mark_left}
use Rattle.told_changes.proofs.Moving.{landing_is}
use Rattle.told_changes.proofs.Steps.{steps_counted}

-- the message, field by field
pub message_is : (mark uid : ℕ) (flags : List (List ℕ)) (date : ℤ) (message : List ℕ) (fs : List (List ℕ)) (size : ℕ) (header : List ℕ) → fs ≡ kept flags → size ≡ length message
    → header ≡ kept_header (header_of message)
    → ◌≡◌ {A = Message} (record { uid = uid; mark = mark; flags = fs; date = date; size = size; header = header }) (appended_message mark uid flags date message)
message_is mark uid flags date message fs size header a b c = cc

module _ (m : Mail) (i : IsMail m) where
  -- the next mark stands nowhere
  pub next_is_free : (k : ℕ) → k ≡ m.next_mark → (p : ℕ × ℕ) → mark_in m.folders p ≡ Some k → ⊥
  next_is_free k same p e =
      let less : k < m.next_mark = i.marks_below p k e in
      absurd (omega (arith, less, same))

-- where an APPEND is told a mark was left
pub append_left : (m : Mail) (x : Exchange) (l : Landing) (name : List ℕ) (flags : List (List ℕ)) (date : ℤ) (message : List ℕ)
    → x.command ≡ command.Append name flags date message → told_landing m x ≡ Some l → m.next_mark ≤ MAX_MARK
append_left m x l name flags date message is told =
    mark_left m name flags date message x.responses x.code (target_of m x.command) l
    (sym (ap (λ (k : Command). landing_in m.next_mark k x.responses x.code (target_of m x.command)) is) ∙ landing_is m x l told)

-- the mirror with it is a step
pub appended_steps : (a b : Told) (l : Landing) (flags : List (List ℕ)) (date : ℤ) (message : List ℕ) → IsMail a.mail
    → b.mail ≡ with_message a.mail l.folder (appended_message a.mail.next_mark l.uid flags date message) → b.changes ≡ counted_up a.changes → Steps a b
appended_steps a b l flags date message i is counted =
    steps_counted a b (subst (λ (m : Mail). IsNextMail a.mail m) (sym is) (appended_next a.mail l flags date message i)) counted
