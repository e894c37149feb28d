-- Touches that are noted in the lists, and a refusal where there is no room.
use Rattle.std.specs.Prelude.{◌≡◌, ◌≤◌, ◌+◌, ℕ, ◌==◌, not, length, Option, Some, None, Result, Ok, Err}
use Rattle.std.specs.Option.{option_map}
use Rattle.mail_rows.specs.NumberedRows.{NumberedRows}
use Rattle.mail_rows.specs.Taking.{TakesMail}
use Rattle.told_mail.specs.Mail.{Mail}
use Rattle.mail_state.specs.declared.touches.Advance.{Advance}
use Rattle.mail_state.specs.declared.error.StateError.{StateError}
use Rattle.mail_state.specs.declared.error.StateError.TheVariants.{Spent}
use Rattle.mail_state.specs.State.{ServedRows, rows_of}
use Rattle.mail_state.specs.Following.{Touches, touches_between}

-- an answer where no place is spent, and a refusal by the place that is
abbrev pub AnswersSpent : {X : Type 0} → Result X StateError → Option ℕ → Type 0
AnswersSpent (Ok x) spent = spent ≡ None
AnswersSpent (Err e) spent = option_map Spent spent ≡ Some e

-- the types that have touches
abbrev pub moved_by : Touches → Advance
moved_by t = record { mailbox = not (length t.mailbox == 0); email = not (length t.email == 0); thread = not (length t.thread == 0) }

-- the rows come to those of the mail, by these touches
pub record StepsRows (before : ServedRows) (m : Mail) (now : ServedRows) (t : Touches) : Type 0 where
  pub takes : TakesMail before.numbered m.folders now.numbered
  pub rows : now ≡ rows_of m now.numbered
  pub touches : t ≡ touches_between before now
  pub counted : now.numbered.next ≤ before.numbered.next + length t.email
