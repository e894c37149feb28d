-- The mail over which the calls of a request are answered (RFC 8620 section 3.6.2).
use Rattle.std.specs.Prelude.{ℕ, List, Option, Some, None, Result, Ok, Err}
use Rattle.jmap_arguments.specs.declared.method_error.MethodError.{MethodError}
use Rattle.jmap_arguments.specs.declared.method_error.MethodError.TheVariants.{ServerUnavailable, ServerFail}
use Rattle.mail_state.specs.History.{MailHistory}
use Rattle.gate_machine.specs.History.{KnownMail}
use Rattle.gate_machine.specs.Progress.{Progress}
use Rattle.gate_machine.specs.declared.mail_status.MailFailure.{MailFailure}
use Rattle.gate_machine.specs.declared.mail_status.MailFailure.TheVariants.{Linked, Spent, Broken}
use Rattle.gate_machine.specs.declared.mail_status.MailStatus.{MailStatus}
use Rattle.gate_machine.specs.declared.mail_status.MailStatus.TheVariants as standing

-- what has become of the mail; or the error of each call that isn't refused by its name or its arguments
abbrev pub Mailing : Type 0
Mailing = Result MailHistory MethodError

-- the error of a call that needs the mail, where that can't be told
abbrev pub error_of : MailFailure → MethodError
error_of (Linked e) = ServerUnavailable
error_of Spent = ServerFail
error_of Broken = ServerUnavailable

abbrev pub history_of : Option KnownMail → Mailing
history_of (Some k) = Ok k.history
history_of None = Err ServerUnavailable

-- the mail over which calls are answered, where the round stands
abbrev pub mailing_by : MailStatus → Option KnownMail → Mailing
mailing_by standing.Stands known = history_of known
mailing_by (standing.Unserved why) known = Err (error_of why)
mailing_by standing.OutOfMemory known = Err ServerUnavailable

-- the mail at this moment of the work on a request
abbrev pub mail_at : Progress → Mailing
mail_at p = mailing_by p.standing p.machine.known

-- the mail, and the uploads that are kept
pub record MailAndUploads : Type 0 where
  pub mail : Mailing
  pub uploads : List (List ℕ)
