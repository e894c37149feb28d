-- Which checks the code's choice stands for.
use Rattle.set_methods.specs.Checks.{Rules, EmailRules, MailboxRules}
use Rattle.set_methods.specs.declared.checks.SetChecks.{SetChecks}
use Rattle.set_methods.specs.declared.checks.SetChecks.TheVariants.{Email, Mailbox}

abbrev pub rules_of : SetChecks → Rules
rules_of (Email uploads) = EmailRules uploads.now
rules_of (Mailbox removes) = MailboxRules removes
