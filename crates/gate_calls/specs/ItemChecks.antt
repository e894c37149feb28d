-- What an item of a call has to pass, by the uploads, the method and what the call asks (RFC 8621 sections 2.5, 4.6 and 4.8).
use Rattle.std.specs.Prelude.{ℕ, List}
use Rattle.set_arguments.specs.declared.set_method.SetMethod.TheVariants.{EmailSet, MailboxSet, EmailImport}
use Rattle.set_methods.specs.Checks.{EmailRules, MailboxRules, ImportRules}
use Rattle.gate_changes.specs.Answering.{ItemChecks}

abbrev pub item_checks : List (List ℕ) → ItemChecks
item_checks uploads EmailSet asked = EmailRules uploads
item_checks uploads MailboxSet asked = MailboxRules asked.removes
item_checks uploads EmailImport asked = ImportRules uploads
