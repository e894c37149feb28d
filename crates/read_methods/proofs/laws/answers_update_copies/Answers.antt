use Rattle.std.proofs.Common.{Ok}
use Rattle.jmap_arguments.specs.Ids.{mailbox_letter, thread_letter, email_letter}
use Rattle.read_methods.specs.Changes.{no_further, updated_properties}
use Rattle.read_methods.proofs.ChangeLemmas.{brings_if}
use Rattle.read_methods.proofs.laws.answers_update_copies.Goals as goal

pub returns-clause-mailboxes : goal.returns-clause-mailboxes
returns-clause-mailboxes c = λ h d reply is. brings_if mailbox_letter h.epoch h.mailboxes updated_properties d (Ok reply) is

pub returns-clause-threads : goal.returns-clause-threads
returns-clause-threads c = λ h d reply is. brings_if thread_letter h.epoch h.threads no_further d (Ok reply) is

pub returns-clause-emails : goal.returns-clause-emails
returns-clause-emails c = λ h d reply is. brings_if email_letter h.epoch h.emails no_further d (Ok reply) is
