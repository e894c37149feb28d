use Rattle.std.proofs.Common.{Ok}
use Rattle.query_changes.proofs.SplicingLemmas.{emails_brought, mailboxes_brought}
use Rattle.query_changes.proofs.laws.answers_splice_lists.Goals as goal

pub returns-clause-emails : goal.returns-clause-emails
returns-clause-emails c = λ h d reply past answers. emails_brought h d past (Ok reply) answers

pub returns-clause-mailboxes : goal.returns-clause-mailboxes
returns-clause-mailboxes c = λ h d reply past answers. mailboxes_brought h d past (Ok reply) answers
