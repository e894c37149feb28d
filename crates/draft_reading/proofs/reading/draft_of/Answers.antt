use Rattle.std.proofs.Common.{codes}
use Rattle.draft_reading.specs.Properties.{Allows}
use Rattle.draft_reading.proofs.reading.draft_of.Goals as goal

pub mailboxes_at-requires : goal.mailboxes_at-requires
unfolding Allows
mailboxes_at-requires c = λ d is. c.requires (codes "from") d is

pub mailboxes_at-requires-2 : goal.mailboxes_at-requires-2
unfolding Allows
mailboxes_at-requires-2 c = λ d is. c.requires (codes "sender") d is

pub mailboxes_at-requires-3 : goal.mailboxes_at-requires-3
unfolding Allows
mailboxes_at-requires-3 c = λ d is. c.requires (codes "replyTo") d is

pub mailboxes_at-requires-4 : goal.mailboxes_at-requires-4
unfolding Allows
mailboxes_at-requires-4 c = λ d is. c.requires (codes "to") d is

pub mailboxes_at-requires-5 : goal.mailboxes_at-requires-5
unfolding Allows
mailboxes_at-requires-5 c = λ d is. c.requires (codes "cc") d is

pub mailboxes_at-requires-6 : goal.mailboxes_at-requires-6
unfolding Allows
mailboxes_at-requires-6 c = λ d is. c.requires (codes "bcc") d is

pub returns : goal.returns
returns c = λ uploads zip. record {
  allowed = c.requires;
  date = c.moment_at.ensures;
  from = c.in_ok-mailboxes_at.ensures.value;
  sender = c.in_ok-mailboxes_at-2.ensures.value;
  reply_to = c.in_ok-mailboxes_at-3.ensures.value;
  to = c.in_ok-mailboxes_at-4.ensures.value;
  cc = c.in_ok-mailboxes_at-5.ensures.value;
  bcc = c.in_ok-mailboxes_at-6.ensures.value;
  subject = c.in_ok-subject_at.ensures.value;
  message_id = c.in_ok-ids_at.ensures.value;
  in_reply_to = c.in_ok-ids_at-2.ensures.value;
  references = c.in_ok-ids_at-3.ensures.value;
  text = c.in_ok-body_at.ensures.value;
  html = c.in_ok-body_at-2.ensures.value;
  attachments = zip;
}
