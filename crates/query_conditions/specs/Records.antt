-- When an Email is as a condition of its own row says (RFC 8621 section 4.4.1).
use Rattle.std.specs.Prelude.{◌≡◌, ℕ, ◌<◌, ◌≤◌, ◌==◌, ◌<ℤ◌, ◌≤ℤ◌, List, [], Bool, false, not, IsTrue, Option, Some, None}
use Rattle.std.specs.BTreeSet.{contains}
use Rattle.std.specs.Option.{unwrap_or}
use Rattle.std.specs.Ordering.{nat_cmp}
use Rattle.mail_maps.specs.Keywords.{has_name}
use Rattle.mail_maps.specs.Serve.{Email}
use Rattle.mail_maps.specs.declared.envelope.Envelope.{Envelope}
use Rattle.query_conditions.specs.Words.{HasWords}
use Rattle.query_conditions.specs.declared.email_condition.RecordCondition.{RecordCondition}
use Rattle.query_conditions.specs.declared.email_condition.RecordCondition.TheVariants as condition
use Rattle.query_conditions.specs.declared.email_condition.TextField.{TextField}
use Rattle.query_conditions.specs.declared.email_condition.TextField.TheVariants as field

-- the text of a field; it is empty where there is no such field
abbrev pub field_text : TextField → Envelope → List ℕ
field_text field.From e = unwrap_or e.from.text []
field_text field.To e = unwrap_or e.to.text []
field_text field.Cc e = unwrap_or e.cc []
field_text field.Bcc e = unwrap_or e.bcc []
field_text field.Subject e = unwrap_or e.subject []

-- the folder is the Mailbox, where an id names one
abbrev pub is_in_mailbox : ℕ → Option ℕ → Bool
is_in_mailbox folder None = false
is_in_mailbox folder (Some mailbox) = mailbox == folder

abbrev pub RecordMatches : Email → RecordCondition → Type 0
RecordMatches e (condition.InMailbox mailbox) = IsTrue (is_in_mailbox e.folder mailbox)
RecordMatches e (condition.InMailboxOtherThan mailboxes) = IsTrue (not (contains nat_cmp mailboxes e.folder))
RecordMatches e (condition.Before time) = e.immutable.received <ℤ time
RecordMatches e (condition.After time) = time ≤ℤ e.immutable.received
RecordMatches e (condition.MinSize size) = size ≤ e.immutable.size
RecordMatches e (condition.MaxSize size) = e.immutable.size < size
RecordMatches e (condition.HasKeyword keyword) = IsTrue (has_name keyword e.keywords)
RecordMatches e (condition.NotKeyword keyword) = IsTrue (not (has_name keyword e.keywords))
RecordMatches e (condition.InField field words) = HasWords words (field_text field e.immutable.envelope)
