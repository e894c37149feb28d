-- What conditions read.
use Rattle.std.specs.Prelude.{Bool, true, false}
use Rattle.query_conditions.specs.declared.email_condition.RecordCondition.{RecordCondition}
use Rattle.query_conditions.specs.declared.email_condition.RecordCondition.TheVariants as record_condition
use Rattle.query_arguments.specs.declared.email_condition.EmailCondition.{EmailCondition}
use Rattle.query_arguments.specs.declared.email_condition.EmailCondition.TheVariants.{Record, Header, Thread}

-- whether it is one of a field's text
abbrev pub is_of_text : RecordCondition → Bool
is_of_text (record_condition.InMailbox mailbox) = false
is_of_text (record_condition.InMailboxOtherThan mailboxes) = false
is_of_text (record_condition.Before time) = false
is_of_text (record_condition.After time) = false
is_of_text (record_condition.MinSize size) = false
is_of_text (record_condition.MaxSize size) = false
is_of_text (record_condition.HasKeyword keyword) = false
is_of_text (record_condition.NotKeyword keyword) = false
is_of_text (record_condition.InField field words) = true

-- whether it reads a text or a header
abbrev pub reads_text : EmailCondition → Bool
reads_text (Record c) = is_of_text c
reads_text (Header name words) = true
reads_text (Thread quantity keyword) = false
