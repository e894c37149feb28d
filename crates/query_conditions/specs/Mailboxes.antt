-- When a Mailbox is as a condition says (RFC 8621 section 2.3).
use Rattle.std.specs.Prelude.{◌≡◌, ◌≢◌, ℕ, Bool, Option, Some, None, is_some}
use Rattle.mail_maps.specs.Serve.{ServedMailbox}
use Rattle.mail_maps.specs.declared.row.Role.{Role}
use Rattle.query_conditions.specs.Words.{HasWord}
use Rattle.query_conditions.specs.declared.mailbox_condition.MailboxCondition.{MailboxCondition}
use Rattle.query_conditions.specs.declared.mailbox_condition.MailboxCondition.TheVariants as condition

-- it is there, and is the one that is asked
abbrev pub IsThereAs : {A : Type 0} → Option A → Option A → Type 0
IsThereAs there asked = (there ≡ asked) × (asked ≢ None)

abbrev pub MailboxMatches : ServedMailbox → MailboxCondition → Type 0
MailboxMatches b condition.IsTop = b.parent ≡ None
MailboxMatches b (condition.HasParent mailbox) = IsThereAs b.parent mailbox
MailboxMatches b (condition.Name word) = HasWord word b.name
MailboxMatches b condition.HasNoRole = b.role ≡ None
MailboxMatches b (condition.HasRole role) = IsThereAs b.role role
MailboxMatches b (condition.HasAnyRole any) = is_some b.role ≡ any
MailboxMatches b (condition.IsSubscribed subscribed) = b.subscribed ≡ subscribed
