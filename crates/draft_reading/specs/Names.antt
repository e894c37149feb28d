-- The names of the properties that a draft may have (RFC 8621 section 4.6).
use Rattle.std.specs.Prelude.{ℕ, List, [], ◌∷◌, Option, bytes_eq, codes}
use Rattle.std.specs.List.{find}
use Rattle.draft_reading.specs.declared.property.Property.{Property}
use Rattle.draft_reading.specs.declared.property.Property.TheVariants as property

abbrev pub property_key : Property → List ℕ
property_key property.Attachments = codes "attachments"
property_key property.Bcc = codes "bcc"
property_key property.BodyValues = codes "bodyValues"
property_key property.Cc = codes "cc"
property_key property.From = codes "from"
property_key property.HtmlBody = codes "htmlBody"
property_key property.InReplyTo = codes "inReplyTo"
property_key property.Keywords = codes "keywords"
property_key property.MailboxIds = codes "mailboxIds"
property_key property.MessageId = codes "messageId"
property_key property.ReceivedAt = codes "receivedAt"
property_key property.References = codes "references"
property_key property.ReplyTo = codes "replyTo"
property_key property.Sender = codes "sender"
property_key property.SentAt = codes "sentAt"
property_key property.Subject = codes "subject"
property_key property.TextBody = codes "textBody"
property_key property.To = codes "to"

-- those that a draft may have
abbrev pub properties : List Property
properties =
    property.Attachments ∷ property.Bcc ∷ property.BodyValues ∷ property.Cc ∷ property.From ∷ property.HtmlBody ∷ property.InReplyTo ∷ property.Keywords
    ∷ property.MailboxIds ∷ property.MessageId ∷ property.ReceivedAt ∷ property.References ∷ property.ReplyTo ∷ property.Sender ∷ property.SentAt
    ∷ property.Subject ∷ property.TextBody ∷ property.To ∷ []

abbrev pub property_named : List ℕ → Option Property
property_named key = find (λ p. bytes_eq key (property_key p)) properties
