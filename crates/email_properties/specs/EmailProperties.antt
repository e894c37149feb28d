-- The properties of an Email (RFC 8621 section 4.1) and their names.
use Rattle.std.specs.Prelude.{ℕ, Bool, true, false, List, [], ◌∷◌, bytes_eq, codes, Option, option_map}
use Rattle.std.specs.List.{find}
use Rattle.std.specs.Option.{option_or}
use Rattle.email_properties.specs.HeaderProperties.{header_in}
use Rattle.email_properties.specs.declared.email_property.EmailProperty.{EmailProperty}
use Rattle.email_properties.specs.declared.email_property.EmailProperty.TheVariants.{Id, BlobId, ThreadId, MailboxIds, Keywords, Size, ReceivedAt}
use Rattle.email_properties.specs.declared.email_property.EmailProperty.TheVariants.{MessageId, InReplyTo, References, Sender, From, To, Cc, Bcc, ReplyTo}
use Rattle.email_properties.specs.declared.email_property.EmailProperty.TheVariants.{Subject, SentAt, HasAttachment, Preview, BodyStructure, BodyValues}
use Rattle.email_properties.specs.declared.email_property.EmailProperty.TheVariants.{TextBody, HtmlBody, Attachments, Headers, Header}

-- its key in an object
abbrev pub email_key : EmailProperty → List ℕ
email_key Id = codes "id"
email_key BlobId = codes "blobId"
email_key ThreadId = codes "threadId"
email_key MailboxIds = codes "mailboxIds"
email_key Keywords = codes "keywords"
email_key Size = codes "size"
email_key ReceivedAt = codes "receivedAt"
email_key MessageId = codes "messageId"
email_key InReplyTo = codes "inReplyTo"
email_key References = codes "references"
email_key Sender = codes "sender"
email_key From = codes "from"
email_key To = codes "to"
email_key Cc = codes "cc"
email_key Bcc = codes "bcc"
email_key ReplyTo = codes "replyTo"
email_key Subject = codes "subject"
email_key SentAt = codes "sentAt"
email_key HasAttachment = codes "hasAttachment"
email_key Preview = codes "preview"
email_key BodyStructure = codes "bodyStructure"
email_key BodyValues = codes "bodyValues"
email_key TextBody = codes "textBody"
email_key HtmlBody = codes "htmlBody"
email_key Attachments = codes "attachments"
email_key Headers = codes "headers"
email_key (Header h) = h.key

-- those that have a name of their own
abbrev pub email_properties : List EmailProperty
email_properties =
    Id ∷ BlobId ∷ ThreadId ∷ MailboxIds ∷ Keywords ∷ Size ∷ ReceivedAt
    ∷ MessageId ∷ InReplyTo ∷ References ∷ Sender ∷ From ∷ To ∷ Cc ∷ Bcc ∷ ReplyTo ∷ Subject ∷ SentAt
    ∷ HasAttachment ∷ Preview ∷ BodyStructure ∷ BodyValues ∷ TextBody ∷ HtmlBody ∷ Attachments ∷ Headers ∷ []

abbrev pub named_email_property : List ℕ → Option EmailProperty
named_email_property key = find (λ p. bytes_eq key (email_key p)) email_properties

-- the property that a text asks
abbrev pub email_property_in : List ℕ → Option EmailProperty
email_property_in key = option_or (named_email_property key) (option_map Header (header_in key))

-- whether the body of the message is needed for it
abbrev pub is_of_body : EmailProperty → Bool
is_of_body HasAttachment = true
is_of_body Preview = true
is_of_body BodyStructure = true
is_of_body BodyValues = true
is_of_body TextBody = true
is_of_body HtmlBody = true
is_of_body Attachments = true
is_of_body p = false

-- ---- what is asked where no properties are named (sections 4.9 and 4.2)

abbrev pub email_parse_defaults : List EmailProperty
email_parse_defaults =
    MessageId ∷ InReplyTo ∷ References ∷ Sender ∷ From ∷ To ∷ Cc ∷ Bcc ∷ ReplyTo ∷ Subject ∷ SentAt
    ∷ HasAttachment ∷ Preview ∷ BodyValues ∷ TextBody ∷ HtmlBody ∷ Attachments ∷ []

abbrev pub email_get_defaults : List EmailProperty
email_get_defaults = Id ∷ BlobId ∷ ThreadId ∷ MailboxIds ∷ Keywords ∷ Size ∷ ReceivedAt ∷ email_parse_defaults
