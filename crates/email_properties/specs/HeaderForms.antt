-- The forms of header fields' values (RFC 8621 section 4.1.2): how properties ask them, and which fields take them.
use Rattle.std.specs.Prelude.{◌≡◌, ℕ, Bool, true, not, ◌||◌, ◌⊎◌, List, [], ◌∷◌, codes}
use Rattle.std.specs.List.{list_any}
use Rattle.text_words.specs.Octets.{is_same_text}
use Rattle.email_properties.specs.declared.header_form.HeaderForm.{HeaderForm}
use Rattle.email_properties.specs.declared.header_form.HeaderForm.TheVariants.{Raw, Text, Addresses, GroupedAddresses, MessageIds, Date, Urls}

-- ---- how they are asked (section 4.1.3)

abbrev pub form_suffix : HeaderForm → List ℕ
form_suffix Raw = codes ":asRaw"
form_suffix Text = codes ":asText"
form_suffix Addresses = codes ":asAddresses"
form_suffix GroupedAddresses = codes ":asGroupedAddresses"
form_suffix MessageIds = codes ":asMessageIds"
form_suffix Date = codes ":asDate"
form_suffix Urls = codes ":asURLs"

-- the form's suffix, or none, which asks Raw
abbrev pub AsksForm : HeaderForm → List ℕ → Type 0
AsksForm form suffix = (suffix ≡ form_suffix form) ⊎ ((form ≡ Raw) × (suffix ≡ []))

-- ---- which fields take them

-- the fields that sections 4.1.2.2 to 4.1.2.7 name for each form
abbrev pub text_fields : List (List ℕ)
text_fields = codes "subject" ∷ codes "comments" ∷ codes "keywords" ∷ codes "list-id" ∷ []

abbrev pub address_fields : List (List ℕ)
address_fields =
    codes "from" ∷ codes "sender" ∷ codes "reply-to" ∷ codes "to" ∷ codes "cc" ∷ codes "bcc"
    ∷ codes "resent-from" ∷ codes "resent-sender" ∷ codes "resent-reply-to" ∷ codes "resent-to" ∷ codes "resent-cc" ∷ codes "resent-bcc" ∷ []

abbrev pub message_id_fields : List (List ℕ)
message_id_fields = codes "message-id" ∷ codes "in-reply-to" ∷ codes "references" ∷ codes "resent-message-id" ∷ []

abbrev pub date_fields : List (List ℕ)
date_fields = codes "date" ∷ codes "resent-date" ∷ []

abbrev pub url_fields : List (List ℕ)
url_fields =
    codes "list-help" ∷ codes "list-unsubscribe" ∷ codes "list-subscribe" ∷ codes "list-post" ∷ codes "list-owner" ∷ codes "list-archive" ∷ []

-- the other fields that RFC 5322 defines
abbrev pub raw_fields : List (List ℕ)
raw_fields = codes "received" ∷ codes "return-path" ∷ []

unfoldable pub is_field_of : List (List ℕ) → List ℕ → Bool
is_field_of fields name = list_any (is_same_text name) fields

abbrev pub is_named_field : List ℕ → Bool
is_named_field name =
    is_field_of text_fields name || is_field_of address_fields name || is_field_of message_id_fields name
    || is_field_of date_fields name || is_field_of url_fields name

-- a form is for its fields, and for each field that isn't named here and that RFC 5322 doesn't define
abbrev pub is_for : List (List ℕ) → List ℕ → Bool
is_for fields name = is_field_of fields name || not (is_named_field name || is_field_of raw_fields name)

-- every field takes Raw
abbrev pub is_permitted : List ℕ → HeaderForm → Bool
is_permitted name Raw = true
is_permitted name Text = is_for text_fields name
is_permitted name Addresses = is_for address_fields name
is_permitted name GroupedAddresses = is_for address_fields name
is_permitted name MessageIds = is_for message_id_fields name
is_permitted name Date = is_for date_fields name
is_permitted name Urls = is_for url_fields name
