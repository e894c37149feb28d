-- Conditions of Emails as JSON (RFC 8621 section 4.4.1).
use Rattle.std.specs.Prelude.{ℕ, List, [], ◌∷◌, bytes_eq, codes, if◌then◌else◌, Option, Some, None}
use Rattle.serde_json.specs.Data.{Data}
use Rattle.serde_json.specs.Find.{as_str}
use Rattle.jmap_arguments.specs.Ids.{mailbox_letter}
use Rattle.query_conditions.specs.declared.email_condition.Quantity.TheVariants as quantity
use Rattle.query_conditions.specs.declared.email_condition.RecordCondition.{RecordCondition}
use Rattle.query_conditions.specs.declared.email_condition.RecordCondition.TheVariants as condition
use Rattle.query_conditions.specs.declared.email_condition.TextField.{TextField}
use Rattle.query_conditions.specs.declared.email_condition.TextField.TheVariants as field
use Rattle.query_arguments.specs.declared.email_condition.EmailCondition.{EmailCondition}
use Rattle.query_arguments.specs.declared.email_condition.EmailCondition.TheVariants.{Record, Header, Thread}
use Rattle.query_arguments.specs.declared.reading.Reading.{Reading}
use Rattle.query_arguments.specs.declared.reading.Reading.TheVariants.{Wrong, Unsupported, Means}
use Rattle.search_words.specs.SearchWords.{words_asked}
use Rattle.query_arguments.specs.Readings.{means}
use Rattle.query_arguments.specs.Values.{number_of_id, mailboxes_of_ids, list_of_texts, natural_of, second_from, keyword_given}

-- the words of a search text, of which there may be too many
abbrev pub header_has : List ℕ → Option (List (List ℕ)) → Reading EmailCondition
header_has name None = Unsupported
header_has name (Some words) = Means (Header name (Some words))

-- a field's name, or a name and a search text
abbrev pub name_and_text : List (List ℕ) → Reading EmailCondition
name_and_text [] = Wrong
name_and_text (name ∷ []) = Means (Header name None)
name_and_text (name ∷ text ∷ []) = header_has name (words_asked text)
name_and_text (name ∷ text ∷ more ∷ rest) = Wrong

abbrev pub header_condition : Option (List (List ℕ)) → Reading EmailCondition
header_condition None = Wrong
header_condition (Some texts) = name_and_text texts

abbrev pub field_has : TextField → Option (List (List ℕ)) → Reading EmailCondition
field_has field None = Unsupported
field_has field (Some words) = Means (Record (condition.InField field words))

-- a search text
abbrev pub in_field : TextField → Option (List ℕ) → Reading EmailCondition
in_field field None = Wrong
in_field field (Some text) = field_has field (words_asked text)

-- a condition of the record alone, made of a value of the right kind
abbrev pub of_record : {A : Type 0} → (A → RecordCondition) → Option A → Reading EmailCondition
of_record make value = means (λ a. Record (make a)) value

abbrev pub email_condition_in : List ℕ → Data → Reading EmailCondition
email_condition_in key d =
    if bytes_eq key (codes "inMailbox") then of_record (λ id. condition.InMailbox (number_of_id mailbox_letter id)) (as_str d)
    else if bytes_eq key (codes "inMailboxOtherThan") then of_record (λ ids. condition.InMailboxOtherThan (mailboxes_of_ids ids)) (list_of_texts d)
    else if bytes_eq key (codes "before") then of_record condition.Before (second_from d)
    else if bytes_eq key (codes "after") then of_record condition.After (second_from d)
    else if bytes_eq key (codes "minSize") then of_record condition.MinSize (natural_of d)
    else if bytes_eq key (codes "maxSize") then of_record condition.MaxSize (natural_of d)
    else if bytes_eq key (codes "allInThreadHaveKeyword") then means (Thread quantity.All) (keyword_given d)
    else if bytes_eq key (codes "someInThreadHaveKeyword") then means (Thread quantity.Some) (keyword_given d)
    else if bytes_eq key (codes "noneInThreadHaveKeyword") then means (Thread quantity.None) (keyword_given d)
    else if bytes_eq key (codes "hasKeyword") then of_record condition.HasKeyword (keyword_given d)
    else if bytes_eq key (codes "notKeyword") then of_record condition.NotKeyword (keyword_given d)
    else if bytes_eq key (codes "from") then in_field field.From (as_str d)
    else if bytes_eq key (codes "to") then in_field field.To (as_str d)
    else if bytes_eq key (codes "cc") then in_field field.Cc (as_str d)
    else if bytes_eq key (codes "bcc") then in_field field.Bcc (as_str d)
    else if bytes_eq key (codes "subject") then in_field field.Subject (as_str d)
    else if bytes_eq key (codes "header") then header_condition (list_of_texts d)
    else Unsupported
