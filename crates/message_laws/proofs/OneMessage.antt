-- A draft is written as one message.
use Rattle.std.proofs.Common.{◌≡◌, ℕ, ℤ, List, [], ◌∷◌, ◌++◌, codes, Option, Some, None, sym, ap, ◌∙◌}
use Rattle.mail_drafts.specs.declared.draft.Draft.{Draft}
use Rattle.message_lines.specs.Folding.{FieldPiece, Field, begun}
use Rattle.message_lines.specs.Ids.{AreIdTexts}
use Rattle.message_lines.specs.Subjects.{IsSubject}
use Rattle.message_texts.specs.AddressTexts.{AreAddressTexts}
use Rattle.message_texts.specs.DateTexts.{IsDateText}
use Rattle.message_texts.specs.Fields.{IsWrittenField, IsWrittenFieldOf, AreDraftFields, date_or_now, ids_or_drawn}
use Rattle.message_texts.specs.Messages.{IsMessageText, draft_part, with_fields}
use Rattle.message_texts.specs.Parts.{entity_text}
use Rattle.message_laws.proofs.OneValue.{one_subject, one_address_list, one_date_text, one_ids}

-- a kind of which there is one row of pieces
abbrev IsOne : (List FieldPiece → Type 0) → Type 0
IsOne Are = (ps qs : List FieldPiece) → Are ps → Are qs → ps ≡ qs

one_field : (Are : List FieldPiece → Type 0) (name : List ℕ) → IsOne Are → (fs gs : List Field) → IsWrittenField Are name fs → IsWrittenField Are name gs → fs ≡ gs
one_field Are name one fs gs (ps, a, e) (qs, b, f) = e ∙ ap (λ (us : List FieldPiece). record { name = name; pieces = us } ∷ []) (one ps qs a b) ∙ sym f

one_field_of : {X : Type 0} (Are : X → List FieldPiece → Type 0) (name : List ℕ) → ((x : X) → IsOne (Are x)) → (value : Option X) (fs gs : List Field)
    → IsWrittenFieldOf Are name value fs → IsWrittenFieldOf Are name value gs → fs ≡ gs
one_field_of Are name one None fs gs a b = a ∙ sym b
one_field_of Are name one (Some x) fs gs a b = one_field (Are x) name (one x) fs gs a b

one_row : (d : Draft) (now : ℤ) (word : ℕ) (fs gs : List Field) → AreDraftFields d now word fs → AreDraftFields d now word gs → fs ≡ gs
one_row d now word fs gs a b =
    let date = one_field (IsDateText (date_or_now now d.date)) (codes "Date") (one_date_text (date_or_now now d.date)) a.date b.date a.is_date b.is_date in
    let from = one_field_of (AreAddressTexts (begun (codes "From"))) (codes "From") (one_address_list (begun (codes "From"))) d.from a.from b.from a.is_from b.is_from in
    let sender = one_field_of (AreAddressTexts (begun (codes "Sender"))) (codes "Sender") (one_address_list (begun (codes "Sender"))) d.sender a.sender b.sender a.is_sender b.is_sender in
    let reply_to = one_field_of (AreAddressTexts (begun (codes "Reply-To"))) (codes "Reply-To") (one_address_list (begun (codes "Reply-To"))) d.reply_to a.reply_to b.reply_to a.is_reply_to b.is_reply_to in
    let to = one_field_of (AreAddressTexts (begun (codes "To"))) (codes "To") (one_address_list (begun (codes "To"))) d.to a.to b.to a.is_to b.is_to in
    let cc = one_field_of (AreAddressTexts (begun (codes "Cc"))) (codes "Cc") (one_address_list (begun (codes "Cc"))) d.cc a.cc b.cc a.is_cc b.is_cc in
    let bcc = one_field_of (AreAddressTexts (begun (codes "Bcc"))) (codes "Bcc") (one_address_list (begun (codes "Bcc"))) d.bcc a.bcc b.bcc a.is_bcc b.is_bcc in
    let subject = one_field_of (IsSubject (begun (codes "Subject"))) (codes "Subject") (one_subject (begun (codes "Subject"))) d.subject a.subject b.subject a.is_subject b.is_subject in
    let message_id = one_field (AreIdTexts (ids_or_drawn word d.message_id)) (codes "Message-ID") (one_ids (ids_or_drawn word d.message_id)) a.message_id b.message_id a.is_message_id b.is_message_id in
    let in_reply_to = one_field_of AreIdTexts (codes "In-Reply-To") one_ids d.in_reply_to a.in_reply_to b.in_reply_to a.is_in_reply_to b.is_in_reply_to in
    let references = one_field_of AreIdTexts (codes "References") one_ids d.references a.references b.references a.is_references b.is_references in
    a.whole
    ∙ ap (λ (fs : List Field). fs ++ a.from ++ a.sender ++ a.reply_to ++ a.to ++ a.cc ++ a.bcc ++ a.subject ++ a.message_id ++ a.in_reply_to ++ a.references) date
    ∙ ap (λ (fs : List Field). b.date ++ fs ++ a.sender ++ a.reply_to ++ a.to ++ a.cc ++ a.bcc ++ a.subject ++ a.message_id ++ a.in_reply_to ++ a.references) from
    ∙ ap (λ (fs : List Field). b.date ++ b.from ++ fs ++ a.reply_to ++ a.to ++ a.cc ++ a.bcc ++ a.subject ++ a.message_id ++ a.in_reply_to ++ a.references) sender
    ∙ ap (λ (fs : List Field). b.date ++ b.from ++ b.sender ++ fs ++ a.to ++ a.cc ++ a.bcc ++ a.subject ++ a.message_id ++ a.in_reply_to ++ a.references) reply_to
    ∙ ap (λ (fs : List Field). b.date ++ b.from ++ b.sender ++ b.reply_to ++ fs ++ a.cc ++ a.bcc ++ a.subject ++ a.message_id ++ a.in_reply_to ++ a.references) to
    ∙ ap (λ (fs : List Field). b.date ++ b.from ++ b.sender ++ b.reply_to ++ b.to ++ fs ++ a.bcc ++ a.subject ++ a.message_id ++ a.in_reply_to ++ a.references) cc
    ∙ ap (λ (fs : List Field). b.date ++ b.from ++ b.sender ++ b.reply_to ++ b.to ++ b.cc ++ fs ++ a.subject ++ a.message_id ++ a.in_reply_to ++ a.references) bcc
    ∙ ap (λ (fs : List Field). b.date ++ b.from ++ b.sender ++ b.reply_to ++ b.to ++ b.cc ++ b.bcc ++ fs ++ a.message_id ++ a.in_reply_to ++ a.references) subject
    ∙ ap (λ (fs : List Field). b.date ++ b.from ++ b.sender ++ b.reply_to ++ b.to ++ b.cc ++ b.bcc ++ b.subject ++ fs ++ a.in_reply_to ++ a.references) message_id
    ∙ ap (λ (fs : List Field). b.date ++ b.from ++ b.sender ++ b.reply_to ++ b.to ++ b.cc ++ b.bcc ++ b.subject ++ b.message_id ++ fs ++ a.references) in_reply_to
    ∙ ap (λ (fs : List Field). b.date ++ b.from ++ b.sender ++ b.reply_to ++ b.to ++ b.cc ++ b.bcc ++ b.subject ++ b.message_id ++ b.in_reply_to ++ fs) references
    ∙ sym b.whole

pub one_message : (d : Draft) (now : ℤ) (word : ℕ) (s t : List ℕ) → IsMessageText d now word s → IsMessageText d now word t → s ≡ t
one_message d now word s t a b =
    a.text_is ∙ ap (λ (fs : List Field). entity_text (with_fields fs (draft_part d))) (one_row d now word a.fields b.fields a.are b.are) ∙ sym b.text_is
