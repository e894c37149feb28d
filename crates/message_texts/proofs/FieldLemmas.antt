-- Fields that are added to a text, one after another.
use Rattle.std.proofs.Common.{◌≡◌, ℕ, ℤ, List, [], ◌∷◌, ◌++◌, codes, Option, Some, refl, sym, ap, ◌∙◌, subst}
use Rattle.std.proofs.lemmas.List.{append_assoc, append-nil}
use Rattle.std.proofs.lemmas.List.Concat.{flat_map-append}
use Rattle.message_lines.specs.declared.folding.Line.{Line}
use Rattle.message_lines.specs.Folding.{FieldPiece, Field, begun, laid, crlf, field_text, fields_text, Lays}
use Rattle.message_lines.specs.Ids.{AreIdTexts}
use Rattle.message_lines.specs.Subjects.{IsSubject}
use Rattle.mail_drafts.specs.declared.draft.Draft.{Draft}
use Rattle.message_texts.specs.DateTexts.{IsDateText}
use Rattle.message_texts.specs.Fields.{AddsFields, IsWrittenField, IsWrittenFieldOf, AreAddressFields, AreIdFields, AreDraftFields, date_or_now, ids_or_drawn}
use Rattle.message_texts.specs.Parts.{Entity, entity_text}
use Rattle.message_texts.specs.Messages.{mime_version, with_fields}

-- no field is added
pub none_added : (old : List ℕ) → AddsFields (λ (fs : List Field). fs ≡ []) old old
none_added old = record { fields = []; are = refl; text_is = sym (append-nil old) }

-- the text of a field, put together
one_field : (old name value : List ℕ) → ((old ++ (name ++ 58 ∷ [])) ++ value) ++ crlf ≡ old ++ ((name ++ 58 ∷ (value ++ crlf)) ++ [])
one_field old name value = simp (append_assoc, append-nil)

-- a field is added: its name, its pieces and the end of its line
pub field_added : (Are : Line → List FieldPiece → Type 0) (name old begun_text laid_text new : List ℕ) (line after : Line) → begun_text ≡ old ++ (name ++ 58 ∷ []) → line ≡ begun name
    → Lays (Are line) line begun_text laid_text after → new ≡ laid_text ++ crlf → AddsFields (IsWrittenField (Are (begun name)) name) old new
field_added Are name old begun_text laid_text new line after e f h g =
    let value = laid (begun name) h.pieces in
    record {
      fields = record { name = name; pieces = h.pieces } ∷ [];
      are = (h.pieces, subst (λ (l : Line). Are l h.pieces) f h.are, refl);
      text_is =
          g ∙ ap (λ (u : List ℕ). u ++ crlf) (h.text_is ∙ ap (λ (l : Line). begun_text ++ laid l h.pieces) f ∙ ap (λ (u : List ℕ). u ++ value) e)
          ∙ one_field old name value;
    }

-- a field is added whose value is there
pub value_added : {X : Type 0} (Are : Line → X → List FieldPiece → Type 0) (name old begun_text laid_text new : List ℕ) (line after : Line) (value : Option X) (x y : X) → value ≡ Some x
    → y ≡ x → begun_text ≡ old ++ (name ++ 58 ∷ []) → line ≡ begun name → Lays (Are line y) line begun_text laid_text after → new ≡ laid_text ++ crlf
    → AddsFields (IsWrittenFieldOf (Are (begun name)) name value) old new
value_added {X} Are name old begun_text laid_text new line after value x y is same e f h g =
    subst (λ (o : Option X). AddsFields (IsWrittenFieldOf (Are (begun name)) name o) old new) (sym is)
    (subst (λ (z : X). AddsFields (IsWrittenField (Are (begun name) z) name) old new) same
    (field_added (λ (l : Line). Are l y) name old begun_text laid_text new line after e f h g))

-- fields more
pub more_added : (fs gs : List Field) (old text new : List ℕ) → text ≡ old ++ fields_text fs → new ≡ text ++ fields_text gs → new ≡ old ++ fields_text (fs ++ gs)
more_added fs gs old text new e f =
    f ∙ ap (λ (u : List ℕ). u ++ fields_text gs) e ∙ append_assoc old (fields_text fs) (fields_text gs) ∙ ap (λ (u : List ℕ). old ++ u) (sym (flat_map-append field_text fs gs))

-- the fields of a draft, MIME-Version and the part make the message
pub whole : (fs : List Field) (e : Entity) (none fields mime text : List ℕ) → none ≡ [] → fields ≡ none ++ fields_text fs → mime ≡ fields ++ field_text mime_version
    → text ≡ mime ++ entity_text e → text ≡ entity_text (with_fields fs e)
whole fs e none fields mime text h f g k =
    let start : fields ≡ fields_text fs = f ∙ ap (λ (u : List ℕ). u ++ fields_text fs) h in
    k ∙ ap (λ (u : List ℕ). u ++ entity_text e) (g ∙ ap (λ (u : List ℕ). u ++ field_text mime_version) start)
    ∙ sym (append_assoc (fields_text fs ++ field_text mime_version) (fields_text e.fields) (crlf ++ e.body))
    ∙ ap (λ (u : List ℕ). u ++ (crlf ++ e.body))
    (append_assoc (fields_text fs) (field_text mime_version) (fields_text e.fields) ∙ sym (flat_map-append field_text fs (mime_version ∷ e.fields)))

-- the fields of a draft, one after another
pub draft_fields : (d : Draft) (now : ℤ) (word : ℕ) (t0 t1 t2 t3 t4 t5 t6 t7 t8 t9 t10 t11 : List ℕ)
    → AddsFields (IsWrittenField (IsDateText (date_or_now now d.date)) (codes "Date")) t0 t1
    → AddsFields (AreAddressFields (codes "From") d.from) t1 t2
    → AddsFields (AreAddressFields (codes "Sender") d.sender) t2 t3
    → AddsFields (AreAddressFields (codes "Reply-To") d.reply_to) t3 t4
    → AddsFields (AreAddressFields (codes "To") d.to) t4 t5
    → AddsFields (AreAddressFields (codes "Cc") d.cc) t5 t6
    → AddsFields (AreAddressFields (codes "Bcc") d.bcc) t6 t7
    → AddsFields (IsWrittenFieldOf (IsSubject (begun (codes "Subject"))) (codes "Subject") d.subject) t7 t8
    → AddsFields (IsWrittenField (AreIdTexts (ids_or_drawn word d.message_id)) (codes "Message-ID")) t8 t9
    → AddsFields (AreIdFields (codes "In-Reply-To") d.in_reply_to) t9 t10
    → AddsFields (AreIdFields (codes "References") d.references) t10 t11
    → AddsFields (AreDraftFields d now word) t0 t11
draft_fields d now word t0 t1 t2 t3 t4 t5 t6 t7 t8 t9 t10 t11 a_date a_from a_sender a_reply_to a_to a_cc a_bcc a_subject a_message_id a_in_reply_to a_references =
    let f2 = a_date.fields ++ a_from.fields in
    let e2 = more_added (a_date.fields) a_from.fields t0 t1 t2 a_date.text_is a_from.text_is in
    let f3 = f2 ++ a_sender.fields in
    let e3 = more_added (f2) a_sender.fields t0 t2 t3 e2 a_sender.text_is in
    let f4 = f3 ++ a_reply_to.fields in
    let e4 = more_added (f3) a_reply_to.fields t0 t3 t4 e3 a_reply_to.text_is in
    let f5 = f4 ++ a_to.fields in
    let e5 = more_added (f4) a_to.fields t0 t4 t5 e4 a_to.text_is in
    let f6 = f5 ++ a_cc.fields in
    let e6 = more_added (f5) a_cc.fields t0 t5 t6 e5 a_cc.text_is in
    let f7 = f6 ++ a_bcc.fields in
    let e7 = more_added (f6) a_bcc.fields t0 t6 t7 e6 a_bcc.text_is in
    let f8 = f7 ++ a_subject.fields in
    let e8 = more_added (f7) a_subject.fields t0 t7 t8 e7 a_subject.text_is in
    let f9 = f8 ++ a_message_id.fields in
    let e9 = more_added (f8) a_message_id.fields t0 t8 t9 e8 a_message_id.text_is in
    let f10 = f9 ++ a_in_reply_to.fields in
    let e10 = more_added (f9) a_in_reply_to.fields t0 t9 t10 e9 a_in_reply_to.text_is in
    let f11 = f10 ++ a_references.fields in
    let e11 = more_added (f10) a_references.fields t0 t10 t11 e10 a_references.text_is in
    record {
      fields = f11;
      are = record {
        date = a_date.fields;
        from = a_from.fields;
        sender = a_sender.fields;
        reply_to = a_reply_to.fields;
        to = a_to.fields;
        cc = a_cc.fields;
        bcc = a_bcc.fields;
        subject = a_subject.fields;
        message_id = a_message_id.fields;
        in_reply_to = a_in_reply_to.fields;
        references = a_references.fields;
        whole = refl;
        is_date = a_date.are;
        is_from = a_from.are;
        is_sender = a_sender.are;
        is_reply_to = a_reply_to.are;
        is_to = a_to.are;
        is_cc = a_cc.are;
        is_bcc = a_bcc.are;
        is_subject = a_subject.are;
        is_message_id = a_message_id.are;
        is_in_reply_to = a_in_reply_to.are;
        is_references = a_references.are;
      };
      text_is = e11;
    }
