-- A header has one envelope, so the rows of some mail come of those before in one way.
use Rattle.std.proofs.Common.{◌≡◌, ℕ, ℤ, List, [], ◌∷◌, ◌++◌, refl, sym, ap, ◌∙◌, subst, false, Option, Some, None, codes}
use Rattle.std.specs.Option.{option_map, unwrap_or}
use Rattle.text_words.specs.Cuts.{back}
use Rattle.text_words.specs.Octets.{is_blank}
use Rattle.header_words.proofs.WordLemmas as words
use Rattle.header_words.specs.declared.encoded_word.Edges.TheVariants as edges
use Rattle.mail_header.specs.Lines.{unfolded}
use Rattle.mail_header.specs.RawForms.{raw_form}
use Rattle.mail_header.specs.Bracketed.{IsNamesForm}
use Rattle.mail_header.specs.Fields.{NameAndRaw, last_named}
use Rattle.mail_header.proofs.FieldLemmas.{one_header}
use Rattle.mail_header.proofs.BracketLemmas.{one_names}
use Rattle.loose_addresses.proofs.LooseLemmas.{one_loose_addresses}
use Rattle.header_dates.specs.declared.date.Moment.{Moment}
use Rattle.header_dates.proofs.DateLemmas.{one_date}
use Rattle.thread_rule.specs.BaseSubject.{IsBaseOf, spaced}
use Rattle.thread_rule.proofs.NormalForms.{one_normal}
use Rattle.mail_maps.specs.declared.envelope.Envelope.{Envelope}
use Rattle.mail_maps.specs.declared.envelope.AddressField.{AddressField}
use Rattle.thread_rule.specs.Ids.{each_once}
use Rattle.mail_maps.specs.Envelope.{IsFieldText, NoText, Text, IsSearchText, NoSearchText, SearchText, IsFirstOf, NoMailbox, First, first_name, IsAddressFieldOf, IsTimeOf, NoDate, Date, AreIdsOf, NoIds, Ids, AreAllIds}
use Rattle.mail_maps.specs.Envelope.{SaysEnvelope, IsEnvelopeOf}
use Rattle.mail_maps.specs.Visible.{Placed}
use Rattle.told_folder.specs.declared.message.NumberedFolder.{NumberedFolder}
use Rattle.mail_rows.specs.NumberedRows.{NumberedRows}
use Rattle.mail_rows.specs.Taking.{TakesMail, taken, arrivals, AreEnvelopes}

one_text : (raw x y : Option (List ℕ)) → IsFieldText raw x → IsFieldText raw y → x ≡ y
one_text _ _ _ NoText NoText = refl
one_text _ _ _ (Text raw s g) (Text _ t h) = ap (λ (u : List ℕ). Some u) (words.one_text false (back is_blank (unfolded (raw_form raw))) s t g h)

one_search_text : (raw x y : Option (List ℕ)) → IsSearchText raw x → IsSearchText raw y → x ≡ y
one_search_text _ _ _ NoSearchText NoSearchText = refl
one_search_text _ _ _ (SearchText raw s g) (SearchText _ t h) =
    ap (λ (u : List ℕ). Some u) (words.one_text_between edges.Quotes false (back is_blank (unfolded (raw_form raw))) s t g h)

one_first : (raw x y : Option (List ℕ)) → IsFirstOf raw x → IsFirstOf raw y → x ≡ y
one_first _ _ _ NoMailbox NoMailbox = refl
one_first _ _ _ (First raw l g) (First _ m h) = ap first_name (one_loose_addresses raw l m g h)

one_address_field : (raw : Option (List ℕ)) (p q : AddressField) → IsAddressFieldOf raw p → IsAddressFieldOf raw q → p ≡ q
one_address_field raw p q g h =
    ap (λ (u : Option (List ℕ)). record { text = u; first = p.first }) (one_search_text raw p.text q.text g.text h.text)
    ∙ ap (λ (u : Option (List ℕ)). record { text = q.text; first = u }) (one_first raw p.first q.first g.first h.first)

one_time : (raw : Option (List ℕ)) (x y : Option ℤ) → IsTimeOf raw x → IsTimeOf raw y → x ≡ y
one_time _ _ _ NoDate NoDate = refl
one_time _ _ _ (Date raw m g) (Date _ n h) = ap (option_map (λ (t : Moment). t.seconds)) (one_date raw m n g h)

one_form : (raw : List ℕ) (x y : Option (List (List ℕ))) → IsNamesForm x raw → IsNamesForm y raw → x ≡ y
one_form raw None None g h = refl
one_form raw None (Some m) g h = absurd (h.0 (sym (one_names [] m (raw_form raw) g h.1)))
one_form raw (Some n) None g h = absurd (g.0 (one_names n [] (raw_form raw) g.1 h))
one_form raw (Some n) (Some m) g h = ap (λ (u : List (List ℕ)). Some u) (one_names n m (raw_form raw) g.1 h.1)

one_ids : (raw : Option (List ℕ)) (x y : List (List ℕ)) → AreIdsOf raw x → AreIdsOf raw y → x ≡ y
one_ids _ _ _ NoIds NoIds = refl
one_ids _ _ _ (Ids raw m g) (Ids _ n h) = ap (λ (u : Option (List (List ℕ))). unwrap_or u []) (one_form raw m n g h)

all_ids : (fs : List NameAndRaw) (x y : List (List ℕ)) → AreAllIds fs x → AreAllIds fs y → x ≡ y
all_ids fs x y g h =
    g.all
    ∙ ap (λ (u : List (List ℕ)). each_once (u ++ g.in_reply_to ++ g.message_id)) (one_ids (last_named (codes "references") fs) g.references h.references g.are_references h.are_references)
    ∙ ap (λ (u : List (List ℕ)). each_once (h.references ++ u ++ g.message_id)) (one_ids (last_named (codes "in-reply-to") fs) g.in_reply_to h.in_reply_to g.are_in_reply_to h.are_in_reply_to)
    ∙ ap (λ (u : List (List ℕ)). each_once (h.references ++ h.in_reply_to ++ u)) (one_ids (last_named (codes "message-id") fs) g.message_id h.message_id g.are_message_id h.are_message_id)
    ∙ sym h.all

one_base : (text x y : List ℕ) → IsBaseOf text x → IsBaseOf text y → x ≡ y
one_base text x y g h = one_normal (spaced text) x y g.reached g.normal h.reached h.normal

-- envelopes with equal fields are equal
pub envelope_same : (a b c d e f : Option (List ℕ)) (p q r s : AddressField) (k l : List ℕ) (m n : Option ℤ) (i j : List (List ℕ))
    → a ≡ b → c ≡ d → e ≡ f → p ≡ q → r ≡ s → k ≡ l → m ≡ n → i ≡ j
    → ◌≡◌ {A = Envelope} (record { subject = a; cc = c; bcc = e; from = p; to = r; base = k; sent_at = m; ids = i })
    (record { subject = b; cc = d; bcc = f; from = q; to = s; base = l; sent_at = n; ids = j })
envelope_same a b c d e f p q r s k l m n i j g0 g1 g2 g3 g4 g5 g6 g7 = cc

one_said : (fs : List NameAndRaw) (e f : Envelope) → SaysEnvelope fs e → SaysEnvelope fs f → e ≡ f
one_said fs e f g h =
    let subject = one_text (last_named (codes "subject") fs) e.subject f.subject g.subject h.subject in
    let P : Option (List ℕ) → Type 0 = λ u. IsBaseOf (unwrap_or u []) e.base in
    envelope_same _ _ _ _ _ _ _ _ _ _ _ _ _ _ _ _ subject
    (one_search_text (last_named (codes "cc") fs) e.cc f.cc g.cc h.cc)
    (one_search_text (last_named (codes "bcc") fs) e.bcc f.bcc g.bcc h.bcc)
    (one_address_field (last_named (codes "from") fs) e.from f.from g.from h.from)
    (one_address_field (last_named (codes "to") fs) e.to f.to g.to h.to)
    (one_base (unwrap_or f.subject []) e.base f.base (subst P subject g.base) h.base)
    (one_time (last_named (codes "date") fs) e.sent_at f.sent_at g.sent_at h.sent_at)
    (all_ids fs e.ids f.ids g.ids h.ids)

-- a header has one envelope
pub one_envelope : (header : List ℕ) (e f : Envelope) → IsEnvelopeOf header e → IsEnvelopeOf header f → e ≡ f
one_envelope header e f g h =
    let P : List NameAndRaw → Type 0 = λ fs. SaysEnvelope fs e in
    one_said h.fields e f (subst P (one_header g.fields h.fields g.end h.end header g.is_header h.is_header).0 g.says) h.says

all_one : (ps : List Placed) (es fs : List Envelope) → AreEnvelopes ps es → AreEnvelopes ps fs → es ≡ fs
all_one [] [] [] g h = refl
all_one [] [] (f ∷ fs) g h = absurd h
all_one [] (e ∷ es) fs g h = absurd g
all_one (p ∷ ps) [] fs g h = absurd g
all_one (p ∷ ps) (e ∷ es) [] g h = absurd h
all_one (p ∷ ps) (e ∷ es) (f ∷ fs) g h =
    ap (λ (u : Envelope). u ∷ es) (one_envelope p.message.header e f g.0 h.0) ∙ ap (λ (u : List Envelope). f ∷ u) (all_one ps es fs g.1 h.1)

-- the rows of some mail come of those before in one way
pub one_take : (n : NumberedRows) (hs : List NumberedFolder) (a b : NumberedRows) → TakesMail n hs a → TakesMail n hs b → a ≡ b
one_take n hs a b g h = g.after_is ∙ ap (taken n hs) (all_one (arrivals n hs) g.envelopes h.envelopes g.are_read h.are_read) ∙ sym h.after_is
