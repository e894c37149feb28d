-- Conditions of a header's fields, by the fields that the code reads.
use Rattle.std.proofs.Common.{◌≡◌, ◌≢◌, ◌↔◌, ◌⊎◌, inl, inr, ℕ, List, [], ◌∷◌, Bool, true, false}
use Rattle.std.proofs.Common.{IsTrue, Option, Some, None, MatchOption, is_some, slice_get, Contains, Bor, refl, sym, ap, subst, ◌∙◌}
use Rattle.text_words.specs.Cuts.{back}
use Rattle.text_words.specs.Octets.{is_blank, is_same_text}
use Rattle.header_words.proofs.WordLemmas.{one_text}
use Rattle.mail_header.specs.Fields.{NameAndRaw, IsHeader, IsLastField, last_named, later_or}
use Rattle.mail_header.specs.Lines.{unfolded}
use Rattle.mail_header.specs.RawForms.{IsTextForm, raw_form}
use Rattle.mail_header.proofs.FieldLemmas.{one_header}
use Rattle.query_conditions.specs.Words.{HasWords}
use Rattle.query_lists.proofs.MemberLemmas.{IsMember, has_from}
use Rattle.query_core.specs.Headers.{FieldHasWords, FieldsHaveWords, FieldsMatch, HeaderMatches, InField, NoField}

-- a field of the name has a last one
named_last : (name : List ℕ) (fields : List NameAndRaw) (f : NameAndRaw) → IsMember f fields → is_same_text f.0 name ≡ true → last_named name fields ≡ None → ⊥
named_last name [] f h same none = h
named_last name (g ∷ gs) f h same none = by (last_named name gs) refl none h (λ m is. named_last name gs f m same is)
  where
    by : (later : Option (List ℕ)) → last_named name gs ≡ later → later_or later (is_same_text g.0 name) g.1 ≡ None → (g ≡ f) ⊎ IsMember f gs → (IsMember f gs
        → last_named name gs ≡ None → ⊥) → ⊥
    by (Some r) is gone m more = let e : Some r ≡ None = gone in cc
    by None is gone (inr m) more = more m is
    by None is gone (inl here) more =
        let its : is_same_text g.0 name ≡ true = ap (λ (x : NameAndRaw). is_same_text x.0 name) here ∙ same in
        let e : Some g.1 ≡ None = sym (ap (λ (b : Bool). later_or None b g.1) its) ∙ gone in cc

-- the fields of a header, and whether one is of the name
record Read (header name : List ℕ) (there : Bool) : Type 0 where
  pub fields : List NameAndRaw
  pub end : ℕ
  pub is_header : IsHeader fields end header
  pub named : there ≡ true ↔ (last_named name fields ≢ None)

read_of : (header name : List ℕ) (o : Option (Bor (List ℕ))) → MatchOption o (IsLastField name header None) (λ r. IsLastField name header (Some r.now))
    → Read header name (is_some o)
read_of header name None last = record {
  fields = last.fields;
  end = last.end;
  is_header = last.is;
  named = (λ t. absurd (let e : false ≡ true = t in cc), λ some. absurd (some (sym last.raw_is)));
}
read_of header name (Some r) last = record {
  fields = last.fields;
  end = last.end;
  is_header = last.is;
  named = (λ t none. let e : Some r.now ≡ None = last.raw_is ∙ none in cc, λ some. refl);
}

module _ (header name : List ℕ) (fields : List NameAndRaw) (end : ℕ) (read : IsHeader fields end header) where
  -- what holds of the fields that are read holds of those of the header
  by_fields : (words : Option (List (List ℕ))) (b : Bool) → IsTrue b ↔ FieldsMatch name words fields → IsTrue b ↔ HeaderMatches header name words
  by_fields words b same = (
    λ t. record { fields = fields; end = end; is_header = read; matches = same.0 t },
    λ h. same.1 (subst (FieldsMatch name words) (one_header h.fields fields h.end end header h.is_header read).0 h.matches),
  )

  some_there : (there : Bool) → Read header name there → there ≡ true → last_named name fields ≡ None → ⊥
  some_there there r sure none = r.named.0 sure (ap (last_named name) (one_header r.fields fields r.end end header r.is_header read).0 ∙ none)

  -- words, where a field has the name
  pub words_there : (words : List (List ℕ)) (o : Option (Bor (List ℕ))) (there b : Bool) → MatchOption o (IsLastField name header None) (λ r. IsLastField name header (Some r.now))
      → there ≡ is_some o → there ≡ true → IsTrue b ↔ ((f : NameAndRaw) × Contains fields f × FieldHasWords name words f) → IsTrue b ↔ HeaderMatches header name (Some words)
  words_there words o there b last is sure same = by_fields (Some words) b (λ t. let f = same.0 t in InField f.0 f.1 f.2, λ m. same.1 (of m))
    where
      of : FieldsHaveWords name words fields → (f : NameAndRaw) × Contains fields f × FieldHasWords name words f
      of (InField f within has) = (f, within, has)
      of (NoField none empty) = absurd (some_there (is_some o) (read_of header name o last) (sym is ∙ sure) none)

module _ (header name : List ℕ) (o : Option (Bor (List ℕ))) (there b : Bool) (last : MatchOption o (IsLastField name header None) (λ r. IsLastField name header (Some r.now)))
    (is : there ≡ is_some o) where
  -- a name alone
  pub name_asked : b ≡ there → IsTrue b ↔ HeaderMatches header name None
  name_asked same =
      let r : Read header name (is_some o) = read_of header name o last in
      by_fields header name r.fields r.end r.is_header None b (λ t. r.named.0 (sym is ∙ sym same ∙ t), λ some. same ∙ is ∙ r.named.1 some)

  -- words, where none has the name: the text is empty then
  pub words_missing : (words : List (List ℕ)) → there ≡ false → IsTrue b ↔ HasWords words [] → IsTrue b ↔ HeaderMatches header name (Some words)
  words_missing words non same =
      let r : Read header name (is_some o) = read_of header name o last in
      by_fields header name r.fields r.end r.is_header (Some words) b (λ t. NoField (none r (last_named name r.fields) refl) (same.0 t), λ m. same.1 (of r m))
    where
      none : (r : Read header name (is_some o)) (found : Option (List ℕ)) → last_named name r.fields ≡ found → last_named name r.fields ≡ None
      none r None e = e
      none r (Some raw) e =
          absurd (let t : is_some o ≡ true = r.named.1 (λ gone. let f : Some raw ≡ None = sym e ∙ gone in cc) in let f : false ≡ true = sym non ∙ is ∙ t in cc)

      of : (r : Read header name (is_some o)) → FieldsHaveWords name words r.fields → HasWords words []
      of r (NoField gone empty) = empty
      of r (InField f within has) = absurd (named_last name r.fields f (has_from r.fields f within) has.named (none r (last_named name r.fields) refl))

-- one value, of two that are the same
some_same : {A : Type 0} (x y : A) → Some x ≡ Some y → x ≡ y
some_same x y same = cc

-- a field that is of the name has the words just where its one text has it
has_in_text : (name : List ℕ) (words : List (List ℕ)) (text : List ℕ) (f : NameAndRaw) (has : Bool) → is_same_text f.0 name ≡ true → IsTextForm text f.1 → IsTrue has ↔ HasWords words text
    → IsTrue has ↔ FieldHasWords name words f
has_in_text name words text f has named is same = (
  (λ t. record { named = named; text = text; is_text = is; has_words = same.0 t }),
  (λ w. same.1 (subst (λ (t : List ℕ). HasWords words t) (one_text false (back is_blank (unfolded (raw_form f.1))) w.text text w.is_text is) w.has_words)),
)

-- the same of what stands at a place: its name, its raw value and its text
pub has_at : (fields : List NameAndRaw) (at : ℕ) (name : List ℕ) (words : List (List ℕ)) (its raw text : List ℕ) (g h f : NameAndRaw) (has : Bool) → slice_get fields at ≡ Some g → its ≡ g.0
    → slice_get fields at ≡ Some h → raw ≡ h.1 → is_same_text its name ≡ true → IsTextForm text raw → IsTrue has ↔ HasWords words text → slice_get fields at ≡ Some f
    → IsTrue has ↔ FieldHasWords name words f
has_at fields at name words its raw text g h f has first its_is second raw_is named is same there =
    let one : its ≡ f.0 = its_is ∙ ap (λ (x : NameAndRaw). x.0) (some_same g f (sym first ∙ there)) in
    let two : raw ≡ f.1 = raw_is ∙ ap (λ (x : NameAndRaw). x.1) (some_same h f (sym second ∙ there)) in
    has_in_text name words text f has (ap (λ (n : List ℕ). is_same_text n name) (sym one) ∙ named) (subst (λ (r : List ℕ). IsTextForm text r) two is) same
