-- The properties that fields give: one after another, without fractions, each once.
use Rattle.std.proofs.Common.{◌≡◌, ◌∙◌, ℕ, ◌+◌, ◌<◌, Bool, true, false, cond, ◌||◌, refl, sym, ap, subst, List, [], ◌∷◌, ◌++◌, length, take, get_or, map, Option, Some, None}
use Rattle.std.proofs.Common.{append-nil, arith, Bor, suc, ◌-◌}
use Rattle.std.specs.Prelude.{MatchOption, slice_get, option_to_list, unwrap_or}
use Rattle.std.specs.Bool.{MatchBool}
use Rattle.std.specs.List.{AllZip, cons_option}
use Rattle.std.specs.Option.{option_and_then}
use Rattle.std.proofs.lemmas.List.{take_more, map-append, map_more}
use Rattle.std.proofs.lemmas.List.Elements.{filter_map-append}
use Rattle.std.proofs.lemmas.Option.{slice_get-get_or}
use Rattle.serde_json.specs.Data.{Data, null, array}
use Rattle.serde_json.specs.View.{items_of}
use Rattle.serde_json.specs.Written.{has_float, items_have_float}
use Rattle.text_words.specs.Octets.{is_same_text}
use Rattle.mail_header.specs.Fields.{NameAndRaw, last_named, later_or}
use Rattle.email_properties.specs.HeaderAsked.{HeaderAsked}
use Rattle.email_properties.specs.declared.header_form.HeaderForm.{HeaderForm}
use Rattle.field_values.specs.Forms.{IsFormData}
use Rattle.field_values.specs.HeaderProperties.{IsLastData, raw_named, raws_named, IsListData, IsHeaderPropertyData, header_data, headers_data}
use Rattle.field_values.specs.reading.Gathering.{raw_at, last_raw}
use Rattle.json_texts.proofs.WholeLemmas.{items_whole}
use Rattle.field_values.proofs.FormLemmas.{form_whole, one_form_data as one_form}

-- ---- a field at a place

-- its name and its raw value
pub field_is : (s : Option NameAndRaw) (n r : List ℕ) → ((f : NameAndRaw) × (s ≡ Some f) × (n ≡ f.0)) → ((f : NameAndRaw) × (s ≡ Some f) × (r ≡ f.1)) → s ≡ Some (n, r)
field_is s n r p q =
    let both : Some p.0 ≡ Some q.0 = sym p.1 ∙ q.1 in
    let same : p.0 ≡ q.0 = cc in
    let name : p.0.0 ≡ n = sym p.2 in
    let raw : p.0.1 ≡ r = ap (λ (f : NameAndRaw). f.1) same ∙ sym q.2 in
    let pair : Some p.0 ≡ Some (n, r) = λ i. Some (name i, raw i) in
    p.1 ∙ pair

-- ---- raw values

-- the raw value of a field at a place
raw_here : (name : List ℕ) (fs : List NameAndRaw) (at : ℕ) (o : Option NameAndRaw) → slice_get fs at ≡ o
    → option_to_list (raw_at name fs at) ≡ option_to_list (option_and_then (raw_named name) o)
raw_here name fs at o e = ap (λ (o : Option NameAndRaw). option_to_list (option_and_then (raw_named name) o)) e

-- where there is no field there is no raw value
pub no_raw : (name : List ℕ) (fs : List NameAndRaw) (at : ℕ) (raws : List (List ℕ)) → slice_get fs at ≡ None → raws ≡ raws ++ option_to_list (raw_at name fs at)
no_raw name fs at raws e = sym (ap (λ (l : List (List ℕ)). raws ++ l) (raw_here name fs at None e) ∙ append-nil raws)

-- nor where the field has another name
pub no_raw_of_other : (name : List ℕ) (fs : List NameAndRaw) (at : ℕ) (f : NameAndRaw) (raws : List (List ℕ)) → slice_get fs at ≡ Some f → is_same_text f.0 name ≡ false
    → raws ≡ raws ++ option_to_list (raw_at name fs at)
no_raw_of_other name fs at f raws e other =
    let none : option_to_list (raw_named name f) ≡ [] = ap (λ (b : Bool). option_to_list (cond b (Some f.1) None)) other in
    sym (ap (λ (l : List (List ℕ)). raws ++ l) (raw_here name fs at (Some f) e ∙ none) ∙ append-nil raws)

-- a field of the name has its own
pub raw_of_named : (name : List ℕ) (fs : List NameAndRaw) (at : ℕ) (f : NameAndRaw) (raws : List (List ℕ)) → slice_get fs at ≡ Some f → is_same_text f.0 name ≡ true
    → raws ++ f.1 ∷ [] ≡ raws ++ option_to_list (raw_at name fs at)
raw_of_named name fs at f raws e same =
    let one : option_to_list (raw_named name f) ≡ f.1 ∷ [] = ap (λ (b : Bool). option_to_list (cond b (Some f.1) None)) same in
    sym (ap (λ (l : List (List ℕ)). raws ++ l) (raw_here name fs at (Some f) e ∙ one))

-- the raw values of a name up to a place, and of the field there
pub raws_more : (name : List ℕ) (fs : List NameAndRaw) (at : ℕ) → at < length fs
    → raws_named name (take (at + 1) fs) ≡ raws_named name (take at fs) ++ option_to_list (raw_at name fs at)
raws_more name fs at lt =
    let f : NameAndRaw = get_or fs at ([], []) in
    ap (raws_named name) (take_more fs at ([], []) lt) ∙ filter_map-append (raw_named name) (take at fs) (f ∷ [])
    ∙ ap (λ (l : List (List ℕ)). raws_named name (take at fs) ++ l) (listed (raw_named name f) ∙ sym (raw_here name fs at (Some f) (slice_get-get_or fs at ([], []) lt)))
  where
    listed : (o : Option (List ℕ)) → cons_option o [] ≡ option_to_list o
    listed None = refl
    listed (Some r) = refl

-- the last field of a name has the last of these
pub last_is : (name : List ℕ) (fs : List NameAndRaw) → last_named name fs ≡ last_raw (raws_named name fs)
last_is name [] = refl
last_is name (f ∷ fs) = ap (λ (o : Option (List ℕ)). later_or o (is_same_text f.0 name) f.1) (last_is name fs) ∙ by (is_same_text f.0 name) (raws_named name fs)
  where
    by : (same : Bool) (rs : List (List ℕ)) → later_or (last_raw rs) same f.1 ≡ last_raw (cons_option (cond same (Some f.1) None) rs)
    by true [] = refl
    by true (r ∷ rs) = refl
    by false [] = refl
    by false (r ∷ rs) = refl

-- of raw values that are lent the last stands at the end of their list
pub last_lent : (raws : List (Bor (List ℕ)))
    → MatchOption (slice_get raws (length raws - 1)) (last_raw (map (λ (r : Bor (List ℕ)). r.now) raws) ≡ None) (λ r. last_raw (map (λ (r : Bor (List ℕ)). r.now) raws) ≡ Some r.now)
last_lent [] = refl
last_lent (x ∷ xs) =
    let at_end = end_of x xs in
    let last = last_raw (map (λ (r : Bor (List ℕ)). r.now) (x ∷ xs)) in
    subst (λ (o : Option (Bor (List ℕ))). MatchOption o (last ≡ None) (λ r. last ≡ Some r.now)) (sym at_end.1) at_end.2
  where
    end_of : (x : Bor (List ℕ)) (xs : List (Bor (List ℕ)))
        → (y : Bor (List ℕ)) × (slice_get (x ∷ xs) (length (x ∷ xs) - 1) ≡ Some y) × (last_raw (map (λ (r : Bor (List ℕ)). r.now) (x ∷ xs)) ≡ Some y.now)
    end_of x [] = (x, refl, refl)
    end_of x (z ∷ zs) =
        let later = end_of z zs in
        let next : length (x ∷ z ∷ zs) - 1 ≡ suc (length (z ∷ zs) - 1) = omega arith in
        (later.0, ap (λ (n : ℕ). slice_get (x ∷ z ∷ zs) n) next ∙ later.1, ap (λ (o : Option (List ℕ)). Some (unwrap_or o x.now)) later.2)

-- ---- a list gains one more

zip_push : {A B : Type 0} (R : A → B → Type 0) (xs : List A) (ys : List B) (x : A) (y : B) → AllZip R xs ys → R x y → AllZip R (xs ++ x ∷ []) (ys ++ y ∷ [])
zip_push R [] [] x y h r = (r, tt)
zip_push R [] (z ∷ ys) x y h r = absurd h
zip_push R (z ∷ xs) [] x y h r = absurd h
zip_push R (z ∷ xs) (w ∷ ys) x y h r = (h.0, zip_push R xs ys x y h.1 r)

-- the data of raw values up to a place, and of the one there
pub values_more : (form : HeaderForm) (raws : List (Bor (List ℕ))) (at : ℕ) (x : Bor (List ℕ)) (before after : List Data) (d : Data) → at < length raws
    → AllZip (IsFormData form) (map (λ (r : Bor (List ℕ)). r.now) (take at raws)) before → IsFormData form (get_or raws at x).now d → after ≡ before ++ d ∷ []
    → AllZip (IsFormData form) (map (λ (r : Bor (List ℕ)). r.now) (take (at + 1) raws)) after
values_more form raws at x before after d lt h is e =
    let now : Bor (List ℕ) → List ℕ = λ r. r.now in
    subst (λ (u : List (List ℕ)). AllZip (IsFormData form) u after) (sym (map_more now raws at x lt))
    (subst (AllZip (IsFormData form) (map now (take at raws) ++ (get_or raws at x).now ∷ [])) (sym e)
    (zip_push (IsFormData form) (map now (take at raws)) before (get_or raws at x).now d h is))

-- no field adds no EmailHeader, and a field its own
pub no_header : (fs : List NameAndRaw) (at : ℕ) (ds : List Data) → slice_get fs at ≡ None → ds ≡ ds ++ map header_data (option_to_list (slice_get fs at))
no_header fs at ds e = sym (ap (λ (o : Option NameAndRaw). ds ++ map header_data (option_to_list o)) e ∙ append-nil ds)

pub header_here : (fs : List NameAndRaw) (at : ℕ) (f : NameAndRaw) (before after : List Data) (d : Data) → slice_get fs at ≡ Some f → d ≡ header_data f → after ≡ before ++ d ∷ []
    → after ≡ before ++ map header_data (option_to_list (slice_get fs at))
header_here fs at f before after d e h is =
    is ∙ ap (λ (x : Data). before ++ x ∷ []) h ∙ sym (ap (λ (o : Option NameAndRaw). before ++ map header_data (option_to_list o)) e)

-- the EmailHeaders of the fields up to a place, and of the one there
pub headers_more : (fs : List NameAndRaw) (at : ℕ) (before after : List Data) → at < length fs → before ≡ map header_data (take at fs)
    → after ≡ before ++ map header_data (option_to_list (slice_get fs at)) → after ≡ map header_data (take (at + 1) fs)
headers_more fs at before after lt e g =
    let more : take (at + 1) fs ≡ take at fs ++ option_to_list (slice_get fs at) =
    take_more fs at ([], []) lt ∙ ap (λ (o : Option NameAndRaw). take at fs ++ option_to_list o) (sym (slice_get-get_or fs at ([], []) lt)) in
    g ∙ ap (λ (u : List Data). u ++ map header_data (option_to_list (slice_get fs at))) e
    ∙ sym (ap (map header_data) more ∙ map-append header_data (take at fs) (option_to_list (slice_get fs at)))

-- ---- what is asked

-- all fields of the name
pub asks_list : (asked : HeaderAsked) (fs : List NameAndRaw) (d : Data) (name : List ℕ) (form : HeaderForm) → asked.all ≡ true → name ≡ asked.name → form ≡ asked.form
    → IsListData form name fs d → IsHeaderPropertyData asked fs d
asks_list asked fs d name form all n f h =
    subst (λ (b : Bool). MatchBool b (IsListData asked.form asked.name fs d) (IsLastData asked.form asked.name fs d)) (sym all)
    (subst (λ (u : HeaderForm). IsListData u asked.name fs d) f (subst (λ (u : List ℕ). IsListData form u fs d) n h))

-- the last field of the name
pub asks_last : (asked : HeaderAsked) (fs : List NameAndRaw) (d : Data) (name : List ℕ) (form : HeaderForm) → asked.all ≡ false → name ≡ asked.name → form ≡ asked.form
    → IsLastData form name fs d → IsHeaderPropertyData asked fs d
asks_last asked fs d name form all n f h =
    subst (λ (b : Bool). MatchBool b (IsListData asked.form asked.name fs d) (IsLastData asked.form asked.name fs d)) (sym all)
    (subst (λ (u : HeaderForm). IsLastData u asked.name fs d) f (subst (λ (u : List ℕ). IsLastData form u fs d) n h))

-- ---- no number has a fraction

pub last_whole : (form : HeaderForm) (name : List ℕ) (fs : List NameAndRaw) (d : Data) → IsLastData form name fs d → has_float d ≡ false
last_whole form name fs d h = by (last_named name fs) h
  where
    by : (o : Option (List ℕ)) → MatchOption o (d ≡ null) (λ raw. IsFormData form raw d) → has_float d ≡ false
    by None e = ap has_float e
    by (Some raw) is = form_whole form raw d is

values_whole : (form : HeaderForm) (rs : List (List ℕ)) (ds : List Data) → AllZip (IsFormData form) rs ds → items_have_float (items_of ds) ≡ false
values_whole form [] [] h = refl
values_whole form [] (d ∷ ds) h = absurd h
values_whole form (r ∷ rs) [] h = absurd h
values_whole form (r ∷ rs) (d ∷ ds) h = ap (λ (b : Bool). b || items_have_float (items_of ds)) (form_whole form r d h.0) ∙ values_whole form rs ds h.1

-- no data of a header property has a fraction
pub property_whole : (asked : HeaderAsked) (fs : List NameAndRaw) (d : Data) → IsHeaderPropertyData asked fs d → has_float d ≡ false
property_whole asked fs d h = by asked.all h
  where
    by : (all : Bool) → MatchBool all (IsListData asked.form asked.name fs d) (IsLastData asked.form asked.name fs d) → has_float d ≡ false
    by true l = ap has_float l.2 ∙ values_whole asked.form (raws_named asked.name fs) l.0 l.1
    by false l = last_whole asked.form asked.name fs d l

-- nor have headers
pub headers_whole : (fs : List NameAndRaw) → has_float (headers_data fs) ≡ false
headers_whole fs = items_whole header_data fs (λ f. refl)

-- ---- fields give each property once

pub one_last : (form : HeaderForm) (name : List ℕ) (fs : List NameAndRaw) (d e : Data) → IsLastData form name fs d → IsLastData form name fs e → d ≡ e
one_last form name fs d e g h = by (last_named name fs) g h
  where
    by : (o : Option (List ℕ)) → MatchOption o (d ≡ null) (λ raw. IsFormData form raw d) → MatchOption o (e ≡ null) (λ raw. IsFormData form raw e) → d ≡ e
    by None p q = p ∙ sym q
    by (Some raw) p q = one_form form raw d e p q

one_values : (form : HeaderForm) (rs : List (List ℕ)) (ds es : List Data) → AllZip (IsFormData form) rs ds → AllZip (IsFormData form) rs es → ds ≡ es
one_values form [] [] [] g h = refl
one_values form [] [] (e ∷ es) g h = absurd h
one_values form [] (d ∷ ds) es g h = absurd g
one_values form (r ∷ rs) [] es g h = absurd g
one_values form (r ∷ rs) (d ∷ ds) [] g h = absurd h
one_values form (r ∷ rs) (d ∷ ds) (e ∷ es) g h =
    let one = one_form form r d e g.0 h.0 in
    let rest = one_values form rs ds es g.1 h.1 in
    λ i. one i ∷ rest i

-- fields have at most one data of a header property
pub one_property : (asked : HeaderAsked) (fs : List NameAndRaw) (d e : Data) → IsHeaderPropertyData asked fs d → IsHeaderPropertyData asked fs e → d ≡ e
one_property asked fs d e g h = by asked.all g h
  where
    by : (all : Bool) → MatchBool all (IsListData asked.form asked.name fs d) (IsLastData asked.form asked.name fs d)
        → MatchBool all (IsListData asked.form asked.name fs e) (IsLastData asked.form asked.name fs e) → d ≡ e
    by true p q = p.2 ∙ ap (λ (ds : List Data). array (items_of ds)) (one_values asked.form (raws_named asked.name fs) p.0 q.0 p.1 q.1) ∙ sym q.2
    by false p q = one_last asked.form asked.name fs d e p q
