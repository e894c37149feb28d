-- Email/get and Email/parse have one answer for one list of answers about bodies.
use Rattle.std.proofs.Common.{◌≡◌, ◌∙◌, ℕ, true, false, List, [], ◌∷◌, ◌++◌, map, Option, Some, None, Result, Ok, Err, refl, sym, ap, subst}
use Rattle.std.specs.Map.{keys_of}
use Rattle.serde_json.specs.Data.{Data, string}
use Rattle.body_parts.specs.Messages.{MessageData}
use Rattle.email_bodies.specs.Asking.{BodyAsk}
use Rattle.email_objects.specs.EmailObjects.{IsEmailObject, IsParsedObject}
use Rattle.email_objects.proofs.OneObject.{one_email_object, one_parsed_object}
use Rattle.email_properties.specs.Wanted.{EmailAsked, needs_body}
use Rattle.jmap_arguments.specs.Gets.{get_data, distinct_ids}
use Rattle.jmap_arguments.specs.declared.method_error.MethodError.{MethodError}
use Rattle.mail_maps.specs.Rows.{Rows}
use Rattle.mail_maps.specs.declared.row.EmailRow.{EmailRow}
use Rattle.message_blobs.specs.BlobIds.{BlobRoot, IsBlobId}
use Rattle.message_blobs.proofs.IdLemmas.{one_leaves_of}
use Rattle.email_get.specs.Asked.{ask_for, error_by}
use Rattle.email_get.specs.Blobs.{OctetsFound, FindsBlob, OfBlobId}
use Rattle.email_get.specs.EmailGet.{EmailsAsked, emails_asked, AsksBody, NotNeeded, Comes, Lacks, ShowsRow, AsObject, ShowsEmail, AnswersEmailGet}
use Rattle.email_get.specs.EmailGet as get
use Rattle.email_get.specs.EmailParse.{ParseAsked, parse_asked, ShownBlob, ShowsBlob, message_id, parse_answer, AnswersEmailParse}
use Rattle.email_get.specs.EmailParse as parse
use Rattle.email_get.specs.Showing.{ShowsAll}
use Rattle.email_get.proofs.OneBlob.{came_or_not, same_body, one_blob_found}
use Rattle.email_get.proofs.ShowingLemmas.{IsOne, one_showing}

-- ---- Email/get

module _ (wanted : EmailAsked) (row : EmailRow) where
  needed_or_not : needs_body wanted ≡ false → needs_body wanted ≡ true → ⊥
  needed_or_not not_so needed = let never : false ≡ true = sym not_so ∙ needed in cc

  one_body : (asks more also later : List BodyAsk) (r s : Result (Option (List ℕ)) MethodError) → AsksBody wanted row asks r → AsksBody wanted row also s
      → asks ++ more ≡ also ++ later → (asks ≡ also) × (r ≡ s)
  one_body _ more _ later _ _ (NotNeeded not_so) (NotNeeded not_too) same = (refl, refl)
  one_body _ more _ later _ _ (NotNeeded not_so) (Comes octets needed) same = absurd (needed_or_not not_so needed)
  one_body _ more _ later _ _ (NotNeeded not_so) (Lacks needed) same = absurd (needed_or_not not_so needed)
  one_body _ more _ later _ _ (Comes octets needed) (NotNeeded not_so) same = absurd (needed_or_not not_so needed)
  one_body _ more _ later _ _ (Comes octets needed) (Comes others needed_too) same =
      let octets_are = same_body row row octets others more later same in
      (ap (λ (o : List ℕ). ask_for row (Some o) ∷ []) octets_are, ap (λ (o : List ℕ). let r : Result (Option (List ℕ)) MethodError = Ok (Some o) in r) octets_are)
  one_body _ more _ later _ _ (Comes octets needed) (Lacks needed_too) same = absurd (came_or_not row row octets more later same)
  one_body _ more _ later _ _ (Lacks needed) (NotNeeded not_so) same = absurd (needed_or_not not_so needed)
  one_body _ more _ later _ _ (Lacks needed) (Comes octets needed_too) same = absurd (came_or_not row row octets later more (sym same))
  one_body _ more _ later _ _ (Lacks needed) (Lacks needed_too) same = (refl, refl)

  one_row_shown : (asks more also later : List BodyAsk) (r s : Result Data MethodError) → ShowsRow wanted row asks r → ShowsRow wanted row also s
      → asks ++ more ≡ also ++ later → (asks ≡ also) × (r ≡ s)
  one_row_shown asks more also later _ _ (AsObject body object asked is) (AsObject other object_too asked_too is_too) same =
      let bodies = one_body asks more also later (Ok body) (Ok other) asked asked_too same in
      let bodies_are : Ok body ≡ Ok other = bodies.1 in
      let body_is : body ≡ other = cc in
      let P : Option (List ℕ) → Type 0 = λ b. IsEmailObject row b wanted object in
      (bodies.0, ap (λ (d : Data). let r : Result Data MethodError = Ok d in r) (one_email_object row other wanted object object_too (subst P body_is is) is_too))
  one_row_shown asks more also later _ _ (AsObject body object asked is) (get.NoBody e asked_too) same =
      let bodies = one_body asks more also later (Ok body) (Err e) asked asked_too same in
      absurd (let never : Ok body ≡ Err e = bodies.1 in cc)
  one_row_shown asks more also later _ _ (get.NoBody e asked) (AsObject body object asked_too is) same =
      let bodies = one_body asks more also later (Err e) (Ok body) asked asked_too same in
      absurd (let never : Err e ≡ Ok body = bodies.1 in cc)
  one_row_shown asks more also later _ _ (get.NoBody e asked) (get.NoBody f asked_too) same =
      let bodies = one_body asks more also later (Err e) (Err f) asked asked_too same in
      let errors_are : Err e ≡ Err f = bodies.1 in
      let error_is : e ≡ f = cc in
      (bodies.0, ap (λ (g : MethodError). let r : Result Data MethodError = Err g in r) error_is)

one_email_shown : (emails : Rows) (wanted : EmailAsked) (n : ℕ) → IsOne (ShowsEmail emails wanted) n
one_email_shown emails wanted n asks more also later r s f g same =
    let rows_are : Some f.row ≡ Some g.row = sym f.there ∙ g.there in
    let row_is : f.row ≡ g.row = cc in
    let P : EmailRow → Type 0 = λ row. ShowsRow wanted row asks r in
    one_row_shown wanted g.row asks more also later r s (subst P row_is f.shows) g.shows same

-- an answer of what is asked
abbrev get_reply : List ℕ → EmailsAsked → Result (List Data) MethodError → Result Data MethodError
get_reply state a (Ok list) = Ok (get_data state list (map string a.asked.missing))
get_reply state a (Err e) = Err e

abbrev GetsAsked : List ℕ → Rows → Result EmailsAsked MethodError → List BodyAsk → Result Data MethodError → Type 0
GetsAsked state emails (Err e) asks r = (asks ≡ []) × (r ≡ Err e)
GetsAsked state emails (Ok a) asks r = (list : Result (List Data) MethodError) × ShowsAll (ShowsEmail emails a.wanted) a.asked.numbers asks list × (r ≡ get_reply state a list)

gets_asked : (state : List ℕ) (emails : Rows) (d : Data) (asks : List BodyAsk) (r : Result Data MethodError) → AnswersEmailGet state emails d asks r
    → GetsAsked state emails (emails_asked (keys_of emails) d) asks r
gets_asked state emails d _ _ (get.Refused e is) =
    let P : Result EmailsAsked MethodError → Type 0 = λ a. GetsAsked state emails a [] (Err e) in subst P (sym is) (refl, refl)
gets_asked state emails d asks _ (get.Shown a list is shows) =
    let P : Result EmailsAsked MethodError → Type 0 = λ x. GetsAsked state emails x asks (Ok (get_data state list (map string a.asked.missing))) in
    subst P (sym is) (Ok list, shows, refl)
gets_asked state emails d asks _ (get.Fails a e is shows) =
    let P : Result EmailsAsked MethodError → Type 0 = λ x. GetsAsked state emails x asks (Err e) in subst P (sym is) (Err e, shows, refl)

one_get_of : (state : List ℕ) (emails : Rows) (asked : Result EmailsAsked MethodError) (asks more also later : List BodyAsk) (r s : Result Data MethodError)
    → GetsAsked state emails asked asks r → GetsAsked state emails asked also s → asks ++ more ≡ also ++ later → (asks ≡ also) × (r ≡ s)
one_get_of state emails (Err e) asks more also later r s f g same = (f.0 ∙ sym g.0, f.1 ∙ sym g.1)
one_get_of state emails (Ok a) asks more also later r s f g same =
    let lists = one_showing (ShowsEmail emails a.wanted) (one_email_shown emails a.wanted) a.asked.numbers asks more also later f.0 g.0 f.1 g.1 same in
    (lists.0, f.2 ∙ ap (get_reply state a) lists.1 ∙ sym g.2)

-- an Email/get has one
pub one_get_answer : (state : List ℕ) (emails : Rows) (d : Data) (asks more also later : List BodyAsk) (r s : Result Data MethodError)
    → AnswersEmailGet state emails d asks r → AnswersEmailGet state emails d also s → asks ++ more ≡ also ++ later → (asks ≡ also) × (r ≡ s)
one_get_answer state emails d asks more also later r s f g same =
    one_get_of state emails (emails_asked (keys_of emails) d) asks more also later r s (gets_asked state emails d asks r f) (gets_asked state emails d also s g) same

-- ---- Email/parse

module _ (emails : Rows) (uploads : List (List ℕ)) (wanted : EmailAsked) (id : List ℕ) where
  -- how a blob is shown by what is found of it
  abbrev ShowsFound : OctetsFound → Result ShownBlob MethodError → Type 0
  ShowsFound (Err e) r = r ≡ Err (error_by e)
  ShowsFound (Ok None) r = r ≡ Ok (record { id = id; found = None })
  ShowsFound (Ok (Some octets)) r = (root : BlobRoot) × (leaves : List ℕ) × (message : Data) × IsBlobId root leaves id
      × IsParsedObject (Some id) (record { octets = octets; id = message_id leaves id }) wanted message × (r ≡ Ok (record { id = id; found = Some message }))

  abbrev ShowsBy : List BodyAsk → Result ShownBlob MethodError → Type 0
  ShowsBy asks r = (found : OctetsFound) × FindsBlob emails uploads id asks found × ShowsFound found r

  shows_by : (asks : List BodyAsk) (r : Result ShownBlob MethodError) → ShowsBlob emails uploads wanted id asks r → ShowsBy asks r
  shows_by asks _ (parse.NotFound finds) = (Ok None, finds, refl)
  shows_by asks _ (parse.Parsed message b) =
      (Ok (Some b.octets), OfBlobId b.root b.leaves b.is_id b.finds, (b.root, b.leaves, message, b.is_id, b.is_object, refl))
  shows_by asks _ (parse.NoBody e finds) = (Err e, finds, refl)

  one_message : (octets : List ℕ) (r s : Result ShownBlob MethodError) → ShowsFound (Ok (Some octets)) r → ShowsFound (Ok (Some octets)) s → r ≡ s
  one_message octets r s f g =
      let P : List ℕ → Type 0 = λ leaves. IsParsedObject (Some id) (record { octets = octets; id = message_id leaves id }) wanted f.2 in
      let m : MessageData = record { octets = octets; id = message_id g.1 id } in
      let same = one_parsed_object (Some id) m wanted f.2 g.2 (subst P (one_leaves_of f.0 g.0 f.1 g.1 id f.3 g.3) f.4) g.4 in
      f.5 ∙ ap (λ (d : Data). let b : Result ShownBlob MethodError = Ok (record { id = id; found = Some d }) in b) same ∙ sym g.5

  one_shown : (found : OctetsFound) (r s : Result ShownBlob MethodError) → ShowsFound found r → ShowsFound found s → r ≡ s
  one_shown (Err e) r s f g = f ∙ sym g
  one_shown (Ok None) r s f g = f ∙ sym g
  one_shown (Ok (Some octets)) r s f g = one_message octets r s f g

one_blob_shown : (emails : Rows) (uploads : List (List ℕ)) (wanted : EmailAsked) (id : List ℕ) → IsOne (ShowsBlob emails uploads wanted) id
one_blob_shown emails uploads wanted id asks more also later r s f g same =
    let first = shows_by emails uploads wanted id asks r f in
    let other = shows_by emails uploads wanted id also s g in
    let founds = one_blob_found emails uploads id asks more also later first.0 other.0 first.1 other.1 same in
    let P : OctetsFound → Type 0 = λ o. ShowsFound emails uploads wanted id o r in
    (founds.0, one_shown emails uploads wanted id other.0 r s (subst P founds.1 first.2) other.2)

abbrev parse_reply : Result (List ShownBlob) MethodError → Result Data MethodError
parse_reply (Ok shown) = Ok (parse_answer shown)
parse_reply (Err e) = Err e

abbrev ParsesAsked : Rows → List (List ℕ) → Result ParseAsked MethodError → List BodyAsk → Result Data MethodError → Type 0
ParsesAsked emails uploads (Err e) asks r = (asks ≡ []) × (r ≡ Err e)
ParsesAsked emails uploads (Ok a) asks r =
    (shown : Result (List ShownBlob) MethodError) × ShowsAll (ShowsBlob emails uploads a.wanted) (distinct_ids a.ids) asks shown × (r ≡ parse_reply shown)

parses_asked : (emails : Rows) (uploads : List (List ℕ)) (d : Data) (asks : List BodyAsk) (r : Result Data MethodError) → AnswersEmailParse emails uploads d asks r
    → ParsesAsked emails uploads (parse_asked d) asks r
parses_asked emails uploads d _ _ (parse.Refused e is) =
    let P : Result ParseAsked MethodError → Type 0 = λ a. ParsesAsked emails uploads a [] (Err e) in subst P (sym is) (refl, refl)
parses_asked emails uploads d asks _ (parse.Shown a shown is shows) =
    let P : Result ParseAsked MethodError → Type 0 = λ x. ParsesAsked emails uploads x asks (Ok (parse_answer shown)) in subst P (sym is) (Ok shown, shows, refl)
parses_asked emails uploads d asks _ (parse.Fails a e is shows) =
    let P : Result ParseAsked MethodError → Type 0 = λ x. ParsesAsked emails uploads x asks (Err e) in subst P (sym is) (Err e, shows, refl)

one_parse_of : (emails : Rows) (uploads : List (List ℕ)) (asked : Result ParseAsked MethodError) (asks more also later : List BodyAsk) (r s : Result Data MethodError)
    → ParsesAsked emails uploads asked asks r → ParsesAsked emails uploads asked also s → asks ++ more ≡ also ++ later → (asks ≡ also) × (r ≡ s)
one_parse_of emails uploads (Err e) asks more also later r s f g same = (f.0 ∙ sym g.0, f.1 ∙ sym g.1)
one_parse_of emails uploads (Ok a) asks more also later r s f g same =
    let shown = one_showing (ShowsBlob emails uploads a.wanted) (one_blob_shown emails uploads a.wanted) (distinct_ids a.ids) asks more also later f.0 g.0 f.1 g.1 same in
    (shown.0, f.2 ∙ ap parse_reply shown.1 ∙ sym g.2)

-- an Email/parse has one
pub one_parse_answer : (emails : Rows) (uploads : List (List ℕ)) (d : Data) (asks more also later : List BodyAsk) (r s : Result Data MethodError)
    → AnswersEmailParse emails uploads d asks r → AnswersEmailParse emails uploads d also s → asks ++ more ≡ also ++ later → (asks ≡ also) × (r ≡ s)
one_parse_answer emails uploads d asks more also later r s f g same =
    one_parse_of emails uploads (parse_asked d) asks more also later r s (parses_asked emails uploads d asks r f) (parses_asked emails uploads d also s g) same
