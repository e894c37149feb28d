-- What blobs come to, as it is gathered, and that it has integers alone.
use Rattle.std.proofs.Common.{◌≡◌, ◌∙◌, ℕ, List, [], ◌∷◌, ◌++◌, append-nil, map, false, Option, Some, None, Result, Ok, Err, String, Global, length, option_map, refl}
use Rattle.std.proofs.Common.{sym, ap, subst}
use Rattle.std.specs.Option.{IfSome}
use Rattle.std.proofs.lemmas.Grind.{flat_map-append}
use Rattle.std.proofs.lemmas.List.{map-append}
use Rattle.serde_json.specs.Data.{Data, object, string, Members, no_members, member}
use Rattle.serde_json.specs.View.{view, items_of, members_view}
use Rattle.serde_json.specs.Written.{has_float, items_have_float, members_have_float}
use Rattle.serde_json.specs.declared.value.Value.{Value}
use Rattle.json_texts.proofs.WholeLemmas.{put_whole}
use Rattle.email_bodies.specs.Asking.{BodyAsk, AreDue}
use Rattle.email_bodies.specs.declared.error.BodyError.{BodyError}
use Rattle.email_objects.specs.EmailObjects.{IsParsedObject}
use Rattle.email_properties.specs.Wanted.{EmailAsked}
use Rattle.jmap_arguments.specs.declared.method_error.MethodError.{MethodError}
use Rattle.mail_maps.specs.Rows.{Rows}
use Rattle.message_blobs.specs.BlobIds.{BlobRoot, IsBlobId}
use Rattle.email_get.specs.Asked.{FailsAfter, error_by}
use Rattle.email_get.specs.Blobs.{FindsOctets, NoBlobId, OfBlobId, OctetsFound}
use Rattle.email_get.specs.EmailParse.{ShowsBlob, NotFound, Parsed, NoBody, message_id}
use Rattle.jmap_arguments.specs.Gets.{distinct_ids}
use Rattle.mail_state.specs.History.{MailHistory}
use Rattle.mail_state.specs.State.{ServedState, IsStateOf}
use Rattle.email_get.specs.EmailParse.{ParseAsked, parse_asked, parse_answer, AnswersEmailParse, Refused, Shown, Fails, RepliesEmailParse}
use Rattle.email_get.specs.EmailParse.{ShownBlob, put_found, parsed_members, missing_id, missing_ids, object_or_null, list_or_null, parse_data}
use Rattle.email_get.specs.reading.Gathered.{GatheredBlobs, GathersBlobs, GathersThese}
use Rattle.email_get.specs.Showing.{ShowsAll}
use Rattle.email_bodies.proofs.Due.{due_more}
use Rattle.email_get.proofs.Due.{blob_due, due_shown_blob, due_showing}
use Rattle.email_get.proofs.GetLemmas.{same_emails}

parsed-append : (done : List ShownBlob) (b : ShownBlob) (ms : Members) → parsed_members (done ++ b ∷ []) ms ≡ put_found b.id b.found (parsed_members done ms)
parsed-append [] b ms = refl
parsed-append (c ∷ cs) b ms = parsed-append cs b (put_found c.id c.found ms)

missing-append : (done : List ShownBlob) (b : ShownBlob) → map string (missing_ids (done ++ b ∷ [])) ≡ map string (missing_ids done) ++ map string (missing_id b.id b.found)
missing-append done b =
    ap (map string) (flat_map-append (λ (c : ShownBlob). missing_id c.id c.found) done (b ∷ []) ∙ ap (λ (l : List (List ℕ)). missing_ids done ++ l)
    (append-nil (missing_id b.id b.found)))
    ∙ map-append string (missing_ids done) (missing_id b.id b.found)

-- one blob more is gathered
pub gathers_on : (done : List ShownBlob) (g next : GatheredBlobs) (b : ShownBlob) → GathersBlobs done g → next.parsed ≡ put_found b.id b.found g.parsed
    → next.missing ≡ g.missing ++ map string (missing_id b.id b.found) → GathersBlobs (done ++ b ∷ []) next
gathers_on done g next b so_far parsed missing = record {
  parsed = parsed ∙ ap (put_found b.id b.found) so_far.parsed ∙ sym (parsed-append done b no_members);
  missing = missing ∙ ap (λ (l : List Data). l ++ map string (missing_id b.id b.found)) so_far.missing ∙ sym (missing-append done b);
}

-- what is gathered is that of the blobs
pub gathered_is : (shown : List ShownBlob) (g : GatheredBlobs) → GathersBlobs shown g → parse_data g.parsed g.missing ≡ parse_data (parsed_members shown no_members)
    (map string (missing_ids shown))
gathered_is shown g gathers =
    ap (λ (ms : Members). parse_data ms g.missing) gathers.parsed ∙ ap (parse_data (parsed_members shown no_members)) gathers.missing

-- ---- integers alone

-- a blob that is put has them alone
pub found_whole : (id : List ℕ) (o : Option Value) (ms : Members) → IfSome o (λ value. has_float (view value) ≡ false) → members_have_float ms ≡ false
    → members_have_float (put_found id (option_map view o) ms) ≡ false
found_whole id None ms one rest = rest
found_whole id (Some value) ms one rest = put_whole id (view value) ms one rest

texts_whole : (texts : List (List ℕ)) → items_have_float (items_of (map string texts)) ≡ false
texts_whole [] = refl
texts_whole (text ∷ texts) = texts_whole texts

-- ids have
pub missing_whole : (shown : List ShownBlob) (missing : List Data) → missing ≡ map string (missing_ids shown) → items_have_float (items_of missing) ≡ false
missing_whole shown missing is = ap (λ (l : List Data). items_have_float (items_of l)) is ∙ texts_whole (missing_ids shown)

object_whole : (ms : Members) → members_have_float ms ≡ false → has_float (object_or_null ms) ≡ false
object_whole no_members whole = refl
object_whole (member k d ms) whole = whole

list_whole : (ds : List Data) → items_have_float (items_of ds) ≡ false → has_float (list_or_null ds) ≡ false
list_whole [] whole = refl
list_whole (d ∷ ds) whole = whole

-- the answer has
pub answer_whole : (parsed : Members) (missing : List Data) → members_have_float parsed ≡ false → items_have_float (items_of missing) ≡ false
    → has_float (parse_data parsed missing) ≡ false
answer_whole parsed missing whole rest = rw (list_whole missing rest, object_whole parsed whole) refl

-- ---- one blob

module _ (emails : Rows) (uploads : List (List ℕ)) (wanted : EmailAsked) (id text : List ℕ) (same : text ≡ id) where
  -- the text is no blob id
  pub no_blob : ((root : BlobRoot) (leaves : List ℕ) → IsBlobId root leaves text → ⊥) → ShowsBlob emails uploads wanted id [] (Ok (record { id = id; found = None }))
  no_blob none =
      let P : List ℕ → Type 0 = λ t. (root : BlobRoot) (leaves : List ℕ) → IsBlobId root leaves t → ⊥ in
      NotFound (NoBlobId (subst P same none))

  module _ (root : BlobRoot) (leaves : List ℕ) (is : IsBlobId root leaves text) where
    is_id : IsBlobId root leaves id
    is_id = let P : List ℕ → Type 0 = λ t. IsBlobId root leaves t in subst P same is

    -- there are no octets
    pub blob_gone : (asks : List BodyAsk) (o : Option (List ℕ)) → o ≡ None → FindsOctets emails uploads root leaves asks (Ok o)
        → ShowsBlob emails uploads wanted id asks (Ok (record { id = id; found = None }))
    blob_gone asks o none finds =
        let P : Option (List ℕ) → Type 0 = λ p. FindsOctets emails uploads root leaves asks (Ok p) in
        NotFound (OfBlobId root leaves is_id (subst P none finds))

    -- a body didn't come
    pub blob_fails : (asks : List BodyAsk) (e : BodyError) (f : MethodError) → f ≡ error_by e → FindsOctets emails uploads root leaves asks (Err e)
        → ShowsBlob emails uploads wanted id asks (Err f)
    blob_fails asks e f f_is finds =
        let P : MethodError → Type 0 = λ m. ShowsBlob emails uploads wanted id asks (Err m) in
        subst P (sym f_is) (NoBody e (OfBlobId root leaves is_id finds))

    -- what was asked for them is due
    pub octets_due : (asks : List BodyAsk) (r : OctetsFound) → FindsOctets emails uploads root leaves asks r → AreDue (FailsAfter (ShowsBlob emails uploads wanted id)) asks
    octets_due asks r finds = blob_due emails uploads wanted id asks r (OfBlobId root leaves is_id finds)

    -- the octets are a message
    pub blob_parsed : (asks : List BodyAsk) (octets : List ℕ) (o : Option (List ℕ)) (message : Data) → o ≡ Some octets → FindsOctets emails uploads root leaves asks (Ok o)
        → IsParsedObject (Some id) (record { octets = octets; id = message_id leaves id }) wanted message
        → ShowsBlob emails uploads wanted id asks (Ok (record { id = id; found = Some message }))
    blob_parsed asks octets o message some finds parsed =
        let P : Option (List ℕ) → Type 0 = λ p. FindsOctets emails uploads root leaves asks (Ok p) in
        Parsed message (record { root = root; leaves = leaves; octets = octets; is_id = is_id; finds = subst P some finds; is_object = parsed })

-- ---- an Email/parse

module _ (s : ServedState) (uploads : List (List ℕ)) (d : Data) where
  parse_over_history : (h : MailHistory) (asks : List BodyAsk) (r : Result Data MethodError) → IsStateOf h s → AnswersEmailParse s.rows.numbered.rows uploads d asks r
      → RepliesEmailParse h uploads d asks r
  parse_over_history h asks r stands is = let P : Rows → Type 0 = λ rows. AnswersEmailParse rows uploads d asks r in subst P (same_emails s h stands) is

  -- it is refused
  pub parsing_refused : (e : MethodError) → parse_asked d ≡ Err e → (h : MailHistory) → IsStateOf h s → RepliesEmailParse h uploads d [] (Err e)
  parsing_refused e is h stands = parse_over_history h [] (Err e) stands (Refused e is)

  -- a body didn't come
  pub parsing_fails : (a : ParseAsked) (ids : List (List ℕ)) (e : MethodError) (asks : List BodyAsk) → parse_asked d ≡ Ok a → ids ≡ distinct_ids a.ids
      → ShowsAll (ShowsBlob s.rows.numbered.rows uploads a.wanted) ids asks (Err e) → (h : MailHistory) → IsStateOf h s → RepliesEmailParse h uploads d asks (Err e)
  parsing_fails a ids e asks is same shows h stands =
      let P : List (List ℕ) → Type 0 = λ l. ShowsAll (ShowsBlob s.rows.numbered.rows uploads a.wanted) l asks (Err e) in
      parse_over_history h asks (Err e) stands (Fails a e is (subst P same shows))

  -- what was asked for the blobs is due
  pub parsing_due : (a : ParseAsked) (ids : List (List ℕ)) (asks : List BodyAsk) → parse_asked d ≡ Ok a → ids ≡ distinct_ids a.ids
      → (r : Result (List ShownBlob) MethodError) → ShowsAll (ShowsBlob s.rows.numbered.rows uploads a.wanted) ids asks r
      → AreDue (FailsAfter (λ (l : List BodyAsk) (r : Result Data MethodError). (h : MailHistory) → IsStateOf h s → RepliesEmailParse h uploads d l r)) asks
  parsing_due a ids asks is same r shows =
      due_more (FailsAfter (ShowsAll (ShowsBlob s.rows.numbered.rows uploads a.wanted) ids))
      (FailsAfter (λ (l : List BodyAsk) (r : Result Data MethodError). (h : MailHistory) → IsStateOf h s → RepliesEmailParse h uploads d l r)) asks
      (λ l fails. (fails.0, parsing_fails a ids fails.0 l is same fails.1))
      (due_showing (ShowsBlob s.rows.numbered.rows uploads a.wanted) (due_shown_blob s.rows.numbered.rows uploads a.wanted) ids asks r shows)

  -- the blobs are shown
  pub parsing_shown : (a : ParseAsked) (ids : List (List ℕ)) (g : GatheredBlobs) (reply : Data) (asks : List BodyAsk) → parse_asked d ≡ Ok a → ids ≡ distinct_ids a.ids
      → reply ≡ parse_data g.parsed g.missing → GathersThese s.rows.numbered.rows uploads a.wanted ids asks (Ok g) → (h : MailHistory) → IsStateOf h s
      → RepliesEmailParse h uploads d asks (Ok reply)
  parsing_shown a ids g reply asks is same reply_is gathered h stands =
      let P : List (List ℕ) → Type 0 = λ l. ShowsAll (ShowsBlob s.rows.numbered.rows uploads a.wanted) l asks (Ok gathered.0) in
      let Q : Data → Type 0 = λ r. RepliesEmailParse h uploads d asks (Ok r) in
      subst Q (sym (reply_is ∙ gathered_is gathered.0 g gathered.2))
      (parse_over_history h asks (Ok (parse_answer gathered.0)) stands (Shown a gathered.0 is (subst P same gathered.1)))

-- ---- members

-- members that there are make an object
pub object_there : (es : List (String Global × Value)) → (length es ≡ 0 → ⊥) → object (members_view es) ≡ object_or_null (members_view es)
object_there [] some = absurd (some refl)
object_there (e ∷ es) some = refl

-- no members yet
pub none_gathered : (ms : List (String Global × Value)) (missing : List Value) → ms ≡ [] → missing ≡ []
    → GathersBlobs [] (record { parsed = members_view ms; missing = map view missing })
none_gathered ms missing none none_too = record {
  parsed = ap (λ (es : List (String Global × Value)). members_view es) none;
  missing = ap (λ (l : List Value). map view l) none_too;
}

pub members_whole : (ms : List (String Global × Value)) → ms ≡ [] → members_have_float (members_view ms) ≡ false
members_whole ms none = ap (λ (es : List (String Global × Value)). members_have_float (members_view es)) none

-- one more has integers alone
pub put_found_whole : (id : List ℕ) (o : Option Value) (before after : Members) → after ≡ put_found id (option_map view o) before
    → IfSome o (λ value. has_float (view value) ≡ false) → members_have_float before ≡ false → members_have_float after ≡ false
put_found_whole id o before after is one rest = ap members_have_float is ∙ found_whole id o before one rest
