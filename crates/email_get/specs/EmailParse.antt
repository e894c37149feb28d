-- Email/parse (RFC 8621 section 4.9).
use Rattle.std.specs.Prelude.{◌≡◌, ℕ, nat_lt, if◌then◌else◌, List, [], ◌∷◌, map, length, codes, Option, Some, None, Result, Ok, Err}
use Rattle.std.specs.List.{flat_map}
use Rattle.serde_json.specs.Data.{Data, null, string, array, object, Members, no_members, member, put}
use Rattle.serde_json.specs.View.{items_of}
use Rattle.email_bodies.specs.Asking.{BodyAsk}
use Rattle.email_bodies.specs.declared.error.BodyError.{BodyError}
use Rattle.email_objects.specs.EmailObjects.{IsParsedObject}
use Rattle.email_properties.specs.Wanted.{EmailAsked, email_wanted_in}
use Rattle.email_properties.specs.declared.defaults.Defaults.TheVariants.{Parse}
use Rattle.jmap_arguments.specs.Arguments.{text_at, texts_at, account_id, account_check, count_check}
use Rattle.jmap_arguments.specs.Gets.{distinct_ids}
use Rattle.jmap_arguments.specs.Outcome.{refusal_of}
use Rattle.jmap_arguments.specs.declared.method_error.MethodError.{MethodError}
use Rattle.jmap_arguments.specs.declared.method_error.MethodError.TheVariants.{InvalidArguments}
use Rattle.mail_maps.specs.Rows.{Rows}
use Rattle.mail_state.specs.History.{MailHistory}
use Rattle.message_blobs.specs.BlobIds.{BlobRoot, IsBlobId}
use Rattle.message_blobs.specs.declared.leaf_numbers.TheConstants.{MAX_LEAVES}
use Rattle.email_get.specs.Asked.{error_by}
use Rattle.email_get.specs.Blobs.{FindsOctets, FindsBlob}
use Rattle.email_get.specs.Showing.{ShowsAll}

-- ---- what is asked, or the first refusal: the arguments' kinds, the account, the count of ids

pub record ParseAsked : Type 0 where
  pub ids : List (List ℕ)
  pub wanted : EmailAsked

-- texts that have to be there
abbrev pub texts_there : Result (Option (List (List ℕ))) MethodError → Result (List (List ℕ)) MethodError
texts_there (Ok (Some texts)) = Ok texts
texts_there (Ok None) = Err InvalidArguments
texts_there (Err e) = Err e

abbrev pub admitted_parse : Result (Unit {0}) MethodError → Result (Unit {0}) MethodError → ParseAsked → Result ParseAsked MethodError
admitted_parse (Ok account) (Ok count) asked = Ok asked
admitted_parse (Ok account) (Err e) asked = Err e
admitted_parse (Err e) count asked = Err e

abbrev pub parse_from : Result (List ℕ) MethodError → Result (List (List ℕ)) MethodError → Result EmailAsked MethodError → Result ParseAsked MethodError
parse_from (Ok account) (Ok ids) (Ok wanted) = admitted_parse (account_check account) (count_check (length ids)) (record { ids = ids; wanted = wanted })
parse_from (Ok account) (Ok ids) (Err e) = Err e
parse_from (Ok account) (Err e) wanted = Err e
parse_from (Err e) ids wanted = Err e

abbrev pub parse_asked : Data → Result ParseAsked MethodError
parse_asked d = parse_from (text_at (codes "accountId") d) (texts_there (texts_at (codes "blobIds") d)) (email_wanted_in Parse d)

-- the refusal by the arguments alone
abbrev pub parse_refused : Data → Result (Unit {0}) MethodError
parse_refused d = refusal_of (parse_asked d)

-- ---- objects

-- a blob that is asked, and its message as an object where it is found
pub record ShownBlob : Type 0 where
  pub id : List ℕ
  pub found : Option Data

-- the message's blob id, by which its parts have theirs; none where there is no number left for them
abbrev pub message_id : List ℕ → List ℕ → Option (List ℕ)
message_id leaves id = if nat_lt (length leaves) MAX_LEAVES then Some id else None

-- the octets that the id names, as an object; any octets are a message
pub record ParsesBlob (emails : Rows) (uploads : List (List ℕ)) (wanted : EmailAsked) (id : List ℕ) (asks : List BodyAsk) (message : Data) : Type 0 where
  pub root : BlobRoot
  pub leaves : List ℕ
  pub octets : List ℕ
  pub is_id : IsBlobId root leaves id
  pub finds : FindsOctets emails uploads root leaves asks (Ok (Some octets))
  pub is_object : IsParsedObject (Some id) (record { octets = octets; id = message_id leaves id }) wanted message

-- a blob that is asked: its message, where there are octets of the id
pub data ShowsBlob (emails : Rows) (uploads : List (List ℕ)) (wanted : EmailAsked) (id : List ℕ) : List BodyAsk → Result ShownBlob MethodError → Type 0 where
  NotFound : {asks : List BodyAsk} → FindsBlob emails uploads id asks (Ok None) → ShowsBlob emails uploads wanted id asks
      (Ok (record { id = id; found = None }))
  Parsed : {asks : List BodyAsk} (message : Data) → ParsesBlob emails uploads wanted id asks message
      → ShowsBlob emails uploads wanted id asks (Ok (record { id = id; found = Some message }))
  NoBody : {asks : List BodyAsk} (e : BodyError) → FindsBlob emails uploads id asks (Err e) → ShowsBlob emails uploads wanted id asks (Err (error_by e))

-- ---- the answer

abbrev pub put_found : List ℕ → Option Data → Members → Members
put_found id None members = members
put_found id (Some message) members = put id message members

-- those that are found, each at its id
abbrev pub parsed_members : List ShownBlob → Members → Members
parsed_members [] members = members
parsed_members (b ∷ bs) members = parsed_members bs (put_found b.id b.found members)

-- the id of one that isn't found
abbrev pub missing_id : List ℕ → Option Data → List (List ℕ)
missing_id id None = id ∷ []
missing_id id (Some message) = []

abbrev pub missing_ids : List ShownBlob → List (List ℕ)
missing_ids bs = flat_map (λ (b : ShownBlob). missing_id b.id b.found) bs

-- null where there are none
abbrev pub object_or_null : Members → Data
object_or_null no_members = null
object_or_null (member key d members) = object (member key d members)

abbrev pub list_or_null : List Data → Data
list_or_null [] = null
list_or_null (d ∷ ds) = array (items_of (d ∷ ds))

-- any octets are a message, so nothing is not parsable
abbrev pub parse_data : Members → List Data → Data
parse_data parsed missing = object
    (member (codes "accountId") (string account_id)
    (member (codes "notFound") (list_or_null missing)
    (member (codes "notParsable") null
    (member (codes "parsed") (object_or_null parsed)
    no_members))))

abbrev pub parse_answer : List ShownBlob → Data
parse_answer shown = parse_data (parsed_members shown no_members) (map string (missing_ids shown))

-- of these Emails and uploads, each blob once
pub data AnswersEmailParse (emails : Rows) (uploads : List (List ℕ)) (d : Data) : List BodyAsk → Result Data MethodError → Type 0 where
  Refused : (e : MethodError) → parse_asked d ≡ Err e → AnswersEmailParse emails uploads d [] (Err e)
  Shown : {asks : List BodyAsk} (a : ParseAsked) (shown : List ShownBlob) → parse_asked d ≡ Ok a
      → ShowsAll (ShowsBlob emails uploads a.wanted) (distinct_ids a.ids) asks (Ok shown) → AnswersEmailParse emails uploads d asks (Ok (parse_answer shown))
  Fails : {asks : List BodyAsk} (a : ParseAsked) (e : MethodError) → parse_asked d ≡ Ok a
      → ShowsAll (ShowsBlob emails uploads a.wanted) (distinct_ids a.ids) asks (Err e) → AnswersEmailParse emails uploads d asks (Err e)

-- over what has become of the mail, with these uploads
abbrev pub RepliesEmailParse : MailHistory → List (List ℕ) → Data → List BodyAsk → Result Data MethodError → Type 0
RepliesEmailParse h = AnswersEmailParse h.numbered.rows
