-- What the properties of an Email that is to be created are read as: a draft, or why there is none (RFC 8621 section 4.6).
use Rattle.std.specs.Prelude.{◌≡◌, ◌≢◌, ℕ, Bool, List, [], Option, Some, codes, map, is_none, unwrap_or, option_map, option_and_then}
use Rattle.std.specs.List.{AllZip, filter}
use Rattle.serde_json.specs.Data.{Data, Members}
use Rattle.serde_json.specs.Find.{get_member, as_str}
use Rattle.blob_store.specs.Uploads.{upload_with}
use Rattle.zoned_moments.specs.declared.moments.ZonedMoment.{ZonedMoment}
use Rattle.jmap_arguments.specs.Gets.{distinct_ids}
use Rattle.mail_drafts.specs.declared.attachment.Attachment.{Attachment}
use Rattle.mail_drafts.specs.declared.draft.Draft.{Draft}
use Rattle.mail_drafts.specs.declared.error.BuildError.{BuildError}
use Rattle.mail_drafts.specs.declared.error.BuildError.TheVariants.{BadValue, BlobNotFound, TooLarge, Memory}
use Rattle.draft_reading.specs.Values.{id_in, date_in, list_in, filled}
use Rattle.draft_reading.specs.Mailboxes.{named_in, said}
use Rattle.draft_reading.specs.Parts.{text_list_in, Attached, attachment_in}
use Rattle.draft_reading.specs.Properties.{NoneRefused, IsFirstRefused}

-- ---- values of properties that are allowed; null says the same as that there is none

module _ {X : Type 0} where
  abbrev pub value_at : (Data → Option X) → Members → List ℕ → Option X
  value_at read all key = option_and_then read (get_member key all)

module _ {X : Type 0} where
  -- a list with an element
  abbrev pub list_at : (Data → Option X) → Members → List ℕ → Option (List X)
  list_at read all key = filled (value_at (list_in read) all key)

abbrev pub text_value : Members → List ℕ → List ℕ → Option (List ℕ)
text_value all key type = option_and_then (λ text. text) (value_at (text_list_in all type) all key)

-- ---- attachments, and the uploads that they are

abbrev pub attached_in : Members → List Attached
attached_in all = unwrap_or (value_at (list_in attachment_in) all (codes "attachments")) []

-- an attachment, with its upload
pub record IsUpload (uploads : List (List ℕ)) (asked : Attached) (a : Attachment) : Type 0 where
  pub bytes : upload_with asked.blob uploads ≡ Some a.bytes
  pub media : a.media ≡ asked.media
  pub charset : a.charset ≡ asked.charset
  pub name : a.name ≡ asked.name
  pub cid : a.cid ≡ asked.cid
  pub inline : a.inline ≡ asked.inline

-- the ids of uploads that are asked for
abbrev pub blob_ids : List Attached → List (List ℕ)
blob_ids list = map (λ (a : Attached). a.blob) list

abbrev pub is_missing : List (List ℕ) → List ℕ → Bool
is_missing uploads id = is_none (upload_with id uploads)

-- those that aren't kept, each once, where it stands first
abbrev pub missing : List (List ℕ) → List Attached → List (List ℕ)
missing uploads list = distinct_ids (filter (is_missing uploads) (blob_ids list))

-- ---- the draft, or why there is none

-- the draft of the properties, none of which is refused
pub record IsDraftOf (uploads : List (List ℕ)) (all : Members) (d : Draft) : Type 0 where
  pub allowed : NoneRefused all
  pub date : option_map (λ (z : ZonedMoment). z.moment) d.date ≡ value_at date_in all (codes "sentAt")
  pub from : option_map (map said) d.from ≡ list_at named_in all (codes "from")
  pub sender : option_map (map said) d.sender ≡ list_at named_in all (codes "sender")
  pub reply_to : option_map (map said) d.reply_to ≡ list_at named_in all (codes "replyTo")
  pub to : option_map (map said) d.to ≡ list_at named_in all (codes "to")
  pub cc : option_map (map said) d.cc ≡ list_at named_in all (codes "cc")
  pub bcc : option_map (map said) d.bcc ≡ list_at named_in all (codes "bcc")
  pub subject : d.subject ≡ value_at as_str all (codes "subject")
  pub message_id : d.message_id ≡ list_at id_in all (codes "messageId")
  pub in_reply_to : d.in_reply_to ≡ list_at id_in all (codes "inReplyTo")
  pub references : d.references ≡ list_at id_in all (codes "references")
  pub text : d.text ≡ text_value all (codes "textBody") (codes "text/plain")
  pub html : d.html ≡ text_value all (codes "htmlBody") (codes "text/html")
  pub attachments : AllZip (IsUpload uploads) (attached_in all) d.attachments

-- none of the properties is refused, and these are the uploads that attachments name and that aren't kept
pub record IsWithout (uploads : List (List ℕ)) (all : Members) (ids : List (List ℕ)) : Type 0 where
  pub allowed : NoneRefused all
  pub ids_are : ids ≡ missing uploads (attached_in all)
  pub some : ids ≢ []

-- why there is no draft, want of memory aside
abbrev pub IsReadFailure : List (List ℕ) → Members → BuildError → Type 0
IsReadFailure uploads all (BadValue key) = IsFirstRefused all key
IsReadFailure uploads all (BlobNotFound ids) = IsWithout uploads all ids
IsReadFailure uploads all (TooLarge size) = ⊥
IsReadFailure uploads all Memory = Unit {0}
