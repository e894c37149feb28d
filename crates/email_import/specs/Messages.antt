-- What the octets of an import come to, and its one APPEND (RFC 8621 section 4.8, RFC 9051 section 6.3.12).
use Rattle.std.specs.Prelude.{◌≡◌, ◌<◌, ◌≤◌, ◌==◌, ◌||◌, ℕ, ℤ, Bool, true, false, List, [], ◌∷◌, codes, length, unwrap_or, Some, None, Result, Ok, Err}
use Rattle.std.specs.List.{list_any}
use Rattle.change_list.specs.Advance.{row_at}
use Rattle.email_bodies.specs.Asking.{BodyAsk}
use Rattle.email_bodies.specs.declared.error.BodyError.{BodyError}
use Rattle.email_get.specs.Blobs.{FindsBlob}
use Rattle.mail_maps.specs.Rows.{Rows}
use Rattle.mail_maps.specs.declared.row.EmailRow.{EmailRow}
use Rattle.message_blobs.specs.BlobIds.{IsBlobId, OfEmail}
use Rattle.message_lines.specs.Bodies.{with_crlf}
use Rattle.message_texts.specs.declared.message.TheConstants.{MAX_MESSAGE_OCTETS}
use Rattle.set_jobs.specs.declared.done.SetError.{SetError}
use Rattle.set_jobs.specs.declared.done.SetError.TheVariants as why
use Rattle.set_jobs.specs.declared.job.Job.{Job}
use Rattle.email_creation.specs.Appends.{append_of}
use Rattle.email_import.specs.declared.ready.ReadyImport.{ReadyImport}

-- ---- Emails that are too long

-- The blob is the message of such an Email, or a leaf of it. Of its message no more than so many octets are fetched, so neither is imported.
pub record IsOfLongEmail (emails : Rows) (blob : List ℕ) : Type 0 where
  pub number : ℕ
  pub leaves : List ℕ
  pub row : EmailRow
  pub is_id : IsBlobId (OfEmail number) leaves blob
  pub there : row_at emails number ≡ Some row
  pub long : MAX_MESSAGE_OCTETS < row.size

-- ---- the octets

abbrev pub no_blob : SetError
no_blob = why.InvalidProperties (codes "blobId" ∷ [])

-- one of them is 0, which no message may have (RFC 9051 section 9, CHAR8)
abbrev pub has_zero : List ℕ → Bool
has_zero octets = list_any (λ c. c == 0) octets

-- nor is a message of no octets
abbrev pub is_no_message : List ℕ → Bool
is_no_message octets = (length octets == 0) || has_zero octets

-- What octets that are found come to, where their folder takes messages or doesn't: invalidProperties, forbidden, tooLarge, or the message, whose lines end in
-- CR LF (RFC 5322 section 2.3, RFC 9051 section 6.3.12).
pub data TakesOctets (takes : Bool) (octets : List ℕ) : Result (List ℕ) SetError → Type 0 where
  NoMessage : is_no_message octets ≡ true → TakesOctets takes octets (Err no_blob)
  MayNot : is_no_message octets ≡ false → takes ≡ false → TakesOctets takes octets (Err why.Forbidden)
  TooLong : is_no_message octets ≡ false → takes ≡ true → MAX_MESSAGE_OCTETS < length (with_crlf octets) → TakesOctets takes octets (Err why.TooLarge)
  Taken : is_no_message octets ≡ false → takes ≡ true → length (with_crlf octets) ≤ MAX_MESSAGE_OCTETS → TakesOctets takes octets (Ok (with_crlf octets))

-- What an import comes to once its blob is sought among these Emails and uploads, with the bodies that are asked for it: its message, or why it is refused;
-- or why its body didn't come. For an Email that is too long none is asked.
pub data FindsMessage (emails : Rows) (uploads : List (List ℕ)) (i : ReadyImport) : List BodyAsk → Result (Result (List ℕ) SetError) BodyError → Type 0 where
  LongMayNot : IsOfLongEmail emails i.blob → i.takes ≡ false → FindsMessage emails uploads i [] (Ok (Err why.Forbidden))
  Long : IsOfLongEmail emails i.blob → i.takes ≡ true → FindsMessage emails uploads i [] (Ok (Err why.TooLarge))
  NotFound : (asks : List BodyAsk) → (IsOfLongEmail emails i.blob → ⊥) → FindsBlob emails uploads i.blob asks (Ok None) → FindsMessage emails uploads i asks (Ok (Err no_blob))
  Found : (asks : List BodyAsk) (octets : List ℕ) (came : Result (List ℕ) SetError) → (IsOfLongEmail emails i.blob → ⊥) → FindsBlob emails uploads i.blob asks (Ok (Some octets))
      → TakesOctets i.takes octets came → FindsMessage emails uploads i asks (Ok came)
  Lacks : (asks : List BodyAsk) (e : BodyError) → (IsOfLongEmail emails i.blob → ⊥) → FindsBlob emails uploads i.blob asks (Err e) → FindsMessage emails uploads i asks (Err e)

-- ---- the APPEND

-- its date is the one that is asked, or else the present moment
abbrev pub import_job : ReadyImport → ℤ → List ℕ → Job
import_job i now message = append_of i.name i.flags (unwrap_or i.date now) message
