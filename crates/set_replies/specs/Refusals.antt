-- Why an item was not done: SetError objects (RFC 8620 section 5.3, RFC 8621 sections 2.5 and 4.6).
use Rattle.std.specs.Prelude.{ℕ, List, map, codes}
use Rattle.serde_json.specs.Data.{Data, string, array, object, no_members, member}
use Rattle.serde_json.specs.View.{items_of}
use Rattle.set_jobs.specs.declared.done.SetError.{SetError}
use Rattle.set_jobs.specs.declared.done.SetError.TheVariants.{Forbidden, OverQuota, TooLarge, NotFound, InvalidPatch, InvalidProperties, BlobNotFound}
use Rattle.set_jobs.specs.declared.done.SetError.TheVariants.{TooManyMailboxes, MailboxHasChild, MailboxHasEmail}

abbrev pub text_list : List (List ℕ) → Data
text_list texts = array (items_of (map string texts))

abbrev pub refusal_with : List ℕ → Data
refusal_with name = object (member (codes "type") (string name) no_members)

abbrev pub wrong_properties_data : List (List ℕ) → Data
wrong_properties_data properties =
    object (member (codes "properties") (text_list properties) (member (codes "type") (string (codes "invalidProperties")) no_members))

abbrev pub missing_blobs_data : List (List ℕ) → Data
missing_blobs_data ids = object (member (codes "notFound") (text_list ids) (member (codes "type") (string (codes "blobNotFound")) no_members))

abbrev pub refusal_data : SetError → Data
refusal_data Forbidden = refusal_with (codes "forbidden")
refusal_data OverQuota = refusal_with (codes "overQuota")
refusal_data TooLarge = refusal_with (codes "tooLarge")
refusal_data NotFound = refusal_with (codes "notFound")
refusal_data InvalidPatch = refusal_with (codes "invalidPatch")
refusal_data (InvalidProperties properties) = wrong_properties_data properties
refusal_data (BlobNotFound ids) = missing_blobs_data ids
refusal_data TooManyMailboxes = refusal_with (codes "tooManyMailboxes")
refusal_data MailboxHasChild = refusal_with (codes "mailboxHasChild")
refusal_data MailboxHasEmail = refusal_with (codes "mailboxHasEmail")
