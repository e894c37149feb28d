-- The octets that a blob id names (RFC 8620 section 6.2, RFC 8621 section 4.1.4), of these Emails and uploads, and the bodies that are asked for them.
use Rattle.std.specs.Prelude.{◌≡◌, ℕ, List, [], ◌∷◌, Option, Some, None, Result, Ok, Err}
use Rattle.blob_store.specs.Uploads.{upload_with}
use Rattle.change_list.specs.Advance.{row_at}
use Rattle.email_bodies.specs.Asking.{BodyAsk}
use Rattle.email_bodies.specs.declared.error.BodyError.{BodyError}
use Rattle.email_bodies.specs.declared.error.BodyError.TheVariants.{Ended}
use Rattle.mail_maps.specs.Rows.{Rows}
use Rattle.mail_maps.specs.declared.row.EmailRow.{EmailRow}
use Rattle.message_blobs.specs.BlobIds.{BlobRoot, OfEmail, OfUpload, IsBlobId}
use Rattle.message_blobs.specs.NestedLeaves.{NamesOctets}
use Rattle.email_get.specs.Asked.{ask_for}

-- octets, none where there are none, or why a body didn't come
abbrev pub OctetsFound : Type 0
OctetsFound = Result (Option (List ℕ)) BodyError

-- Those of a root: an upload's are kept, an Email's body is asked where there is the Email.
pub data FindsRoot (emails : Rows) (uploads : List (List ℕ)) : BlobRoot → List BodyAsk → OctetsFound → Type 0 where
  OfTheUploads : (id : List ℕ) (found : Option (List ℕ)) → upload_with id uploads ≡ found → FindsRoot emails uploads (OfUpload id) [] (Ok found)
  NoSuchEmail : (n : ℕ) → row_at emails n ≡ None → FindsRoot emails uploads (OfEmail n) [] (Ok None)
  BodyComes : (n : ℕ) (row : EmailRow) (octets : List ℕ) → row_at emails n ≡ Some row
      → FindsRoot emails uploads (OfEmail n) (ask_for row (Some octets) ∷ []) (Ok (Some octets))
  BodyLacks : (n : ℕ) (row : EmailRow) → row_at emails n ≡ Some row → FindsRoot emails uploads (OfEmail n) (ask_for row None ∷ []) (Err Ended)

-- Those that the numbers of leaves name in what was found of the root.
pub data FindsLeaf (leaves : List ℕ) : OctetsFound → OctetsFound → Type 0 where
  NoBody : (e : BodyError) → FindsLeaf leaves (Err e) (Err e)
  NoRoot : FindsLeaf leaves (Ok None) (Ok None)
  NoLeaf : (octets : List ℕ) → ((named : List ℕ) → NamesOctets leaves octets named → ⊥) → FindsLeaf leaves (Ok (Some octets)) (Ok None)
  Named : (octets named : List ℕ) → NamesOctets leaves octets named → FindsLeaf leaves (Ok (Some octets)) (Ok (Some named))

-- those of a root and leaves
pub record FindsOctets (emails : Rows) (uploads : List (List ℕ)) (root : BlobRoot) (leaves : List ℕ) (asks : List BodyAsk) (found : OctetsFound) : Type 0 where
  pub of_root : OctetsFound
  pub finds_root : FindsRoot emails uploads root asks of_root
  pub finds_leaf : FindsLeaf leaves of_root found

-- those of a blob id; no other text names any
pub data FindsBlob (emails : Rows) (uploads : List (List ℕ)) (id : List ℕ) : List BodyAsk → OctetsFound → Type 0 where
  NoBlobId : ((root : BlobRoot) (leaves : List ℕ) → IsBlobId root leaves id → ⊥) → FindsBlob emails uploads id [] (Ok None)
  OfBlobId : {asks : List BodyAsk} {found : OctetsFound} (root : BlobRoot) (leaves : List ℕ) → IsBlobId root leaves id
      → FindsOctets emails uploads root leaves asks found → FindsBlob emails uploads id asks found
