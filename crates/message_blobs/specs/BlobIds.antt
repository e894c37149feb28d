-- Blob ids (RFC 8620 section 1.2, RFC 8621 section 4.1.4): the message of an Email or an upload, and the numbers of leaves, the
-- first one's in the root, each further one's in the leaf before it.
use Rattle.std.specs.Prelude.{◌≡◌, ℕ, ◌<◌, ◌≤◌, ◌^◌, Bool, ◌||◌, List, [], ◌∷◌, ◌++◌, length, decimal}
use Rattle.std.specs.List.{flat_map}
use Rattle.text_words.specs.Cuts.{Each}
use Rattle.text_words.specs.Octets.{is_between}
use Rattle.message_blobs.specs.declared.blob_id.Root.{Root}
use Rattle.message_blobs.specs.declared.blob_id.Root.TheVariants as code
use Rattle.message_blobs.specs.declared.blob_id.TheConstants.{DIGEST_DIGITS}
use Rattle.message_blobs.specs.declared.leaf_numbers.TheConstants.{MAX_LEAVES}

-- the number of an Email, or the id of an upload
pub data BlobRoot : Type 0 where
  OfEmail : ℕ → BlobRoot
  OfUpload : List ℕ → BlobRoot

-- what the code's root is
abbrev pub root_view : Root → BlobRoot
root_view (code.Email n) = OfEmail n
root_view (code.Upload id) = OfUpload id.now

-- `r` and the number of the Email in decimal, or the id of the upload
abbrev pub root_text : BlobRoot → List ℕ
root_text (OfEmail n) = 114 ∷ decimal n
root_text (OfUpload id) = id

-- `-` and the number of a leaf in decimal
abbrev pub leaf_text : ℕ → List ℕ
leaf_text n = 45 ∷ decimal n

-- the text of a blob id
abbrev pub blob_text : BlobRoot → List ℕ → List ℕ
blob_text root leaves = root_text root ++ flat_map leaf_text leaves

-- 0 to 9 and a to f
abbrev pub is_lower_hex : ℕ → Bool
is_lower_hex c = is_between 48 57 c || is_between 97 102 c

-- `u` and the digits of a SHA-256 digest
pub record IsUploadId (id : List ℕ) : Type 0 where
  pub digits : List ℕ
  pub whole : id ≡ 117 ∷ digits
  pub counted : length digits ≡ DIGEST_DIGITS
  pub are_lower_hex : Each is_lower_hex digits

abbrev pub IsRoot : BlobRoot → Type 0
IsRoot (OfEmail n) = n < 2 ^ 64
IsRoot (OfUpload id) = IsUploadId id

-- leaves have numbers from 1 on, of at most 64 bits
abbrev pub AreLeafNumbers : List ℕ → Type 0
AreLeafNumbers [] = Unit {0}
AreLeafNumbers (n ∷ ns) = (1 ≤ n) × (n < 2 ^ 64) × AreLeafNumbers ns

-- the text is the blob id of this root and these leaves
pub record IsBlobId (root : BlobRoot) (leaves : List ℕ) (text : List ℕ) : Type 0 where
  pub spelled : text ≡ blob_text root leaves
  pub is_root : IsRoot root
  pub are_numbers : AreLeafNumbers leaves
  pub few : length leaves ≤ MAX_LEAVES
