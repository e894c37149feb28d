-- The uploads that are kept, oldest first (RFC 8620, section 6.1).
use Rattle.std.specs.Prelude.{◌≡◌, ℕ, ◌+◌, ◌<◌, ◌≤◌, ◌⊎◌, ◌==◌, if◌then◌else◌, List, [], ◌∷◌, ◌++◌, length, Option, None, Some}
use Rattle.std.specs.Cmp.Lexicographic.{pointwise}
use Rattle.hex.specs.Hex.{encode_lower}
use Rattle.sha2.specs.Sha256.{sha256}

-- the id of an upload: `u` and its SHA-256 digest in lower-case hexadecimal
unfoldable pub blob_id : List ℕ → List ℕ
blob_id octets = 117 ∷ encode_lower (sha256 octets)

-- the upload with this id, the first of several
abbrev pub upload_with : List ℕ → List (List ℕ) → Option (List ℕ)
upload_with id [] = None
upload_with id (octets ∷ rest) = if pointwise ◌==◌ id (blob_id octets) then Some octets else upload_with id rest

-- the octets of all of them
abbrev pub octets_in_all : List (List ℕ) → ℕ
octets_in_all [] = 0
octets_in_all (octets ∷ rest) = length octets + octets_in_all rest

-- No more than have to are gone: with the last of them there would be too many octets.
abbrev pub HaveToGo : ℕ → List (List ℕ) → List (List ℕ) → Type 0
HaveToGo most gone kept = (gone ≡ []) ⊎ ((earlier : List (List ℕ)) × (last : List ℕ) × (gone ≡ earlier ++ last ∷ []) × (most < octets_in_all (last ∷ kept)))

-- the newest uploads that have at most n octets together: the oldest are gone
pub record AreNewest (most : ℕ) (all kept : List (List ℕ)) : Type 0 where
  pub gone : List (List ℕ)
  pub whole : all ≡ gone ++ kept
  pub fit : octets_in_all kept ≤ most
  pub needed : HaveToGo most gone kept

-- what is kept after an upload: the same where one with its id is there, else the newest of all
abbrev pub TakesUpload : ℕ → List ℕ → List (List ℕ) → List (List ℕ) → Type 0
TakesUpload most octets before after = by (upload_with (blob_id octets) before)
  where
    by : Option (List ℕ) → Type 0
    by (Some there) = after ≡ before
    by None = AreNewest most (before ++ octets ∷ []) after
