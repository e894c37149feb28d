-- What a map from ids to octets and a queue of ids stand for.
use Rattle.std.specs.Prelude.{◌≡◌, ℕ, List, [], ◌∷◌, ◌++◌, Option, None, Some, option_to_list}
use Rattle.blob_store.specs.Uploads.{blob_id, upload_with}

-- the uploads in the order of the ids
abbrev pub gathered : (List ℕ → Option (List ℕ)) → List (List ℕ) → List (List ℕ)
gathered octets_at [] = []
gathered octets_at (id ∷ ids) = option_to_list (octets_at id) ++ gathered octets_at ids

-- each id has an upload, whose id it is
abbrev pub AreNamed : (List ℕ → Option (List ℕ)) → List (List ℕ) → Type 0
AreNamed octets_at [] = Unit {0}
AreNamed octets_at (id ∷ ids) = ((octets : List ℕ) × (octets_at id ≡ Some octets) × (blob_id octets ≡ id)) × AreNamed octets_at ids

-- no two have the same id
abbrev pub AreDistinct : List (List ℕ) → Type 0
AreDistinct [] = Unit {0}
AreDistinct (octets ∷ rest) = (upload_with (blob_id octets) rest ≡ None) × AreDistinct rest

pub record AreKept (octets_at : List ℕ → Option (List ℕ)) (ids : List (List ℕ)) : Type 0 where
  pub named : AreNamed octets_at ids
  pub distinct : AreDistinct (gathered octets_at ids)
  pub found : (id : List ℕ) → octets_at id ≡ upload_with id (gathered octets_at ids)
