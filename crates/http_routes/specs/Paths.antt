-- The paths that there are, by what each is of (RFC 8620 sections 2, 3.1, 6.1 and 6.2).
use Rattle.std.specs.Prelude.{◌≡◌, ◌≢◌, ◌++◌, ℕ, List, [], ◌∷◌, codes}
use Rattle.std.specs.List.{AllByRecursion}

-- no octet is a slash
abbrev pub HasNoSlash : List ℕ → Type 0
HasNoSlash octets = AllByRecursion (λ octet. octet ≢ 47) octets

-- a part of a path as it was sent: an octet at least, none of them a slash
abbrev pub IsPathPart : List ℕ → Type 0
IsPathPart part = (part ≢ []) × HasNoSlash part

-- What a path is of: an upload by its account; a download by its account, blob and name.
pub data Resource : Type 0 where
  SessionResource : Resource
  ApiResource : Resource
  UploadResource : List ℕ → Resource
  DownloadResource : List ℕ → List ℕ → List ℕ → Resource

-- the path is of this; its parts are as they were sent, with their escapes; a download's name may be empty
abbrev pub IsPath : Resource → List ℕ → Type 0
IsPath SessionResource path = path ≡ codes "/.well-known/jmap"
IsPath ApiResource path = path ≡ codes "/jmap/api"
IsPath (UploadResource account) path = IsPathPart account × (path ≡ codes "/jmap/upload/" ++ account)
IsPath (DownloadResource account blob name) path =
    IsPathPart account × IsPathPart blob × HasNoSlash name × (path ≡ codes "/jmap/download/" ++ (account ++ 47 ∷ (blob ++ 47 ∷ name)))
