-- What LIST tells (RFC 9051 sections 6.3.9 and 7.3.1).
use Rattle.std.specs.Prelude.{◌≡◌, ◌≢◌, ◌⊎◌, ℕ, List, Option, Some, None, IsSome, All}
use Rattle.std.specs.List.{Any, AllPairs, filter_map}
use Rattle.imap_types.specs.declared.response.Response.{Response}
use Rattle.imap_types.specs.declared.response.Response.TheVariants as response
use Rattle.honest_store.specs.StoreMail.{StoreFolder, UnselectableName, StoreMail}
use Rattle.honest_store.specs.Attributes.{lasting}

abbrev pub listed_name : Response → Option (List ℕ)
listed_name (response.List attributes delimiter name) = Some name
listed_name _ = None

-- a LIST of this name, whose attributes are these, hints aside
abbrev pub ListsName : List ℕ → Option ℕ → List (List ℕ) → Response → Type 0
ListsName name delimiter attributes (response.List told d n) = (n ≡ name) × (d ≡ delimiter) × (lasting told ≡ lasting attributes)
ListsName name delimiter attributes _ = ⊥

abbrev pub ListsFolder : StoreFolder → Response → Type 0
ListsFolder f r = ListsName f.name f.delimiter f.attributes r

abbrev pub ListsUnselectable : UnselectableName → Response → Type 0
ListsUnselectable n r = ListsName n.name n.delimiter n.attributes r

-- a response that lists a name lists one of the mail
abbrev pub ListsOne : StoreMail → Response → Type 0
ListsOne mail r = Any (λ f. ListsFolder f r) mail.folders ⊎ Any (λ n. ListsUnselectable n r) mail.unselectable

-- every name once, with `\subscribed` among its attributes where it is subscribed, and no other
pub record ListsMail (mail : StoreMail) (rs : List Response) : Type 0 where
  pub folders : All (λ f. Any (ListsFolder f) rs) mail.folders
  pub unselectable : All (λ n. Any (ListsUnselectable n) rs) mail.unselectable
  pub once : AllPairs (λ m n. m ≢ n) (filter_map listed_name rs)
  pub no_other : All (λ r. IsSome (listed_name r) → ListsOne mail r) rs
