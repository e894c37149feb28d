-- How the code cuts elements.
use Rattle.std.specs.Prelude.{◌≡◌, ℕ, true, List, [], ◌∷◌, ◌++◌, length, drop, Option, Some, None}
use Rattle.std.proofs.Common.{Bor}
use Rattle.header_addresses.specs.declared.address.Address.{Address}
use Rattle.loose_addresses.specs.Angles.{HaveNone, IsLastOf}
use Rattle.loose_addresses.specs.LooseLists.{AreLoose}
use Rattle.loose_addresses.specs.Lumps.{is_separator, IsLump, AreLumpsBefore}

-- the text begins with a lump of n octets
pub record LumpOf (n : ℕ) (t : List ℕ) : Type 0 where
  pub unit : List ℕ
  pub rest : List ℕ
  pub whole : t ≡ unit ++ rest
  pub is : IsLump (Some unit) unit rest
  pub counted : n ≡ length unit

-- the text begins with the octets of an element's lumps, and rest follows them
pub record IsElementBefore (element rest t : List ℕ) : Type 0 where
  pub lumps : List (List ℕ)
  pub are : AreLumpsBefore lumps rest t
  pub whole : t ≡ element ++ rest

-- nothing follows an element, or a separator
abbrev pub EndsElement : List ℕ → Type 0
EndsElement [] = Unit {0}
EndsElement (c ∷ t) = is_separator c ≡ true

-- the text begins with the element; a separator follows it, and then more, or nothing does
pub data BeginsWithElement (element : List ℕ) : Option (List ℕ) → List ℕ → Type 0 where
  LastElement : (t : List ℕ) → IsElementBefore element [] t → BeginsWithElement element None t
  NextElement : (c : ℕ) (more t : List ℕ) → is_separator c ≡ true → IsElementBefore element (c ∷ more) t → BeginsWithElement element (Some more) t

-- the addresses of what is left; nothing has none
abbrev pub AreLeft : List Address → Option (List ℕ) → Type 0
AreLeft list None = list ≡ []
AreLeft list (Some t) = AreLoose list t

-- lumps end at the place n of the text
pub record EndsLumps (n : ℕ) (t : List ℕ) : Type 0 where
  pub lumps : List (List ℕ)
  pub are : AreLumpsBefore lumps (drop n t) t

-- what was found in lumps: what stands before the last "<x>" that counts, and x
abbrev pub IsFound : Option (Bor (List ℕ) × Bor (List ℕ)) → List (List ℕ) → Type 0
IsFound None lumps = HaveNone lumps
IsFound (Some r) lumps = IsLastOf r.0.now r.1.now lumps

-- the same in the lumps up to the place n
pub record FoundBefore (n : ℕ) (found : Option (Bor (List ℕ) × Bor (List ℕ))) (t : List ℕ) : Type 0 where
  pub lumps : List (List ℕ)
  pub are : AreLumpsBefore lumps (drop n t) t
  pub is : IsFound found lumps
