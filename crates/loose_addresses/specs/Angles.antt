-- "<x>" with an "@" in x: the address of an element that is none by the grammar.
use Rattle.std.specs.Prelude.{◌≡◌, ℕ, Bool, false, true, not, ◌||◌, ◌==◌, List, [], ◌∷◌, ◌++◌}
use Rattle.std.specs.List.{flat_map, list_any}
use Rattle.text_words.specs.Cuts.{Each}
use Rattle.loose_addresses.specs.Lumps.{AreLumpsBefore}

abbrev pub is_at : ℕ → Bool
is_at c = c == 64

abbrev pub is_angle : ℕ → Bool
is_angle c = c == 60 || c == 62

abbrev pub is_no_angle : ℕ → Bool
is_no_angle c = not (is_angle c)

-- "<x>" in a text, where x has an "@" and no angle bracket
pub record HasAngle (before x behind t : List ℕ) : Type 0 where
  pub whole : t ≡ before ++ 60 ∷ (x ++ 62 ∷ behind)
  pub inner : Each is_no_angle x
  pub at : list_any is_at x ≡ true

abbrev pub NoAngle : List ℕ → Type 0
NoAngle t = (before x behind : List ℕ) → HasAngle before x behind t → ⊥

-- the last one
pub record IsLastAngle (before x behind t : List ℕ) : Type 0 where
  pub has : HasAngle before x behind t
  pub last : NoAngle behind

-- ---- the last one outside what else is closed

abbrev pub begins_less : List ℕ → Bool
begins_less [] = false
begins_less (c ∷ t) = c == 60

-- no lump in angle brackets has one
abbrev pub HaveNone : List (List ℕ) → Type 0
HaveNone [] = Unit {0}
HaveNone (u ∷ us) = (begins_less u ≡ true → NoAngle u) × HaveNone us

abbrev pub joined : List (List ℕ) → List ℕ
joined us = flat_map (λ (u : List ℕ). u) us

-- the last lump in angle brackets that has one
pub record IsLastOf (before x : List ℕ) (lumps : List (List ℕ)) : Type 0 where
  pub front : List (List ℕ)
  pub lump : List ℕ
  pub back : List (List ℕ)
  pub lumps_are : lumps ≡ front ++ lump ∷ back
  pub opens : begins_less lump ≡ true
  pub inner : List ℕ
  pub behind : List ℕ
  pub is : IsLastAngle inner x behind lump
  pub before_is : before ≡ joined front ++ inner
  pub none_behind : HaveNone back

pub record IsLastOutside (before x t : List ℕ) : Type 0 where
  pub lumps : List (List ℕ)
  pub are : AreLumpsBefore lumps [] t
  pub is : IsLastOf before x lumps

-- The one that counts: the last one outside quoted texts, comments and domain literals that are closed, and encoded words; where
-- there is none, the last one anywhere.
pub data IsAddressAngle (before x t : List ℕ) : Type 0 where
  Outside : IsLastOutside before x t → IsAddressAngle before x t
  Anywhere : ((b y : List ℕ) → IsLastOutside b y t → ⊥) → (behind : List ℕ) → IsLastAngle before x behind t → IsAddressAngle before x t
