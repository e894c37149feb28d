-- The items of a FETCH response (RFC 9051 section 7.5.2), and what they tell together.
use Rattle.std.specs.Prelude.{◌≡◌, ◌⊎◌, ℕ, if◌then◌else◌, List, [], ◌∷◌, ◌++◌, map, take, codes, bytes_eq, Some, None, ℤ}
use Rattle.std.specs.Ordering.{nat_cmp}
use Rattle.std.specs.Cmp.Lexicographic.{slice_cmp}
use Rattle.std.specs.BTreeSet.{insert_key}
use Rattle.imap_types.specs.declared.response.FetchItems.{FetchItems}
use Rattle.imap_types.specs.Octets.{lower}
use Rattle.imap_types.specs.Texts.{Then, IsWord, crlf}
use Rattle.imap_types.specs.Numbers.{IsNonZero, IsLong}
pub use Rattle.imap_types.specs.Lines.{joined}
pub use Rattle.imap_types.specs.Strings.{IsAtom}
use Rattle.imap_types.specs.Strings.{IsNString}
use Rattle.imap_types.specs.Values.{IsValue, nesting}
use Rattle.imap_types.specs.ItemNames.{IsOtherName}
use Rattle.imap_types.specs.DateTimes.{IsDateTime}

-- ---- names

-- name = ["\"] atom
abbrev pub IsName : List ℕ → Type 0
IsName t = IsAtom t ⊎ ((atom : List ℕ) × (t ≡ 92 ∷ atom) × IsAtom atom)

abbrev pub AllNames : List (List ℕ) → Type 0
AllNames [] = Unit {0}
AllNames (n ∷ ns) = IsName n × AllNames ns

-- names = "(" [name *(SP name)] ")"
abbrev pub IsNames : List (List ℕ) → List ℕ → Type 0
IsNames ns t = AllNames ns × (t ≡ 40 ∷ joined ns ++ 41 ∷ [])

-- ---- items

-- an item as it stands in a response
pub data Item : Type 0 where
  Uid : ℕ → Item
  Flags : List (List ℕ) → Item
  ModSeq : ℕ → Item
  Date : ℤ → Item
  Size : ℕ → Item
  Header : List ℕ → Item
  Body : List ℕ → Item
  Other : Item

abbrev pub IsItemValue : Item → List ℕ → List ℕ → Type 0
IsItemValue (Uid n) name value = IsWord (codes "uid") name × IsNonZero n value
IsItemValue (Flags ns) name value = IsWord (codes "flags") name × IsNames ns value
IsItemValue (ModSeq n) name value = IsWord (codes "modseq") name × ((digits : List ℕ) × (value ≡ 40 ∷ digits ++ 41 ∷ []) × IsLong n digits)
IsItemValue (Date seconds) name value = IsWord (codes "internaldate") name × IsDateTime seconds value
IsItemValue (Size n) name value = IsWord (codes "rfc822.size") name × IsLong n value
IsItemValue (Header s) name value = (IsWord (codes "body[header]") name ⊎ IsWord (codes "body[header]<0>") name) × IsNString s value
IsItemValue (Body s) name value = (IsWord (codes "body[]") name ⊎ IsWord (codes "body[]<0>") name) × IsNString s value
IsItemValue Other name value = IsOtherName name × IsValue nesting value

-- item = "UID" SP nz / "FLAGS" SP names / "MODSEQ" SP "(" long ")" / "INTERNALDATE" SP date-time / "RFC822.SIZE" SP long
--      / ("BODY[HEADER]" / "BODY[HEADER]<0>" / "BODY[]" / "BODY[]<0>") SP nstring
--      / name SP value
pub record IsItem (i : Item) (t : List ℕ) : Type 0 where
  pub name : List ℕ
  pub value : List ℕ
  pub whole : t ≡ name ++ 32 ∷ value
  pub item : IsItemValue i name value

-- *(SP item) ")" CRLF
abbrev pub IsMore : List Item → List ℕ → Type 0
IsMore [] t = t ≡ 41 ∷ crlf
IsMore (i ∷ is) t = (x y : List ℕ) × (t ≡ 32 ∷ x ++ y) × IsItem i x × IsMore is y

-- item *(SP item) ")" CRLF
abbrev pub IsItems : List Item → List ℕ → Type 0
IsItems [] t = ⊥
IsItems (i ∷ is) t = Then (IsItem i) (IsMore is) t

-- ---- what they tell

abbrev pub add_name : List (List ℕ) → List ℕ → List (List ℕ)
add_name ns n = if bytes_eq n (codes "\\recent") then ns else insert_key (slice_cmp nat_cmp) ns n

abbrev pub kept_from : List (List ℕ) → List (List ℕ) → List (List ℕ)
kept_from so_far [] = so_far
kept_from so_far (n ∷ ns) = kept_from (add_name so_far (map lower n)) ns

-- names in kept form: in lower case, sorted by octets, each once, `\recent` left out
abbrev pub kept : List (List ℕ) → List (List ℕ)
kept ns = kept_from [] ns

-- the octets that are kept of a header, and of a message
abbrev pub header_limit : ℕ
header_limit = 32768

abbrev pub body_limit : ℕ
body_limit = 50000000

-- an item takes the place of an earlier one of its name; other items are passed over
abbrev pub told : FetchItems → Item → FetchItems
told items (Uid n) = record items { uid = Some n }
told items (Flags ns) = record items { flags = Some (kept ns) }
told items (ModSeq n) = record items { modseq = Some n }
told items (Date seconds) = record items { date = Some seconds }
told items (Size n) = record items { size = Some n }
told items (Header s) = record items { header = Some (take header_limit s) }
told items (Body s) = record items { body = Some (take body_limit s) }
told items Other = items

abbrev pub told_from : FetchItems → List Item → FetchItems
told_from items [] = items
told_from items (i ∷ is) = told_from (told items i) is

abbrev pub no_items : FetchItems
no_items = record { uid = None; flags = None; modseq = None; date = None; size = None; header = None; body = None }

abbrev pub items_of : List Item → FetchItems
items_of is = told_from no_items is
