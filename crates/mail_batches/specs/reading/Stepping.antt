-- What steps of the tables answer.
use Rattle.std.specs.Prelude.{◌≡◌, ◌++◌, ◌==◌, ◌&&◌, ◌||◌, ℕ, Bool, true, false, nat_lt, List, Option, Some, None}
use Rattle.std.specs.List.{flat_map, AllByRecursion}
use Rattle.mail_batches.specs.Batches.{IsRight}
use Rattle.mail_batches.specs.Reads.{last_item}
use Rattle.mail_batches.specs.Items.{Fits, item_text}
use Rattle.mail_batches.specs.Steps.{Lead, Makes, MayFollow, number_of, rank}
use Rattle.mail_batches.specs.Tables.{Tables}
use Rattle.mail_batches.specs.declared.item.Item.{Item}

-- it makes what the item makes, or the item isn't right
abbrev pub Steps : Tables → Item → Tables → Bool → Type 0
Steps t item now true = Makes t item now
Steps t item now false = (any : Tables) → Makes t item any → ⊥

-- ---- places of items

abbrev pub IsPlaceOf : ℕ × ℕ → Item → Type 0
IsPlaceOf p i = (p.0 ≡ rank i) × (p.1 ≡ number_of i)

abbrev pub IsLast : Option (ℕ × ℕ) → Option Item → Type 0
IsLast None None = Unit {0}
IsLast (Some p) (Some i) = IsPlaceOf p i
IsLast _ _ = ⊥

-- by kind, and then by number
abbrev pub may_follow : Option (ℕ × ℕ) → ℕ × ℕ → Bool
may_follow None p = true
may_follow (Some last) p = nat_lt last.0 p.0 || ((last.0 == p.0) && nat_lt last.1 p.1)

-- ---- one item

-- the item stands at the front and makes this of the tables
pub record TakesItem (t : Tables) (last : Option (ℕ × ℕ)) (octets : List ℕ) (now : Tables) (place : ℕ × ℕ) (rest : List ℕ) : Type 0 where
  pub item : Item
  pub is_place : IsPlaceOf place item
  pub fits : Fits item
  pub spelled : octets ≡ item_text item ++ rest
  pub follows : (o : Option Item) → IsLast last o → MayFollow o item
  pub makes : Makes t item now

abbrev pub ReadsItem : {B : Type 0} → Tables → Option (ℕ × ℕ) → List ℕ → Tables → (B → ℕ × ℕ) → (B → List ℕ) → Option B → Type 0
ReadsItem t last octets now place rest (Some r) = TakesItem t last octets now (place r) (rest r)
ReadsItem t last octets now place rest None = (o : Option Item) → IsLast last o → IsRight o t octets → ⊥

-- ---- all items

-- what was read so far, where this is left
pub record ReadSoFar (t : Tables) (octets : List ℕ) (last : Option (ℕ × ℕ)) (now : Tables) (rest : List ℕ) : Type 0 where
  pub items : List Item
  pub fit : AllByRecursion Fits items
  pub front : octets ≡ flat_map item_text items ++ rest
  pub lead : Lead None t items now
  pub is_last : IsLast last (last_item items)
