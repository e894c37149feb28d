-- What reading the items of a batch gives.
use Rattle.std.specs.Prelude.{◌≡◌, ◌≢◌, ◌++◌, ℕ, List, [], ◌∷◌, length, Option, Some, None, Result, Ok, Err}
use Rattle.std.specs.List.{flat_map, AllByRecursion}
use Rattle.mail_batches.specs.Batches.{IsRight}
use Rattle.mail_batches.specs.Items.{Fits, item_text}
use Rattle.mail_batches.specs.Steps.{Lead}
use Rattle.mail_batches.specs.Tables.{Tables}
use Rattle.mail_batches.specs.declared.item.Item.{Item}
use Rattle.mail_batches.specs.declared.batch_reading.BatchError.{BatchError}
use Rattle.mail_batches.specs.declared.batch_reading.BatchError.TheVariants.{Memory, Wrong}

-- the octets spell items that lead from the tables to those
pub record TakesItems (t : Tables) (octets : List ℕ) (now : Tables) : Type 0 where
  pub items : List Item
  pub fit : AllByRecursion Fits items
  pub spelled : octets ≡ flat_map item_text items
  pub lead : Lead None t items now

abbrev pub last_item : List Item → Option Item
last_item [] = None
last_item (i ∷ []) = Some i
last_item (i ∷ j ∷ is) = last_item (j ∷ is)

-- these items are right, and none is at this octet
pub record StopsAt (t : Tables) (octets : List ℕ) (at : ℕ) : Type 0 where
  pub items : List Item
  pub fit : AllByRecursion Fits items
  pub rest : List ℕ
  pub front : octets ≡ flat_map item_text items ++ rest
  pub some : rest ≢ []
  pub mid : Tables
  pub lead : Lead None t items mid
  pub wrong : IsRight (last_item items) mid rest → ⊥
  pub place : at ≡ length (flat_map item_text items)

abbrev pub ReadsItems : Tables → List ℕ → Tables → Result Unit BatchError → Type 0
ReadsItems t octets now (Ok x) = TakesItems t octets now
ReadsItems t octets now (Err Memory) = Unit {0}
ReadsItems t octets now (Err (Wrong at)) = StopsAt t octets at
