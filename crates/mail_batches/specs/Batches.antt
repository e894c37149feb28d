-- Batches, and the mail to which they lead.
use Rattle.std.specs.Prelude.{◌≡◌, ◌≢◌, ◌<◌, ◌^◌, ◌++◌, ℕ, List, [], ◌∷◌, Option, None}
use Rattle.std.specs.List.{flat_map, AllByRecursion}
use Rattle.told_mail.specs.Mail.{Mail}
use Rattle.mail_batches.specs.Items.{Fits, item_text, long}
use Rattle.mail_batches.specs.Steps.{Lead, MayFollow, Makes}
use Rattle.mail_batches.specs.Tables.{Tables, AreTablesOf}
use Rattle.mail_batches.specs.declared.item.Item.{Item}

-- the version that is written
abbrev pub written : ℕ
written = 1

-- the versions that are read
abbrev pub IsVersion : ℕ → Type 0
IsVersion octet = octet ≡ 1

-- the first batch sets the epoch
abbrev pub first_text : ℕ → ℕ → List ℕ
first_text version epoch = version ∷ 0 ∷ long epoch

-- each other one has items
abbrev pub batch_text : ℕ → List Item → List ℕ
batch_text version items = version ∷ 1 ∷ flat_map item_text items

-- an item stands at the front that is right after this last one, over these tables
pub record IsRight (last : Option Item) (now : Tables) (octets : List ℕ) : Type 0 where
  pub item : Item
  pub fits : Fits item
  pub more : List ℕ
  pub spelled : octets ≡ item_text item ++ more
  pub follows : MayFollow last item
  pub next : Tables
  pub makes : Makes now item next

pub record IsFirst (batch : List ℕ) (epoch : ℕ) : Type 0 where
  pub version : ℕ
  pub known : IsVersion version
  pub small : epoch < 2 ^ 64
  pub spelled : batch ≡ first_text version epoch

-- the batch leads from mail to mail
pub record IsBatch (m : Mail) (batch : List ℕ) (after : Mail) : Type 0 where
  pub version : ℕ
  pub known : IsVersion version
  pub items : List Item
  pub some : items ≢ []
  pub fit : AllByRecursion Fits items
  pub spelled : batch ≡ batch_text version items
  pub before : Tables
  pub laid : AreTablesOf m before
  pub now : Tables
  pub lead : Lead None before items now
  pub raised : AreTablesOf after now
