-- The one batch from one mail to another, of the fewest items.
use Rattle.std.specs.Prelude.{◌≡◌, ◌≢◌, ◌↔◌, ℕ, List, [], ◌∷◌, Some, None, IsSome}
use Rattle.std.specs.List.{Contains}
use Rattle.told_mail.specs.Mail.{Mail, folder_in}
use Rattle.mail_batches.specs.Batches.{batch_text, written}
use Rattle.mail_batches.specs.Steps.{ComesBefore, moved}
use Rattle.mail_batches.specs.Tables.{StandsAs}
use Rattle.mail_batches.specs.declared.placed.Placed.{Placed}
use Rattle.mail_batches.specs.declared.item.Item.{Item}
use Rattle.mail_batches.specs.declared.item.Item.TheVariants.{MessageGone, FolderGone, FolderPut, MessagePut, MessageSet}

-- the mail has a message of the mark
abbrev pub HasMark : Mail → ℕ → Type 0
HasMark m mark = (p : Placed) × StandsAs m mark p

-- one mail has the message at one place with some flags, the other at another place or with others
pub record IsSet (m n : Mail) (mark folder uid : ℕ) (flags : List (List ℕ)) : Type 0 where
  pub was : Placed
  pub before : StandsAs m mark was
  pub now : Placed
  pub after : StandsAs n mark now
  pub there : now ≡ record { folder = folder; message = record now.message { uid = uid; flags = flags } }
  pub other : moved was folder uid flags ≢ was

-- What differs: messages that are gone, folders that are gone, folders that are new or other, messages that are new, and messages that
-- stand elsewhere or have other flags.
abbrev pub Differs : Mail → Mail → Item → Type 0
Differs m n (MessageGone mark) = HasMark m mark × (HasMark n mark → ⊥)
Differs m n (FolderGone number) = IsSome (folder_in m.folders number) × (folder_in n.folders number ≡ None)
Differs m n (FolderPut f) = (folder_in n.folders f.number ≡ Some f) × (folder_in m.folders f.number ≢ Some f)
Differs m n (MessagePut folder x) = StandsAs n x.mark (record { folder = folder; message = x }) × (HasMark m x.mark → ⊥)
Differs m n (MessageSet mark folder uid flags) = IsSet m n mark folder uid flags

-- each item comes before those after it
abbrev pub AllAfter : Item → List Item → Type 0
AllAfter i [] = Unit {0}
AllAfter i (j ∷ js) = ComesBefore i j × AllAfter i js

abbrev pub AreInOrder : List Item → Type 0
AreInOrder [] = Unit {0}
AreInOrder (i ∷ is) = AllAfter i is × AreInOrder is

-- these items, in order, are what differs
pub record AreBetween (m n : Mail) (items : List Item) : Type 0 where
  pub ordered : AreInOrder items
  pub each : (i : Item) → Contains items i ↔ Differs m n i

-- the batch has an item for each difference, and no other
pub record IsBetween (m n : Mail) (batch : List ℕ) : Type 0 where
  pub items : List Item
  pub between : AreBetween m n items
  pub spelled : batch ≡ batch_text written items
