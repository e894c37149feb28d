-- How the items between two mails are found: marks are noted in sets, and then items are added, at most one for each element of a list.
use Rattle.std.specs.Prelude.{◌≡◌, ◌≢◌, ◌↔◌, ◌⊎◌, ◌++◌, ℕ, Bool, true, List, [], ◌∷◌, Option, Some, None, IsSome}
use Rattle.told_folder.specs.declared.message.Message.{Message}
use Rattle.told_folder.specs.declared.message.NumberedFolder.{NumberedFolder}
use Rattle.told_mail.specs.Mail.{Mail, folder_in, folder_number}
use Rattle.mail_batches.specs.Between.{HasMark}
use Rattle.mail_batches.specs.Steps.{moved}
use Rattle.mail_batches.specs.Tables.{StandsAs}
use Rattle.mail_batches.specs.declared.placed.Placed.{Placed}
use Rattle.mail_batches.specs.declared.item.Item.{Item}
use Rattle.mail_batches.specs.declared.item.Item.TheVariants.{MessageGone, FolderGone, FolderPut, MessagePut, MessageSet}

-- ---- marks

abbrev pub AnyOf : {X : Type 0} → (X → Type 0) → List X → Type 0
AnyOf P [] = ⊥
AnyOf P (x ∷ xs) = P x ⊎ AnyOf P xs

-- the new set has what the old one had, and these
abbrev pub Notes : (ℕ → Bool) → (ℕ → Bool) → (ℕ → Type 0) → Type 0
Notes old new P = (q : ℕ) → (new q ≡ true) ↔ ((old q ≡ true) ⊎ P q)

-- the message has the mark, and the other mail hasn't
abbrev pub IsLost : Mail → ℕ → Message → Type 0
IsLost other q x = (x.mark ≡ q) × (HasMark other q → ⊥)

abbrev pub HasLost : Mail → ℕ → NumberedFolder → Type 0
HasLost other q h = AnyOf (IsLost other q) h.messages

-- the mail has the message's mark, at another place or with other flags
pub record IsOther (m : Mail) (folder : ℕ) (x : Message) : Type 0 where
  pub was : Placed
  pub stood : StandsAs m x.mark was
  pub differs : moved was folder x.uid x.flags ≢ was

abbrev pub IsOtherAt : Mail → ℕ → ℕ → Message → Type 0
IsOtherAt m folder q x = (x.mark ≡ q) × IsOther m folder x

abbrev pub HasOther : Mail → ℕ → NumberedFolder → Type 0
HasOther m q h = AnyOf (IsOtherAt m h.folder.number q) h.messages

-- ---- items

abbrev pub listed : Option Item → List Item
listed None = []
listed (Some i) = i ∷ []

-- the items that come of the elements, in turn
abbrev pub Parts : {X : Type 0} → (X → Option Item → Type 0) → List X → List Item → Type 0
Parts R [] items = items ≡ []
Parts R (x ∷ xs) items = (o : Option Item) × R x o × ((rest : List Item) × (items ≡ listed o ++ rest) × Parts R xs rest)

-- these are added
abbrev pub Adds : {X : Type 0} → (X → Option Item → Type 0) → List X → List Item → List Item → Type 0
Adds R xs old new = (block : List Item) × (new ≡ old ++ block) × Parts R xs block

abbrev pub GoneMessage : ℕ → Option Item → Type 0
GoneMessage k o = o ≡ Some (MessageGone k)

abbrev pub GoneFolder : Mail → NumberedFolder → Option Item → Type 0
GoneFolder n h None = IsSome (folder_in n.folders (folder_number h))
GoneFolder n h (Some i) = (i ≡ FolderGone (folder_number h)) × (folder_in n.folders (folder_number h) ≡ None)

abbrev pub PutFolder : Mail → NumberedFolder → Option Item → Type 0
PutFolder m h None = folder_in m.folders (folder_number h) ≡ Some h.folder
PutFolder m h (Some i) = (i ≡ FolderPut h.folder) × (folder_in m.folders (folder_number h) ≢ Some h.folder)

-- the mail has a message of the mark, of which this is the item
abbrev pub OfMark : (ℕ → Placed → Item) → Mail → ℕ → Option Item → Type 0
OfMark item n k None = HasMark n k → ⊥
OfMark item n k (Some i) = (p : Placed) × StandsAs n k p × (i ≡ item k p)

abbrev pub new_item : ℕ → Placed → Item
new_item k p = MessagePut p.folder p.message

abbrev pub set_item : ℕ → Placed → Item
set_item k p = MessageSet k p.folder p.message.uid p.message.flags
