-- What items make of the tables of mail, where they are right.
use Rattle.std.specs.Prelude.{◌≡◌, ◌⊎◌, ◌+◌, ◌<◌, ◌≤◌, ℕ, List, [], ◌∷◌, max, nat_eq, IsSome, Option, Some, None}
use Rattle.std.specs.Map.{update}
use Rattle.told_folder.specs.declared.message.Folder.{Folder}
use Rattle.told_folder.specs.declared.message.Message.{Message}
use Rattle.mail_batches.specs.Rules.{AreFlags, IsRightFolder, IsRightMessage}
use Rattle.mail_batches.specs.Tables.{Tables}
use Rattle.mail_batches.specs.declared.placed.Placed.{Placed}
use Rattle.mail_batches.specs.declared.item.Item.{Item}
use Rattle.mail_batches.specs.declared.item.Item.TheVariants.{MessageGone, FolderGone, FolderPut, MessagePut, MessageSet}

-- ---- one item

abbrev pub without_message : Tables → ℕ → Tables
without_message t mark = record t { messages = update nat_eq t.messages mark None }

abbrev pub without_folder : Tables → ℕ → Tables
without_folder t number = record t { folders = update nat_eq t.folders number None }

abbrev pub with_folder : Tables → Folder → Tables
with_folder t f = record t { folders = update nat_eq t.folders f.number (Some f); next_folder = max t.next_folder (f.number + 1) }

abbrev pub with_message : Tables → ℕ → Message → Tables
with_message t folder x = record t { messages = update nat_eq t.messages x.mark (Some (record { folder = folder; message = x })); next_mark = x.mark + 1 }

-- the message stands there now, and has these flags
abbrev pub moved : Placed → ℕ → ℕ → List (List ℕ) → Placed
moved p folder uid flags = record { folder = folder; message = record p.message { uid = uid; flags = flags } }

pub record Sets (t : Tables) (mark folder uid : ℕ) (flags : List (List ℕ)) (now : Tables) : Type 0 where
  pub was : Placed
  pub there : t.messages mark ≡ Some was
  pub set : now ≡ record t { messages = update nat_eq t.messages mark (Some (moved was folder uid flags)) }

-- What is gone or set is there. A folder that is put is there, or has a number above all earlier ones; a message that is put has a
-- mark above all earlier ones. No message goes with its folder.
abbrev pub Makes : Tables → Item → Tables → Type 0
Makes t (MessageGone mark) now = IsSome (t.messages mark) × (now ≡ without_message t mark)
Makes t (FolderGone number) now = IsSome (t.folders number) × (now ≡ without_folder t number)
Makes t (FolderPut f) now = IsRightFolder f × (IsSome (t.folders f.number) ⊎ (t.next_folder ≤ f.number)) × (now ≡ with_folder t f)
Makes t (MessagePut folder x) now = IsRightMessage x × (t.next_mark ≤ x.mark) × (now ≡ with_message t folder x)
Makes t (MessageSet mark folder uid flags) now = AreFlags flags × (0 < uid) × Sets t mark folder uid flags now

-- ---- the order of items

-- the place of its kind among the kinds
abbrev pub rank : Item → ℕ
rank (MessageGone mark) = 0
rank (FolderGone number) = 1
rank (FolderPut f) = 2
rank (MessagePut folder x) = 3
rank (MessageSet mark folder uid flags) = 4

-- the mark of a message, the number of a folder
abbrev pub number_of : Item → ℕ
number_of (MessageGone mark) = mark
number_of (FolderGone number) = number
number_of (FolderPut f) = f.number
number_of (MessagePut folder x) = x.mark
number_of (MessageSet mark folder uid flags) = mark

-- by kind, and then by ascending number
abbrev pub ComesBefore : Item → Item → Type 0
ComesBefore i j = (rank i < rank j) ⊎ ((rank i ≡ rank j) × (number_of i < number_of j))

abbrev pub MayFollow : Option Item → Item → Type 0
MayFollow None i = Unit {0}
MayFollow (Some last) i = ComesBefore last i

-- ---- items

-- after the last item, these lead from the tables to those
abbrev pub Lead : Option Item → Tables → List Item → Tables → Type 0
Lead last t [] now = now ≡ t
Lead last t (i ∷ is) now = MayFollow last i × ((mid : Tables) × Makes t i mid × Lead (Some i) mid is now)
