-- Reading an item from left to right: the item and the octets after it, where one stands there.
use Rattle.std.specs.Prelude.{ℕ, zero, suc, List, [], ◌∷◌, ◌++◌, length, take, drop, nat_lt, if◌then◌else◌, ◌==◌, Option, Some, None}
use Rattle.std.specs.Int.{Width, w32, w64, byte_len, cast_signed, from_be_bytes}
use Rattle.told_folder.specs.declared.message.Folder.{Folder}
use Rattle.mail_batches.specs.declared.item.Item.{Item}
use Rattle.mail_batches.specs.declared.item.Item.TheVariants.{MessageGone, FolderGone, FolderPut, MessagePut, MessageSet}

infixl 10 ◌>>=◌
abbrev pub ◌>>=◌ : {A B : Type 0} → Option A → (A → Option B) → Option B
None >>= f = None
(Some x) >>= f = f x

abbrev pub number_at : Width → List ℕ → Option (ℕ × List ℕ)
number_at w bytes = if nat_lt (length bytes) (byte_len w) then None else Some (from_be_bytes w (take (byte_len w) bytes), drop (byte_len w) bytes)

unfoldable pub text_at : List ℕ → Option (List ℕ × List ℕ)
text_at bytes = do
  n ← number_at w64 bytes
  if nat_lt (length n.1) n.0 then None else Some (take n.0 n.1, drop n.0 n.1)

unfoldable pub some_texts_at : ℕ → List ℕ → Option (List (List ℕ) × List ℕ)
some_texts_at zero bytes = Some ([], bytes)
some_texts_at (suc n) bytes = do
  first ← text_at bytes
  others ← some_texts_at n first.1
  Some (first.0 ∷ others.0, others.1)

unfoldable pub texts_at : List ℕ → Option (List (List ℕ) × List ℕ)
texts_at bytes = do
  n ← number_at w64 bytes
  some_texts_at n.0 n.1

-- 0 for none
abbrev pub some_if : ℕ → Option ℕ
some_if d = if d == 0 then None else Some d

unfoldable pub optional_at : List ℕ → Option (Option ℕ × List ℕ)
optional_at [] = None
optional_at (d ∷ rest) = Some (some_if d, rest)

unfoldable pub folder_at : List ℕ → Option (Folder × List ℕ)
folder_at bytes = do
  number ← number_at w64 bytes
  name ← text_at number.1
  delimiter ← optional_at name.1
  attributes ← texts_at delimiter.1
  validity ← number_at w32 attributes.1
  modseq ← number_at w64 validity.1
  next ← number_at w64 modseq.1
  Some (record { number = number.0; name = name.0; delimiter = delimiter.0; attributes = attributes.0; validity = validity.0; modseq = modseq.0; next = next.0 }, next.1)

pub record SetFields : Type 0 where
  pub mark : ℕ
  pub folder : ℕ
  pub uid : ℕ
  pub flags : List (List ℕ)

unfoldable pub set_at : List ℕ → Option (SetFields × List ℕ)
set_at bytes = do
  mark ← number_at w64 bytes
  folder ← number_at w64 mark.1
  uid ← number_at w32 folder.1
  flags ← texts_at uid.1
  Some (record { mark = mark.0; folder = folder.0; uid = uid.0; flags = flags.0 }, flags.1)

unfoldable pub put_at : List ℕ → Option (Item × List ℕ)
put_at bytes = do
  place ← set_at bytes
  date ← number_at w64 place.1
  size ← number_at w64 date.1
  header ← text_at size.1
  Some (
    MessagePut place.0.folder (record {
      uid = place.0.uid;
      mark = place.0.mark;
      flags = place.0.flags;
      date = cast_signed w64 date.0;
      size = size.0;
      header = header.0;
    }),
    header.1,
  )

unfoldable pub folder_item_at : List ℕ → Option (Item × List ℕ)
folder_item_at bytes = do
  f ← folder_at bytes
  Some (FolderPut f.0, f.1)

unfoldable pub set_item_at : List ℕ → Option (Item × List ℕ)
set_item_at bytes = do
  s ← set_at bytes
  Some (MessageSet s.0.mark s.0.folder s.0.uid s.0.flags, s.1)

unfoldable pub message_gone_at : List ℕ → Option (Item × List ℕ)
message_gone_at bytes = do
  mark ← number_at w64 bytes
  Some (MessageGone mark.0, mark.1)

unfoldable pub folder_gone_at : List ℕ → Option (Item × List ℕ)
folder_gone_at bytes = do
  number ← number_at w64 bytes
  Some (FolderGone number.0, number.1)

-- by the octet that an item begins with
abbrev pub item_by : ℕ → List ℕ → Option (Item × List ℕ)
item_by tag bytes =
    if tag == 1 then folder_item_at bytes
    else (if tag == 2 then folder_gone_at bytes
    else (if tag == 3 then put_at bytes
    else (if tag == 4 then set_item_at bytes
    else (if tag == 5 then message_gone_at bytes
    else None))))

abbrev pub item_at : List ℕ → Option (Item × List ℕ)
item_at [] = None
item_at (tag ∷ bytes) = item_by tag bytes

-- with these texts before those that are read
abbrev pub with_texts : List (List ℕ) → Option (List (List ℕ) × List ℕ) → Option (List (List ℕ) × List ℕ)
with_texts before None = None
with_texts before (Some p) = Some (before ++ p.0, p.1)
