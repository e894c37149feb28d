-- How a change of the mail is spelled. Numbers stand with their highest octet first.
use Rattle.std.specs.Prelude.{◌≢◌, ◌<◌, ◌^◌, ◌++◌, ℕ, ℤ, List, [], ◌∷◌, length, unwrap_or, IfSome, FitsSigned, Option}
use Rattle.std.specs.Int.{w32, w64, cast_unsigned, to_be_bytes}
use Rattle.std.specs.List.{flat_map, AllByRecursion}
use Rattle.told_folder.specs.declared.message.Folder.{Folder}
use Rattle.told_folder.specs.declared.message.Message.{Message}
use Rattle.mail_batches.specs.declared.item.Item.{Item}
use Rattle.mail_batches.specs.declared.item.Item.TheVariants.{MessageGone, FolderGone, FolderPut, MessagePut, MessageSet}

-- ---- fields

abbrev pub half : ℕ → List ℕ
half n = to_be_bytes w32 n

abbrev pub long : ℕ → List ℕ
long n = to_be_bytes w64 n

abbrev pub signed : ℤ → List ℕ
signed n = to_be_bytes w64 (cast_unsigned w64 n)

abbrev pub text : List ℕ → List ℕ
text octets = long (length octets) ++ octets

abbrev pub texts : List (List ℕ) → List ℕ
texts ns = long (length ns) ++ flat_map text ns

-- 0 for none
abbrev pub optional : Option ℕ → List ℕ
optional o = unwrap_or o 0 ∷ []

-- ---- items

abbrev pub folder_text : Folder → List ℕ
folder_text f = long f.number ++ (text f.name ++ (optional f.delimiter ++ (texts f.attributes ++ (half f.validity ++ (long f.modseq ++ long f.next)))))

-- where a message stands, and its flags
abbrev pub set_text : ℕ → ℕ → ℕ → List (List ℕ) → List ℕ
set_text mark folder uid flags = long mark ++ (long folder ++ (half uid ++ texts flags))

abbrev pub put_text : ℕ → Message → List ℕ
put_text folder x = set_text x.mark folder x.uid x.flags ++ (signed x.date ++ (long x.size ++ text x.header))

abbrev pub item_text : Item → List ℕ
item_text (MessageGone mark) = 5 ∷ long mark
item_text (FolderGone number) = 2 ∷ long number
item_text (FolderPut f) = 1 ∷ folder_text f
item_text (MessagePut folder x) = 3 ∷ put_text folder x
item_text (MessageSet mark folder uid flags) = 4 ∷ set_text mark folder uid flags

-- ---- what has a spelling

abbrev pub FitsText : List ℕ → Type 0
FitsText octets = length octets < 2 ^ 64

pub record FitsTexts (ns : List (List ℕ)) : Type 0 where
  pub count : length ns < 2 ^ 64
  pub each : AllByRecursion FitsText ns

-- an octet other than 0
abbrev pub IsDelimiter : ℕ → Type 0
IsDelimiter d = (d ≢ 0) × (d < 256)

pub record FitsFolder (f : Folder) : Type 0 where
  pub number : f.number < 2 ^ 64
  pub name : FitsText f.name
  pub delimiter : IfSome f.delimiter IsDelimiter
  pub attributes : FitsTexts f.attributes
  pub validity : f.validity < 2 ^ 32
  pub modseq : f.modseq < 2 ^ 64
  pub next : f.next < 2 ^ 64

pub record FitsSet (mark folder uid : ℕ) (flags : List (List ℕ)) : Type 0 where
  pub mark_fits : mark < 2 ^ 64
  pub folder_fits : folder < 2 ^ 64
  pub uid_fits : uid < 2 ^ 32
  pub flags_fit : FitsTexts flags

pub record FitsPut (folder : ℕ) (x : Message) : Type 0 where
  pub place : FitsSet x.mark folder x.uid x.flags
  pub date : FitsSigned w64 x.date
  pub size : x.size < 2 ^ 64
  pub header : FitsText x.header

-- each number is below the end of its width, and each text has a length that is
abbrev pub Fits : Item → Type 0
Fits (MessageGone mark) = mark < 2 ^ 64
Fits (FolderGone number) = number < 2 ^ 64
Fits (FolderPut f) = FitsFolder f
Fits (MessagePut folder x) = FitsPut folder x
Fits (MessageSet mark folder uid flags) = FitsSet mark folder uid flags
