-- Mailboxes ascend, as their folders do.
use Rattle.std.proofs.Common.{◌≡◌, ℕ, ◌<◌, List, [], ◌∷◌, map, nat_cmp, arith}
use Rattle.std.specs.declared.cmp.Ordering.TheVariants.{Less}
use Rattle.std.specs.Map.{keys_of}
use Rattle.std.specs.List.{AllByRecursion}
use Rattle.std.specs.List.Sorted.{IsStrictlySortedBy}
use Rattle.std.proofs.lemmas.Grind.{common_steps}
use Rattle.told_folder.specs.Keyed.{Ascends, AllAbove}
use Rattle.told_folder.specs.Folders.{folder_number}
use Rattle.told_folder.specs.declared.message.Folder.{Folder}
use Rattle.told_folder.specs.declared.message.NumberedFolder.{NumberedFolder}
use Rattle.mail_maps.specs.declared.row.MailboxRow.{MailboxRow}
use Rattle.mail_maps.specs.Mailboxes.{folders_of}

is_less : (x y : ℕ) → x < y → nat_cmp x y ≡ Less
is_less x y h = grind (arith, common_steps)

-- the rows that folders give by their numbers
abbrev pub by_number : (Folder → MailboxRow) → List NumberedFolder → List (ℕ × MailboxRow)
by_number F hs = map {B = ℕ × MailboxRow} (λ (f : Folder). (f.number, F f)) (folders_of hs)

all_less : (F : Folder → MailboxRow) (k : ℕ) (hs : List NumberedFolder) → AllAbove folder_number k hs → AllByRecursion (λ y. nat_cmp k y ≡ Less) (keys_of (by_number F hs))
all_less F k [] h = tt
all_less F k (x ∷ hs) h = (is_less k (folder_number x) h.0, all_less F k hs h.1)

-- where folders ascend by their numbers, the rows that they give do
pub sorted_by_number : (F : Folder → MailboxRow) (hs : List NumberedFolder) → Ascends folder_number hs → IsStrictlySortedBy nat_cmp (keys_of (by_number F hs))
unfolding IsStrictlySortedBy
sorted_by_number F [] h = tt
sorted_by_number F (x ∷ hs) h = (all_less F (folder_number x) hs h.0, sorted_by_number F hs h.1)
