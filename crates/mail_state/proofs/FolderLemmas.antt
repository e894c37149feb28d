-- Mailboxes as mail changes: one row a folder, and no number comes back that is gone.
use Rattle.std.proofs.Common.{◌≡◌, ◌≢◌, ℕ, ◌<◌, ◌≤◌, List, [], ◌∷◌, Bool, true, false, cond, nat_eq, map, refl, sym, ap, ◌∙◌, arith, nat_cmp, Option, Some, None, is_some, eqb-true}
use Rattle.std.specs.BTreeMap.{is_at}
use Rattle.std.specs.Option.{option_map}
use Rattle.std.proofs.lemmas.Grind.{common_steps}
use Rattle.change_list.specs.Advance.{row_at, AreRows}
use Rattle.served_maps.specs.Past.{served, AreFresh}
use Rattle.told_folder.specs.Keyed.{Ascends, AllAbove}
use Rattle.told_folder.specs.Folders.{folder_number, folder_in, held_in}
use Rattle.told_folder.specs.declared.message.Folder.{Folder}
use Rattle.told_folder.specs.declared.message.NumberedFolder.{NumberedFolder}
use Rattle.told_mail.specs.Mail.{Mail, IsMail, IsNextMail, AllBelow}
use Rattle.mail_maps.specs.declared.row.MailboxRow.{MailboxRow}
use Rattle.mail_maps.specs.Rows.{Rows}
use Rattle.mail_maps.specs.Mailboxes.{folders_of, mailbox_row}
use Rattle.mail_maps.specs.Serve.{ServedMailbox, mailbox_of}
use Rattle.mail_rows.specs.NumberedRows.{NumberedRows}
use Rattle.mail_rows.proofs.RowLemmas.{above_is_not}
use Rattle.mail_state.specs.History.{MailHistory, served_mailboxes}
use Rattle.mail_state.specs.Sound.{IsSound}
use Rattle.mail_state.proofs.EmailLemmas.{never_there}
use Rattle.mail_state.proofs.ThreadLemmas.{some_is}

key_test : (q k : ℕ) → is_at (nat_cmp q) k ≡ nat_eq k q
key_test q k = grind (arith, common_steps)

module _ (fs : List Folder) (rows : Rows) where
  abbrev boxes : List NumberedFolder → List (ℕ × MailboxRow)
  boxes hs = map {B = ℕ × MailboxRow} (λ (f : Folder). (f.number, mailbox_row fs rows f)) (folders_of hs)

  boxes_have : (hs : List NumberedFolder) (q : ℕ) → is_some (row_at (served mailbox_of (boxes hs)) q) ≡ is_some (folder_in hs q)
  boxes_have [] q = refl
  boxes_have (h ∷ hs) q =
      ap (λ (b : Bool). is_some (cond b (Some (mailbox_of (mailbox_row fs rows h.folder))) (row_at (served mailbox_of (boxes hs)) q))) (key_test q h.folder.number)
      ∙ elim (nat_eq h.folder.number q) as (λ (b : Bool). is_some (cond b (Some (mailbox_of (mailbox_row fs rows h.folder))) (row_at (served mailbox_of (boxes hs)) q))
      ≡ is_some (option_map (λ (x : NumberedFolder). x.folder) (cond b (Some h) (held_in hs q)))) [
        | true ↦ refl
        | false ↦ boxes_have hs q
      ]

  no_box : (k : ℕ) (hs : List NumberedFolder) → AllAbove folder_number k hs → row_at (served mailbox_of (boxes hs)) k ≡ None
  no_box k [] a = refl
  no_box k (h ∷ hs) a =
      ap (λ (b : Bool). cond b (Some (mailbox_of (mailbox_row fs rows h.folder))) (row_at (served mailbox_of (boxes hs)) k)) (above_is_not k h.folder.number a.0) ∙ no_box k hs a.1

  box_rows : (hs : List NumberedFolder) → Ascends folder_number hs → AreRows (served mailbox_of (boxes hs))
  box_rows [] a = tt
  box_rows (h ∷ hs) a = (no_box h.folder.number hs a.0, box_rows hs a.1)

-- a number has a Mailbox where it has a folder
pub mailboxes_have : (m : Mail) (rows : Rows) (q : ℕ) → is_some (row_at (served_mailboxes m rows) q) ≡ is_some (folder_in m.folders q)
mailboxes_have m rows q = boxes_have (folders_of m.folders) rows m.folders q

-- each folder has one row
pub mailbox_rows : (m : Mail) (rows : Rows) → IsMail m → AreRows (served_mailboxes m rows)
mailbox_rows m rows is = box_rows (folders_of m.folders) rows m.folders is.numbers

-- ---- folders are below their counter

-- a number that has a folder is below the folder counter
pub folder_below : (next : ℕ) (hs : List NumberedFolder) (q : ℕ) → AllBelow next hs → is_some (folder_in hs q) ≡ true → q < next
folder_below next [] q below some = absurd (let f : false ≡ true = some in cc)
folder_below next (h ∷ hs) q below some =
    elim (nat_eq h.folder.number q) as (λ (b : Bool). nat_eq h.folder.number q ≡ b → is_some (option_map (λ (x : NumberedFolder). x.folder) (cond b (Some h) (held_in hs q))) ≡ true
    → q < next) [
      | true ↦ λ same e. let k : h.folder.number ≡ q = eqb-true h.folder.number q same in let l = below.0 in omega (arith, k, l)
      | false ↦ λ other e. folder_below next hs q below.1 e
    ] refl some

-- an advance brings back no Mailbox that is gone
pub mailboxes_are_fresh : (h : MailHistory) (m : Mail) (n : NumberedRows) → IsSound h → IsNextMail h.mail m → AreFresh h.mailboxes (served_mailboxes m n.rows)
mailboxes_are_fresh h m n sound next q place gone comes =
    let old : is_some (folder_in h.mail.folders q) ≡ false =
    sym (mailboxes_have h.mail h.numbered.rows q) ∙ ap (λ (rows : List (ℕ × ServedMailbox)). is_some (row_at rows q)) (sym sound.mailboxes_now) ∙ ap is_some gone in
    let new : is_some (folder_in m.folders q) ≡ true = sym (mailboxes_have m n.rows q) ∙ some_is (row_at (served_mailboxes m n.rows) q) comes in
    never_there h.mailboxes h.mail.next_folder q place sound.mailboxes_below (over (folder_in h.mail.folders q) (folder_in m.folders q) refl refl old new)
  where
    over : (o k : Option Folder) → folder_in h.mail.folders q ≡ o → folder_in m.folders q ≡ k → is_some o ≡ false → is_some k ≡ true → h.mail.next_folder ≤ q
    over (Some f) k e g a b = absurd (let z : true ≡ false = a in cc)
    over None None e g a b = absurd (let z : false ≡ true = b in cc)
    over None (Some f) e g a b = next.new_folders q f g e
