-- What a state has, by the history that it stands for.
use Rattle.std.proofs.Common.{◌≡◌, ◌==◌, ◌||◌, ℕ, Bool, true, false, cond, List, [], ◌∷◌, map, nat_eq, is_some, Some, refl, ap, ◌∙◌}
use Rattle.std.specs.List.{list_any}
use Rattle.std.specs.Map.{keys_of}
use Rattle.std.specs.Option.{option_map}
use Rattle.told_folder.specs.declared.message.Folder.{Folder}
use Rattle.told_folder.specs.declared.message.NumberedFolder.{NumberedFolder}
use Rattle.told_mail.specs.Mail.{folder_in, held_in}
use Rattle.mail_maps.specs.declared.row.MailboxRow.{MailboxRow}
use Rattle.mail_maps.specs.Rows.{Rows}
use Rattle.mail_maps.specs.Mailboxes.{folders_of, mailbox_row}
use Rattle.mail_state.specs.History.{MailHistory}
use Rattle.mail_state.specs.State.{IsStateOf, ServedRows, ServedState}

abbrev boxes : List Folder → Rows → List NumberedFolder → List (ℕ × MailboxRow)
boxes fs rows hs = map {B = ℕ × MailboxRow} (λ (f : Folder). (f.number, mailbox_row fs rows f)) (folders_of hs)

boxes_have : (fs : List Folder) (rows : Rows) (hs : List NumberedFolder) (q : ℕ) → list_any (λ n. n == q) (keys_of (boxes fs rows hs)) ≡ is_some (folder_in hs q)
boxes_have fs rows [] q = refl
boxes_have fs rows (h ∷ hs) q =
    elim (nat_eq h.folder.number q) as (λ (b : Bool). (b || list_any (λ n. n == q) (keys_of (boxes fs rows hs)))
    ≡ is_some (option_map (λ (x : NumberedFolder). x.folder) (cond b (Some h) (held_in hs q)))) [
      | true ↦ refl
      | false ↦ boxes_have fs rows hs q
    ]

-- a Mailbox is served where its folder is there
pub served_has : (h : MailHistory) (s : ServedState) (q : ℕ) → IsStateOf h s → list_any (λ n. n == q) (keys_of s.rows.mailboxes) ≡ is_some (folder_in h.mail.folders q)
served_has h s q is =
    ap (λ (r : ServedRows). list_any (λ n. n == q) (keys_of r.mailboxes)) is.rows ∙ boxes_have (folders_of h.mail.folders) h.numbered.rows h.mail.folders q
