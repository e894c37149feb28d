-- Mail as two tables: folders by number, and messages by mark wherever they stand. Between the items of a batch the tables
-- needn't be those of any mail: two folders can have one name there, and a message can stand in a folder that is gone.
use Rattle.std.specs.Prelude.{◌≡◌, ◌↔◌, ℕ, Option, Some, None}
use Rattle.told_folder.specs.declared.message.Folder.{Folder}
use Rattle.told_mail.specs.Mail.{Mail, IsMail, folder_in, message_in}
use Rattle.mail_batches.specs.declared.placed.Placed.{Placed}

pub record Tables : Type 0 where
  pub folders : ℕ → Option Folder
  pub messages : ℕ → Option Placed
  pub next_mark : ℕ
  pub next_folder : ℕ

-- the message of the mark stands in that folder, under its UID
pub record StandsAs (m : Mail) (mark : ℕ) (p : Placed) : Type 0 where
  pub there : message_in m.folders p.folder p.message.uid ≡ Some p.message
  pub marked : p.message.mark ≡ mark

-- the tables are those of the mail, which has no two folders of one name, and each UID once in a folder
pub record AreTablesOf (m : Mail) (t : Tables) : Type 0 where
  pub is_mail : IsMail m
  pub next_mark : t.next_mark ≡ m.next_mark
  pub next_folder : t.next_folder ≡ m.next_folder
  pub folders : (n : ℕ) → t.folders n ≡ folder_in m.folders n
  pub messages : (mark : ℕ) (p : Placed) → (t.messages mark ≡ Some p) ↔ StandsAs m mark p

-- those of no mail
abbrev pub no_tables : Tables
no_tables = record { folders = λ _. None; messages = λ _. None; next_mark = 1; next_folder = 1 }
