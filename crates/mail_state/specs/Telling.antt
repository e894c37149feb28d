-- What exchanges leave of messages: each stays what it was, or has a new mark. Its place stays, too, as long as no MOVE is told.
use Rattle.std.specs.Prelude.{◌≡◌, ◌⊎◌, ℕ, ◌≤◌, List, All, Some, fold}
use Rattle.imap_types.specs.declared.command.Command.{Command}
use Rattle.imap_types.specs.declared.command.Command.TheVariants as command
use Rattle.told_folder.specs.Folders.{uid_of, message_in}
use Rattle.told_folder.specs.Keyed.{with_key}
use Rattle.told_folder.specs.declared.exchange.Exchange.{Exchange}
use Rattle.told_folder.specs.declared.message.NumberedFolder.{NumberedFolder}
use Rattle.told_folder.specs.declared.message.Message.{Message}
use Rattle.told_mail.specs.Mail.{Mail, held_in}
use Rattle.told_changes.specs.Told.{told}
use Rattle.mail_maps.specs.declared.row.EmailRow.{EmailRow}
use Rattle.mail_state.specs.History.{MailHistory, Advances, first_history}

-- MOVE puts messages into another folder (RFC 9051 section 6.4.8)
abbrev pub IsMove : Command → Type 0
IsMove (command.Move uid name) = Unit {0}
IsMove _ = ⊥

-- of these exchanges none is a MOVE
abbrev pub NoneMoves : List Exchange → Type 0
NoneMoves xs = All (λ (x : Exchange). IsMove x.command → ⊥) xs

-- the same but for its flags
pub record IsSameMessage (a b : Message) : Type 0 where
  pub mark : b.mark ≡ a.mark
  pub header : b.header ≡ a.header
  pub date : b.date ≡ a.date
  pub size : b.size ≡ a.size

-- the message stood at the place, which is a folder's number and a UID, under this validity
pub record StoodThere (m : Mail) (place : ℕ × ℕ) (validity : ℕ) (x : Message) : Type 0 where
  pub held : NumberedFolder
  pub is_held : held_in m.folders place.0 ≡ Some held
  pub valid : validity ≡ held.folder.validity
  pub was : Message
  pub there : with_key uid_of place.1 held.messages ≡ Some was
  pub same : IsSameMessage was x

-- each message of m stood at its place before, or its mark was never given then
abbrev pub StaysOrIsNew : Mail → Mail → Type 0
StaysOrIsNew before m = (place : ℕ × ℕ) (h : NumberedFolder) (x : Message) → held_in m.folders place.0 ≡ Some h → with_key uid_of place.1 h.messages ≡ Some x
    → StoodThere before place h.folder.validity x ⊎ (before.next_mark ≤ x.mark)

-- histories of what exchanges told
pub data IsTold : MailHistory → Type 0 where
  Begins : (epoch : ℕ) → IsTold (first_history epoch)
  Goes : (h after : MailHistory) (xs : List Exchange) → IsTold h → Advances h (fold told h.mail xs) after → IsTold after

-- the message that stands at the Email's folder and UID has its mark, header, date and size
pub record HasItsMessage (hs : List NumberedFolder) (e : ℕ × EmailRow) : Type 0 where
  pub message : Message
  pub there : message_in hs e.1.folder e.1.uid ≡ Some message
  pub mark : e.1.mark ≡ message.mark
  pub header : e.1.header ≡ message.header
  pub date : e.1.received ≡ message.date
  pub size : e.1.size ≡ message.size
