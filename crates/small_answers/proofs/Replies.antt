-- Replies that are honest and leave the small store's mail, in the folder that is selected.
use Rattle.std.proofs.Common.{◌≡◌, ℕ, [], Option, Some, None, refl, ap, ◌∙◌}
use Rattle.imap_types.specs.declared.command.Command.{Command}
use Rattle.honest_store.specs.StoreMail.{StoreMessage, StoreFolder, StoreMail, folder_numbered, message_numbered}
use Rattle.honest_store.specs.Others.{NoStep}
use Rattle.honest_store.specs.TrueResponses.{messages_of_folder}
use Rattle.honest_store.specs.Sessions.{StoreSession}
use Rattle.honest_store.specs.Honest.{Honest}
use Rattle.small_answers.specs.Answers.{Reply, ok_answer, ok_reply, reply_with, reply_in}
use Rattle.small_answers.specs.SmallMail.{IsSmallMail}

-- of a reply: it is honest, and the mail after it is the small store's
pub record IsGoodReply (s : StoreSession) (c : Command) (r : Reply) : Type 0 where
  pub honest : Honest NoStep s c (ok_answer r) r.session
  pub small : IsSmallMail r.session.mail

-- a session with this mail, in which this folder is selected
abbrev pub on : StoreMail → ℕ → StoreSession
on mail n = record { mail = mail; selected = Some n }

-- ---- by the folder that is selected and its message

-- what the session finds under a UID
abbrev pub seen_message : StoreMail → ℕ → ℕ → Option StoreMessage
seen_message mail n u = message_numbered (messages_of_folder (folder_numbered mail.folders n)) u

pub sees : (mail : StoreMail) (n u : ℕ) (f : StoreFolder) (o : Option StoreMessage) → folder_numbered mail.folders n ≡ Some f → message_numbered f.messages u ≡ o
    → seen_message mail n u ≡ o
sees mail n u f o there e = ap (λ (q : Option StoreFolder). message_numbered (messages_of_folder q) u) there ∙ e

pub sees_nothing : (mail : StoreMail) (n u : ℕ) → folder_numbered mail.folders n ≡ None → seen_message mail n u ≡ None
sees_nothing mail n u e = ap (λ (q : Option StoreFolder). message_numbered (messages_of_folder q) u) e

module _ (mail : StoreMail) (n u : ℕ) (c : Command) (reply : StoreFolder → Option StoreMessage → Reply)
    (nothing : seen_message mail n u ≡ None → IsGoodReply (on mail n) c (reply_with (on mail n) []))
    (no_message : (f : StoreFolder) → seen_message mail n u ≡ None → IsGoodReply (on mail n) c (reply f None))
    (message : (f : StoreFolder) (m : StoreMessage) → folder_numbered mail.folders n ≡ Some f → message_numbered f.messages u ≡ Some m
    → IsGoodReply (on mail n) c (reply f (Some m))) where
  in_folder : (f : StoreFolder) → folder_numbered mail.folders n ≡ Some f → (o : Option StoreMessage) → message_numbered f.messages u ≡ o
      → IsGoodReply (on mail n) c (reply f o)
  in_folder f there None e = no_message f (sees mail n u f None there e)
  in_folder f there (Some m) e = message f m there e

  by_folder : (q : Option StoreFolder) → folder_numbered mail.folders n ≡ q → IsGoodReply (on mail n) c (reply_in (on mail n) q (λ f. reply f (message_numbered f.messages u)))
  by_folder None e = nothing (sees_nothing mail n u e)
  by_folder (Some f) e = in_folder f e (message_numbered f.messages u) refl

  pub good_by_message : IsGoodReply (on mail n) c (reply_in (on mail n) (folder_numbered mail.folders n) (λ f. reply f (message_numbered f.messages u)))
  good_by_message = by_folder (folder_numbered mail.folders n) refl

-- the small store's OK to the command is honest, and leaves its mail
abbrev pub IsOkGood : StoreSession → Command → Type 0
IsOkGood s c = IsGoodReply s c (ok_reply s c)
