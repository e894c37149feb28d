-- What OK gives to a MOVE, and that there is room for it.
use Rattle.std.proofs.Common.{◌≡◌, ◌∙◌, ◌==◌, ℕ, true, false, List, Option, Some, Result, sym, subst, eqb-true}
use Rattle.std.specs.Prelude.{IfOk}
use Rattle.std.specs.declared.alloc.AllocError.{AllocError}
use Rattle.std.proofs.lemmas.Bool.{false≢true}
use Rattle.std.proofs.lemmas.Result.{IfOk-weaker}
use Rattle.imap_types.specs.declared.command.Command.TheVariants as command
use Rattle.honest_store.specs.StoreMail.{StoreMessage, StoreFolder, StoreMail, folder_called, message_numbered}
use Rattle.honest_store.specs.MessageChanges.{folder_without}
use Rattle.honest_store.specs.Sessions.{StoreAnswer, StoreSession}
use Rattle.small_answers.specs.Answers.{move_reply, move_reply_to, ok_reply}
use Rattle.small_answers.specs.Causes.{RefusalCause}
use Rattle.small_answers.specs.Changes.{mail_without, next_modseq, selected_folder}
use Rattle.small_answers.specs.Limits.{is_last_change, is_last_message}
use Rattle.small_answers.specs.SmallMail.{IsSmallMail}
use Rattle.small_answers.proofs.MailKept.{put}
use Rattle.small_answers.proofs.Searches.{found_passes}
use Rattle.small_mail.specs.Places.{IsFolderAt, IsMessageAt}
use Rattle.small_store.specs.reading.Steps.{Gives, session_of}
use Rattle.small_store.proofs.Accepting.{move_room, move_room_there}
use Rattle.small_store.proofs.Landing.{landing_at, landing_called}
use Rattle.small_store.proofs.MachineReplies.{gives_in}

module _ (s : StoreSession) (small : IsSmallMail s.mail) (uid : ℕ) (name : List ℕ) (free : RefusalCause s (command.Move uid name) → ⊥) (source : ℕ) (f : StoreFolder)
    (at_f : IsFolderAt s.mail source f) (there : selected_folder s ≡ Some f) (at : ℕ) (m : StoreMessage) (at_m : IsMessageAt f at m) (held : message_numbered f.messages uid ≡ Some m)
    (target : ℕ) (t : StoreFolder) (at_t : IsFolderAt s.mail target t) (called : folder_called s.mail.folders name ≡ Some t) where
  same_uid : m.uid ≡ uid
  same_uid = eqb-true m.uid uid (found_passes (λ (x : StoreMessage). x.uid == uid) f.messages m held)

  room : is_last_change f ≡ true → ⊥
  room end = false≢true (sym (move_room s uid f there name free) ∙ end)

  abbrev left : StoreMail
  left = mail_without s.mail (Some f) m.uid

  abbrev landing : StoreFolder
  landing = put (folder_without f m.uid (next_modseq f)) t

  lands : folder_called left.folders name ≡ Some landing
  lands = landing_called s.mail small source f at_f at m at_m room name target t called at_t

  lands_at : IsFolderAt left target landing
  lands_at = landing_at s.mail small source f at_f at m at_m room name target t called at_t

  pub landing_room : (g : StoreFolder) → IsFolderAt left target g → is_last_message g ≡ false
  landing_room g at_g =
      move_room_there s uid f there name free g
      (subst (λ (u : ℕ). folder_called (mail_without s.mail (Some f) u).folders name ≡ Some g) same_uid (lands ∙ (sym lands_at ∙ at_g)))

  pub move_gives : (after : StoreSession) (result : Result StoreAnswer AllocError)
      → IfOk result (λ (a : StoreAnswer). (g h : StoreFolder) (n : StoreMessage) (selected : Option ℕ) → IsFolderAt s.mail source g → IsMessageAt g at n
      → IsFolderAt (mail_without s.mail (Some g) n.uid) target h
      → Gives (move_reply_to (session_of s.mail selected) (mail_without s.mail (Some g) n.uid) n (Some h)) a (session_of after.mail selected))
      → after.selected ≡ s.selected
      → IfOk result (λ (a : StoreAnswer). Gives (ok_reply s (command.Move uid name)) a after)
  move_gives after result moved kept =
      IfOk-weaker result
      (λ (a : StoreAnswer). (g h : StoreFolder) (n : StoreMessage) (selected : Option ℕ) → IsFolderAt s.mail source g → IsMessageAt g at n
      → IsFolderAt (mail_without s.mail (Some g) n.uid) target h
      → Gives (move_reply_to (session_of s.mail selected) (mail_without s.mail (Some g) n.uid) n (Some h)) a (session_of after.mail selected))
      (λ (a : StoreAnswer). Gives (ok_reply s (command.Move uid name)) a after)
      (λ a gives. gives_in s f there (λ (g : StoreFolder). move_reply s g name (message_numbered g.messages uid)) after a
      (subst (λ (o : Option StoreMessage). Gives (move_reply s f name o) a after) (sym held)
      (subst (λ (o : Option StoreFolder). Gives (move_reply_to s left m o) a after) (sym lands)
      (subst (λ (o : Option ℕ). Gives (move_reply_to s left m (Some landing)) a (session_of after.mail o)) (sym kept) (gives f landing m s.selected at_f at_m lands_at))))) moved
