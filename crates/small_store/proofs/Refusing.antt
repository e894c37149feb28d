-- Whether there is a cause to refuse a command, from what was found and tested.
use Rattle.std.proofs.Common.{◌≡◌, ◌≢◌, ℕ, ◌==◌, Bool, true, false, List, Option, Some, None, inr, refl, sym, ap, ◌∙◌, subst, eqb-true, true≢false}
use Rattle.std.specs.Prelude.{MatchBool}
use Rattle.std.specs.List.{slice_get}
use Rattle.std.proofs.lemmas.Option.{none-some}
use Rattle.imap_types.specs.declared.command.Command.TheVariants as command
use Rattle.honest_store.specs.StoreMail.{StoreMessage, StoreFolder, folder_called, message_numbered}
use Rattle.honest_store.specs.MessageChanges.{folder_without}
use Rattle.honest_store.specs.Sessions.{StoreSession}
use Rattle.small_answers.specs.Changes.{mail_without, next_modseq, selected_folder}
use Rattle.small_answers.specs.Limits.{is_last_change, is_last_message}
use Rattle.small_answers.specs.Causes.{RefusalCause, IsAtEnd, NumberSpent}
use Rattle.small_answers.specs.SmallMail.{IsSmallMail}
use Rattle.small_answers.proofs.MailKept.{put}
use Rattle.small_mail.proofs.Found.{found_passes}
use Rattle.small_store.proofs.Causing.{free_move}
use Rattle.small_store.proofs.Landing.{landing_at, landing_called}
use Rattle.small_store.proofs.Seeing.{message_seen}

-- a test that says whether it is so
pub match_by : (b : Bool) (P : Type 0) → (b ≡ true → P) → (b ≡ false → P → ⊥) → MatchBool b P (P → ⊥)
match_by true P holds never = holds refl
match_by false P holds never = never refl

-- where it is not so
pub never_by : (b : Bool) (P : Type 0) → b ≡ false → MatchBool b P (P → ⊥) → P → ⊥
never_by b P fails m = subst (λ (x : Bool). MatchBool x P (P → ⊥)) fails m

at_end_of : (test : StoreFolder → Bool) (o : Option StoreFolder) (f : StoreFolder) → o ≡ Some f → IsAtEnd test o → test f ≡ true
at_end_of test o f there end = subst (IsAtEnd test) there end

pub at_end : (test : StoreFolder → Bool) (o : Option StoreFolder) (f : StoreFolder) → o ≡ Some f → test f ≡ true → IsAtEnd test o
at_end test o f there e = subst (IsAtEnd test) (sym there) e

not_at_end : (test : StoreFolder → Bool) (o : Option StoreFolder) (f : StoreFolder) → o ≡ Some f → test f ≡ false → IsAtEnd test o → ⊥
not_at_end test o f there e end = true≢false (sym (at_end_of test o f there end) ∙ e)

-- ---- MOVE

module _ (s : StoreSession) (uid : ℕ) (name : List ℕ) where
  module _ (f : StoreFolder) (there : selected_folder s ≡ Some f) where
    move_tested : (b : Bool) (m : StoreMessage) (t target : StoreFolder) → (s.selected ≡ None → ⊥) → folder_called s.mail.folders name ≡ Some target
        → message_numbered f.messages uid ≡ Some m → is_last_change f ≡ false
        → folder_called (mail_without s.mail (Some f) uid).folders name ≡ Some t → b ≡ is_last_message t
        → MatchBool b (RefusalCause s (command.Move uid name)) (RefusalCause s (command.Move uid name) → ⊥)
    move_tested b m t target selected named held room to test =
        let found : folder_called (mail_without s.mail (selected_folder s) uid).folders name ≡ Some t =
        ap (λ (o : Option StoreFolder). folder_called (mail_without s.mail o uid).folders name) there ∙ to in
        match_by b (RefusalCause s (command.Move uid name))
        (λ is. NumberSpent (inr (at_end is_last_message (folder_called (mail_without s.mail (selected_folder s) uid).folders name) t found (sym test ∙ is))))
        (λ fails. free_move s uid name selected (λ none. none-some target (sym none ∙ named)) (λ none. none-some m (sym none ∙ message_seen s f uid (Some m) there held))
        (not_at_end is_last_change (selected_folder s) f there room)
        (not_at_end is_last_message (folder_called (mail_without s.mail (selected_folder s) uid).folders name) t found (sym test ∙ fails)))

  -- from the tests, in their order
  pub move_full : (small : IsSmallMail s.mail) (source target at : ℕ) (f t : StoreFolder) (m : StoreMessage) (b : Bool) → s.selected ≢ None
      → slice_get s.mail.folders source ≡ Some f → selected_folder s ≡ Some f
      → slice_get s.mail.folders target ≡ Some t → folder_called s.mail.folders name ≡ Some t
      → slice_get f.messages at ≡ Some m → message_numbered f.messages uid ≡ Some m → is_last_change f ≡ false
      → ((g h : StoreFolder) (u : ℕ) → slice_get s.mail.folders source ≡ Some g → is_last_change g ≡ false
      → slice_get (mail_without s.mail (Some g) u).folders target ≡ Some h → b ≡ is_last_message h)
      → MatchBool b (RefusalCause s (command.Move uid name)) (RefusalCause s (command.Move uid name) → ⊥)
  move_full small source target at f t m b selected at_f there at_t called at_m held room full =
      move_tested f there b m landed t selected called held room
      (subst (λ (u : ℕ). folder_called (mail_without s.mail (Some f) u).folders name ≡ Some landed) number
      (landing_called s.mail small source f at_f at m at_m not_last name target t called at_t))
      (full f landed m.uid at_f room (landing_at s.mail small source f at_f at m at_m not_last name target t called at_t))
    where
      landed : StoreFolder
      landed = put (folder_without f m.uid (next_modseq f)) t

      not_last : is_last_change f ≡ true → ⊥
      not_last last = true≢false (sym last ∙ room)

      number : m.uid ≡ uid
      number = eqb-true m.uid uid (found_passes (λ (x : StoreMessage). x.uid == uid) f.messages m held)
