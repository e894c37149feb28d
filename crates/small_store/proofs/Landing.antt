-- The folder to which a message comes once it ended in its own: it stands at its place, and has its name.
use Rattle.std.proofs.Common.{◌≡◌, ◌∙◌, ℕ, true, List, Some, option_map, ap, subst}
use Rattle.std.specs.List.{slice_get}
use Rattle.std.proofs.lemmas.List.Elements.{All-from_recursion}
use Rattle.std.proofs.lemmas.Option.{get_or_from_slice_get, slice_get_within, slice_get-map}
use Rattle.honest_store.specs.StoreMail.{StoreMessage, StoreFolder, StoreMail, folder_called, folder_numbered, message_numbered}
use Rattle.honest_store.specs.MessageChanges.{folder_without}
use Rattle.small_answers.specs.Changes.{mail_without, next_modseq}
use Rattle.small_answers.specs.Limits.{is_last_change}
use Rattle.small_answers.specs.SmallMail.{IsSmallMail}
use Rattle.small_answers.proofs.FoldersFound.{each_numbered}
use Rattle.small_answers.proofs.MailKept.{put}
use Rattle.small_answers.proofs.Moved.{found_left}
use Rattle.small_answers.proofs.Truths.{each_found}
use Rattle.small_mail.proofs.Mails.{folder_at}

module _ (mail : StoreMail) (small : IsSmallMail mail) (source : ℕ) (f : StoreFolder) (at_f : slice_get mail.folders source ≡ Some f) where
  pub numbered_at : folder_numbered mail.folders f.number ≡ Some f
  numbered_at =
      subst (λ (g : StoreFolder). folder_numbered mail.folders g.number ≡ Some g) (get_or_from_slice_get mail.folders source f f at_f)
      (All-from_recursion (λ (g : StoreFolder). folder_numbered mail.folders g.number ≡ Some g) mail.folders (each_numbered mail.folders small.well_formed.numbers) source f
      (slice_get_within mail.folders source f at_f))

  module _ (at : ℕ) (m : StoreMessage) (at_m : slice_get f.messages at ≡ Some m) where
    pub found_at : message_numbered f.messages m.uid ≡ Some m
    found_at =
        subst (λ (x : StoreMessage). message_numbered f.messages x.uid ≡ Some x) (get_or_from_slice_get f.messages at m m at_m)
        (All-from_recursion (λ (x : StoreMessage). message_numbered f.messages x.uid ≡ Some x) f.messages
        (each_found 0 f.messages (folder_at mail source f small.well_formed at_f).ascend) at m (slice_get_within f.messages at m at_m))

    module _ (room : is_last_change f ≡ true → ⊥) (name : List ℕ) (target : ℕ) (t : StoreFolder) (called : folder_called mail.folders name ≡ Some t)
        (at_t : slice_get mail.folders target ≡ Some t) where
      pub landing_called : folder_called (mail_without mail (Some f) m.uid).folders name ≡ Some (put (folder_without f m.uid (next_modseq f)) t)
      landing_called = found_left mail f.number m.uid f m small numbered_at found_at room name t called

      pub landing_at : slice_get (mail_without mail (Some f) m.uid).folders target ≡ Some (put (folder_without f m.uid (next_modseq f)) t)
      landing_at = slice_get-map (put (folder_without f m.uid (next_modseq f))) mail.folders target ∙ ap (option_map (put (folder_without f m.uid (next_modseq f)))) at_t
