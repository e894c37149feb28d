-- A message that ends in one folder and comes to another, or to the same.
use Rattle.std.proofs.Common.{◌≡◌, ℕ, ◌+◌, ◌<◌, Bool, true, false, List, Some, None, option_map, refl, sym, ap, ◌∙◌, subst, arith, eqb-true, ◌==◌}
use Rattle.std.proofs.Common.{if◌then◌else◌}
use Rattle.std.proofs.lemmas.Option.{same_Some}
use Rattle.honest_store.specs.StoreMail.{StoreMessage, StoreFolder, NameUse, StoreMail, folder_called, folder_numbered, message_numbered}
use Rattle.honest_store.specs.WellFormed.{use_of, IsStoreMessage}
use Rattle.honest_store.specs.TrueResponses.{HasGone, IsVanished}
use Rattle.honest_store.specs.MessageChanges.{folder_with, folder_without, MovesMessage, EndsFirst}
use Rattle.small_answers.specs.Changes.{next_modseq, mail_with, mail_without}
use Rattle.small_answers.specs.Limits.{is_last_change, is_last_message}
use Rattle.small_answers.specs.SmallMail.{IsSmallMail}
use Rattle.small_answers.proofs.FoldersFound.{called_numbered, number_found}
use Rattle.small_answers.proofs.FoldersKept.{none_with, none_without, vanished_without}
use Rattle.small_answers.proofs.MailKept.{put, put_use}
use Rattle.small_answers.proofs.Changed.{adds, by_number, ends, message_is, put_called, put_found, put_numbered, with_small, without_small}

-- where no folder has a name, none has it without the message
pub not_left : (mail : StoreMail) (n : ℕ) (f : StoreFolder) (m : StoreMessage) → IsSmallMail mail → folder_numbered mail.folders n ≡ Some f → (name : List ℕ)
    → folder_called mail.folders name ≡ None
    → folder_called (mail_without mail (Some f) m.uid).folders name ≡ None
not_left mail n f m small there name none =
    put_called mail n f (folder_without f m.uid (next_modseq f)) small there refl name ∙ ap (option_map (put (folder_without f m.uid (next_modseq f)))) none

module _ (mail : StoreMail) (n u : ℕ) (f : StoreFolder) (m : StoreMessage) (small : IsSmallMail mail) (there : folder_numbered mail.folders n ≡ Some f)
    (held : message_numbered f.messages u ≡ Some m)
    (room : is_last_change f ≡ true → ⊥) (name : List ℕ) (t : StoreFolder) (called : folder_called mail.folders name ≡ Some t) where
  -- the folder and the mail without the message, and the folder to which it comes, as it is then
  abbrev pub gone : StoreFolder
  gone = folder_without f m.uid (next_modseq f)

  abbrev pub left : StoreMail
  left = mail_without mail (Some f) m.uid

  abbrev pub target : StoreFolder
  target = put gone t

  left_small : IsSmallMail left
  left_small = without_small mail n u f m small there held room

  pub target_use : use_of target ≡ use_of t
  target_use = put_use mail f gone small.well_formed (by_number mail n f small there) refl t (called_numbered mail name t small.well_formed called)

  pub found_left : folder_called left.folders name ≡ Some target
  found_left = put_called mail n f gone small there refl name ∙ ap (option_map (put gone)) called

  target_there : folder_numbered left.folders target.number ≡ Some target
  target_there = called_numbered left name target left_small.well_formed found_left

  pub moves : MovesMessage mail n m t.number target.uid_next (mail_with left (Some target) m)
  moves =
      EndsFirst left (next_modseq target) (ends mail n u f m small there held)
      (adds left t.number target left_small (subst (λ (k : ℕ). folder_numbered left.folders k ≡ Some target) (ap (λ (v : NameUse). v.number) target_use) target_there) m)

  pub moved_small : (is_last_message target ≡ true → ⊥) → IsSmallMail (mail_with left (Some target) m)
  moved_small free =
      let m_is : IsStoreMessage f m = message_is mail n u f m small there held in
      with_small left target.number target left_small target_there m free m_is.flags m_is.date m_is.size

  -- ---- where it was

  abbrev copy : StoreMessage
  copy = record m { uid = target.uid_next; modseq = next_modseq target }

  abbrev pub come : StoreFolder
  come = folder_with target copy (target.uid_next + 1)

  gone_there : folder_numbered left.folders n ≡ Some gone
  gone_there = put_found mail n f gone small there refl

  pub seen_after : folder_numbered (mail_with left (Some target) m).folders n ≡ Some (put come gone)
  seen_after = put_numbered left target.number target come left_small target_there refl n ∙ ap (option_map (put come)) gone_there

  -- the target is the folder itself
  same_folder : gone.number ≡ target.number → target ≡ gone
  same_folder e =
      let its_number : target.number ≡ n = sym e ∙ number_found mail.folders n f there in
      same_Some target gone (sym target_there ∙ (ap (λ (k : ℕ). folder_numbered left.folders k) its_number ∙ gone_there))

  vanished_at : (b : Bool) → (gone.number == come.number) ≡ b → IsVanished false (Some (if b then come else gone)) m.uid
  vanished_at true e =
      let same : target ≡ gone = same_folder (eqb-true gone.number target.number e) in
      let next : target.uid_next ≡ f.uid_next = ap (λ (g : StoreFolder). g.uid_next) same in
      let below : m.uid < f.uid_next = (message_is mail n u f m small there held).uid in
      record {
        not_held = none_with target.messages copy m.uid (ap (λ (g : StoreFolder). message_numbered g.messages m.uid) same ∙ none_without f.messages m.uid)
            (λ both. omega (arith, both, next, below));
        has_gone = λ now. subst (λ (g : StoreFolder). HasGone (Some g) m.uid) (sym same) ((vanished_without f m.uid (next_modseq f)).has_gone now);
      }
  vanished_at false e = vanished_without f m.uid (next_modseq f)

  pub vanished : IsVanished false (Some (put come gone)) m.uid
  vanished = vanished_at (gone.number == come.number) refl
