-- What the owner's calls give, from what was found and tested.
use Rattle.std.proofs.Common.{◌≡◌, ℕ, ℤ, Bool, true, false, not, List, [], ◌∷◌, Option, Some, None, sym, ap, ◌∙◌, if◌then◌else◌}
use Rattle.honest_store.specs.StoreMail.{StoreMessage, StoreFolder, StoreMail, folder_called, has_flag}
use Rattle.honest_store.specs.MessageCommands.{flags_after}
use Rattle.small_answers.specs.Changes.{message_of, mail_with, mail_without, mail_flagged}
use Rattle.small_answers.specs.Limits.{is_last_change, is_last_message}
use Rattle.small_answers.specs.OwnersCalls.{CallGives, CallDone, CallRefused, unless, put_into, delivered, seen_flag, seen_toggled, other_folder, shifted, message_expunged}

module _ (mail : StoreMail) (name octets : List ℕ) (date : ℤ) where
  pub deliver_nowhere : folder_called mail.folders name ≡ None → CallGives mail (delivered mail name octets date) false mail
  deliver_nowhere none = CallRefused (ap (put_into mail (message_of [] date octets)) none)

  pub deliver_full : (f : StoreFolder) → folder_called mail.folders name ≡ Some f → is_last_message f ≡ true → CallGives mail (delivered mail name octets date) false mail
  deliver_full f there full =
      CallRefused (ap (put_into mail (message_of [] date octets)) there ∙ ap (λ (b : Bool). unless b (mail_with mail (Some f) (message_of [] date octets))) full)

  pub deliver_done : (f : StoreFolder) (after : StoreMail) → folder_called mail.folders name ≡ Some f → is_last_message f ≡ false
      → after ≡ mail_with mail (Some f) (message_of [] date octets) → CallGives mail (delivered mail name octets date) true after
  deliver_done f after there room is =
      CallDone after (ap (put_into mail (message_of [] date octets)) there
      ∙ (ap (λ (b : Bool). unless b (mail_with mail (Some f) (message_of [] date octets))) room ∙ ap Some (sym is)))

module _ (mail : StoreMail) (o : Option (StoreFolder × StoreMessage)) where
  pub toggle_nothing : o ≡ None → CallGives mail (seen_toggled mail o) false mail
  toggle_nothing none = CallRefused (ap (seen_toggled mail) none)

  pub expunge_nothing : o ≡ None → CallGives mail (message_expunged mail o) false mail
  expunge_nothing none = CallRefused (ap (message_expunged mail) none)

  pub shift_nothing : o ≡ None → CallGives mail (shifted mail o) false mail
  shift_nothing none = CallRefused (ap (shifted mail) none)

  module _ (f : StoreFolder) (m : StoreMessage) (there : o ≡ Some (f, m)) where
    abbrev toggled : StoreMail
    toggled = mail_flagged mail (Some f) m.uid (flags_after (not (has_flag m seen_flag)) (seen_flag ∷ []) m.flags)

    pub toggle_full : is_last_change f ≡ true → CallGives mail (seen_toggled mail o) false mail
    toggle_full full = CallRefused (ap (seen_toggled mail) there ∙ ap (λ (b : Bool). unless b toggled) full)

    pub toggle_done : (after : StoreMail) → is_last_change f ≡ false → after ≡ toggled → CallGives mail (seen_toggled mail o) true after
    toggle_done after room is = CallDone after (ap (seen_toggled mail) there ∙ (ap (λ (b : Bool). unless b toggled) room ∙ ap Some (sym is)))

    pub expunge_full : is_last_change f ≡ true → CallGives mail (message_expunged mail o) false mail
    expunge_full full = CallRefused (ap (message_expunged mail) there ∙ ap (λ (b : Bool). unless b (mail_without mail (Some f) m.uid)) full)

    pub expunge_done : (after : StoreMail) → is_last_change f ≡ false → after ≡ mail_without mail (Some f) m.uid → CallGives mail (message_expunged mail o) true after
    expunge_done after room is =
        CallDone after (ap (message_expunged mail) there ∙ (ap (λ (b : Bool). unless b (mail_without mail (Some f) m.uid)) room ∙ ap Some (sym is)))

    abbrev left : StoreMail
    left = mail_without mail (Some f) m.uid

    abbrev into : Option StoreFolder → Option StoreMail
    into t = put_into left m t

    shift_is : (b : Bool) → is_last_change f ≡ b → shifted mail o ≡ (if b then None else into (folder_called left.folders (other_folder f.name)))
    shift_is b full = ap (shifted mail) there ∙ ap (λ (c : Bool). if c then None else into (folder_called left.folders (other_folder f.name))) full

    pub shift_last : is_last_change f ≡ true → CallGives mail (shifted mail o) false mail
    shift_last full = CallRefused (shift_is true full)

    pub shift_nowhere : is_last_change f ≡ false → folder_called left.folders (other_folder f.name) ≡ None → CallGives mail (shifted mail o) false mail
    shift_nowhere room none = CallRefused (shift_is false room ∙ ap into none)

    pub shift_full : (t : StoreFolder) → is_last_change f ≡ false → folder_called left.folders (other_folder f.name) ≡ Some t → is_last_message t ≡ true
        → CallGives mail (shifted mail o) false mail
    shift_full t room found full = CallRefused (shift_is false room ∙ (ap into found ∙ ap (λ (b : Bool). unless b (mail_with left (Some t) m)) full))

    pub shift_done : (t : StoreFolder) (after : StoreMail) → is_last_change f ≡ false → folder_called left.folders (other_folder f.name) ≡ Some t → is_last_message t ≡ false
        → after ≡ mail_with left (Some t) m → CallGives mail (shifted mail o) true after
    shift_done t after room found free is =
        CallDone after (shift_is false room ∙ (ap into found ∙ (ap (λ (b : Bool). unless b (mail_with left (Some t) m)) free ∙ ap Some (sym is))))
