-- What the owner's calls give, from what stands at places of the mail.
use Rattle.std.proofs.Common.{◌≡◌, ◌<◌, ℕ, Bool, true, false, List, Option, Some, None, get_or, refl, sym, subst, ◌∙◌}
use Rattle.std.specs.List.{slice_get}
use Rattle.std.proofs.lemmas.Bool.{false≢true}
use Rattle.std.proofs.lemmas.Grind.{get_or_default_zero}
use Rattle.honest_store.specs.StoreMail.{StoreMessage, StoreFolder, StoreMail, folder_called}
use Rattle.honest_store.specs.MessageChanges.{folder_without}
use Rattle.small_answers.specs.Changes.{mail_with, mail_without, next_modseq}
use Rattle.small_answers.specs.Limits.{is_last_change, is_last_message}
use Rattle.small_answers.specs.OwnersCalls.{CallGives, other_folder, shifted}
use Rattle.small_answers.specs.SmallMail.{IsSmallMail}
use Rattle.small_responses.specs.SendableMail.{AreOctets}
use Rattle.small_answers.proofs.MailKept.{put}
use Rattle.small_answers.proofs.Moved.{not_left}
use Rattle.small_store.proofs.Calls.{shift_done, shift_full, shift_last, shift_nowhere}
use Rattle.small_store.proofs.Landing.{landing_at, landing_called, numbered_at}

module _ (mail : StoreMail) (small : IsSmallMail mail) (source at : ℕ) (f : StoreFolder) (m : StoreMessage) (o : Option (StoreFolder × StoreMessage))
    (at_f : slice_get mail.folders source ≡ Some f) (at_m : slice_get f.messages at ≡ Some m) (there : o ≡ Some (f, m)) where
  -- the other folder isn't there
  pub shift_no_target : folder_called mail.folders (other_folder f.name) ≡ None → CallGives mail (shifted mail o) false mail
  shift_no_target none = by (is_last_change f) refl
    where
      by : (b : Bool) → is_last_change f ≡ b → CallGives mail (shifted mail o) false mail
      by true e = shift_last mail o f m there e
      by false e = shift_nowhere mail o f m there e (not_left mail f.number f m small (numbered_at mail small source f at_f) (other_folder f.name) none)

  module _ (room : is_last_change f ≡ false) (target : ℕ) (t : StoreFolder) (called : folder_called mail.folders (other_folder f.name) ≡ Some t)
      (at_t : slice_get mail.folders target ≡ Some t) where
    -- the other folder, once the message left its own
    abbrev pub landed : StoreFolder
    landed = put (folder_without f m.uid (next_modseq f)) t

    not_last : is_last_change f ≡ true → ⊥
    not_last e = false≢true (sym room ∙ e)

    pub landed_at : slice_get (mail_without mail (Some f) m.uid).folders target ≡ Some landed
    landed_at = landing_at mail small source f at_f at m at_m not_last (other_folder f.name) target t called at_t

    landed_called : folder_called (mail_without mail (Some f) m.uid).folders (other_folder f.name) ≡ Some landed
    landed_called = landing_called mail small source f at_f at m at_m not_last (other_folder f.name) target t called at_t

    pub shift_no_room : is_last_message landed ≡ true → CallGives mail (shifted mail o) false mail
    shift_no_room full = shift_full mail o f m there landed room landed_called full

    pub shift_lands : (after : StoreMail) → is_last_message landed ≡ false → after ≡ mail_with (mail_without mail (Some f) m.uid) (Some landed) m
        → CallGives mail (shifted mail o) true after
    shift_lands after free is = shift_done mail o f m there landed after room landed_called free is

-- octets, each of which fits its type
pub are_octets : (t : List ℕ) → ((k : ℕ) → get_or t k 0 < 256) → AreOctets t
are_octets t each k d l = subst (λ (n : ℕ). n < 256) (sym (get_or_default_zero t k d l)) (each k)
