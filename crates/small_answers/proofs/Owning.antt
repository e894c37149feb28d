-- What the owner of the small store does is what others may do to an honest store's mail, and leaves the small store's mail.
use Rattle.std.proofs.Common.{◌≡◌, ℕ, ◌^◌, ◌<◌, ℤ, Bool, true, false, not, List, [], ◌∷◌, Option, Some, None, map, length, refl, sym, ap, ◌∙◌, subst, if◌then◌else◌}
use Rattle.std.specs.List.{AllByRecursion}
use Rattle.std.proofs.lemmas.Bool.{false≢true}
use Rattle.std.proofs.lemmas.List.Elements.{All-from_recursion, recursion_from_All}
use Rattle.std.proofs.lemmas.Option.{get_or_from_slice_get, none-some, same_Some, slice_get_within}
use Rattle.honest_store.specs.StoreMail.{StoreMessage, StoreFolder, StoreMail, folder_called, folder_numbered, has_flag, message_numbered}
use Rattle.honest_store.specs.WellFormed.{nearest_date, IsStoreFolder}
use Rattle.honest_store.specs.Others.{Happens, Delivered, Expunged, Flagged, Moved}
use Rattle.honest_store.specs.MessageCommands.{flags_after}
use Rattle.small_answers.specs.Changes.{message_of, next_modseq, mail_with, mail_without, mail_flagged}
use Rattle.small_answers.specs.Limits.{is_last_change, is_last_message}
use Rattle.small_answers.specs.OwnersCalls.{delivered, message_at_place, message_expunged, messages_in_order, other_folder, put_into, seen_flag, seen_toggled, shifted, unless}
use Rattle.small_answers.specs.OwnersCalls.{CallGives, CallDone, CallRefused}
use Rattle.small_answers.specs.SmallMail.{IsOwnersStep, IsSmallMail}
use Rattle.small_answers.proofs.Elements.{each_both, each_joined, each_mapped, each_weaker}
use Rattle.small_answers.proofs.Truths.{each_found}
use Rattle.small_answers.proofs.FoldersFound.{called_numbered, each_numbered}
use Rattle.small_answers.proofs.Attributes.{flags_after_kept}
use Rattle.small_answers.proofs.Changed.{adds, ends, flagged_small, flags_it, message_is, with_small, without_small}
use Rattle.small_answers.proofs.Moved.{found_left, moved_small, moves, not_left, target}

-- ---- places

-- a folder of the mail, and a message of it
pub record IsPlaced (mail : StoreMail) (p : StoreFolder × StoreMessage) : Type 0 where
  pub folder : folder_numbered mail.folders p.0.number ≡ Some p.0
  pub message : message_numbered p.0.messages p.1.uid ≡ Some p.1

each_placed : (mail : StoreMail) → IsSmallMail mail → AllByRecursion (IsPlaced mail) (messages_in_order mail.folders)
each_placed mail small =
    each_joined (λ f. map (λ m. (f, m)) f.messages) (IsPlaced mail) mail.folders
    (each_both (λ f. folder_numbered mail.folders f.number ≡ Some f) IsStoreFolder (λ f. AllByRecursion (IsPlaced mail) (map (λ m. (f, m)) f.messages))
    (λ f found is. each_mapped (λ m. (f, m)) (IsPlaced mail) f.messages
    (each_weaker (λ m. message_numbered f.messages m.uid ≡ Some m) (λ m. IsPlaced mail (f, m)) (λ m held. record { folder = found; message = held }) f.messages
    (each_found 0 f.messages is.ascend)))
    mail.folders (each_numbered mail.folders small.well_formed.numbers) (recursion_from_All IsStoreFolder mail.folders small.well_formed.folders))

placed_at : (mail : StoreMail) (at : ℕ) (p : StoreFolder × StoreMessage) → IsSmallMail mail → message_at_place mail at ≡ Some p → IsPlaced mail p
placed_at mail at p small e =
    subst (IsPlaced mail) (get_or_from_slice_get (messages_in_order mail.folders) at p p e)
    (All-from_recursion (IsPlaced mail) (messages_in_order mail.folders) (each_placed mail small) at p (slice_get_within (messages_in_order mail.folders) at p e))

-- ---- a step

step : (before after : StoreMail) → Happens before after → IsSmallMail after → IsOwnersStep before after
step before after happens small = record { step = record { happens = happens; well_formed = small.well_formed }; small = small }

-- what a call leaves where it is true
done_is : {before after : StoreMail} {due : Option StoreMail} {b : Bool} → CallGives before due b after → b ≡ true → due ≡ Some after
done_is (CallDone after due) e = due
done_is (CallRefused due) e = absurd (false≢true e)

-- where this would be left unless there is no room
unless_done : (b : Bool) (due after : StoreMail) (P : StoreMail → Type 0) → unless b due ≡ Some after → (b ≡ false → P due) → P after
unless_done true due after P e is = absurd (none-some after e)
unless_done false due after P e is = subst P (same_Some due after e) (is refl)

never_true : (b : Bool) → b ≡ false → b ≡ true → ⊥
never_true b fails passes = false≢true (sym fails ∙ passes)

-- ---- deliver

module _ (before : StoreMail) (name octets : List ℕ) (date : ℤ) (small : IsSmallMail before) (dated : nearest_date date ≡ date) (fits : length octets < 2 ^ 63) where
  put_step : (after : StoreMail) (q : Option StoreFolder) → folder_called before.folders name ≡ q → put_into before (message_of [] date octets) q ≡ Some after
      → IsOwnersStep before after
  put_step after None called e = absurd (none-some after e)
  put_step after (Some f) called e =
      let there : folder_numbered before.folders f.number ≡ Some f = called_numbered before name f small.well_formed called in
      let m : StoreMessage = message_of [] date octets in
      unless_done (is_last_message f) (mail_with before (Some f) m) after (IsOwnersStep before) e
      (λ room. step before (mail_with before (Some f) m) (Delivered f.number (record m { uid = f.uid_next; modseq = next_modseq f }) (adds before f.number f small there m))
      (with_small before f.number f small there m (never_true (is_last_message f) room) refl dated fits))

  pub deliver_step : (after : StoreMail) → CallGives before (delivered before name octets date) true after → IsOwnersStep before after
  deliver_step after call = put_step after (folder_called before.folders name) refl (done_is call refl)

-- ---- toggle_seen

module _ (before after : StoreMail) (small : IsSmallMail before) where
  toggled_at : (q : Option (StoreFolder × StoreMessage)) → ((p : StoreFolder × StoreMessage) → q ≡ Some p → IsPlaced before p) → seen_toggled before q ≡ Some after
      → IsOwnersStep before after
  toggled_at None is e = absurd (none-some after e)
  toggled_at (Some p) is e =
      let at : IsPlaced before p = is p refl in
      let flags : List (List ℕ) = flags_after (not (has_flag p.1 seen_flag)) (seen_flag ∷ []) p.1.flags in
      unless_done (is_last_change p.0) (mail_flagged before (Some p.0) p.1.uid flags) after (IsOwnersStep before) e
      (λ room. step before (mail_flagged before (Some p.0) p.1.uid flags)
      (Flagged p.0.number p.1.uid flags (flags_it before p.0.number p.1.uid p.0 p.1 small at.folder at.message flags))
      (flagged_small before p.0.number p.1.uid p.0 p.1 small at.folder at.message flags (never_true (is_last_change p.0) room)
      (flags_after_kept (not (has_flag p.1 seen_flag)) (seen_flag ∷ []) p.1.flags (message_is before p.0.number p.1.uid p.0 p.1 small at.folder at.message).flags)))

  pub toggle_step : (at : ℕ) → CallGives before (seen_toggled before (message_at_place before at)) true after → IsOwnersStep before after
  toggle_step at call = toggled_at (message_at_place before at) (λ p e. placed_at before at p small e) (done_is call refl)

  -- ---- expunge

  expunged_at : (q : Option (StoreFolder × StoreMessage)) → ((p : StoreFolder × StoreMessage) → q ≡ Some p → IsPlaced before p) → message_expunged before q ≡ Some after
      → IsOwnersStep before after
  expunged_at None is e = absurd (none-some after e)
  expunged_at (Some p) is e =
      let at : IsPlaced before p = is p refl in
      unless_done (is_last_change p.0) (mail_without before (Some p.0) p.1.uid) after (IsOwnersStep before) e
      (λ room. step before (mail_without before (Some p.0) p.1.uid) (Expunged p.0.number p.1 (ends before p.0.number p.1.uid p.0 p.1 small at.folder at.message))
      (without_small before p.0.number p.1.uid p.0 p.1 small at.folder at.message (never_true (is_last_change p.0) room)))

  pub expunge_step : (at : ℕ) → CallGives before (message_expunged before (message_at_place before at)) true after → IsOwnersStep before after
  expunge_step at call = expunged_at (message_at_place before at) (λ p e. placed_at before at p small e) (done_is call refl)

  -- ---- shift

  module _ (p : StoreFolder × StoreMessage) (at : IsPlaced before p) (room : is_last_change p.0 ≡ false) where
    abbrev left : StoreMail
    left = mail_without before (Some p.0) p.1.uid

    abbrev name : List ℕ
    name = other_folder p.0.name

    free : is_last_change p.0 ≡ true → ⊥
    free = never_true (is_last_change p.0) room

    shift_to : (q : Option StoreFolder) → folder_called before.folders name ≡ q → put_into left p.1 (folder_called left.folders name) ≡ Some after → IsOwnersStep before after
    shift_to None called e = absurd (none-some after (sym (ap (put_into left p.1) (not_left before p.0.number p.0 p.1 small at.folder name called)) ∙ e))
    shift_to (Some t) called e =
        let aim : StoreFolder = target before p.0.number p.1.uid p.0 p.1 small at.folder at.message free name t called in
        let found : folder_called left.folders name ≡ Some aim = found_left before p.0.number p.1.uid p.0 p.1 small at.folder at.message free name t called in
        unless_done (is_last_message aim) (mail_with left (Some aim) p.1) after (IsOwnersStep before) (sym (ap (put_into left p.1) found) ∙ e)
        (λ space. step before (mail_with left (Some aim) p.1)
        (Moved p.0.number p.1 t.number aim.uid_next (moves before p.0.number p.1.uid p.0 p.1 small at.folder at.message free name t called))
        (moved_small before p.0.number p.1.uid p.0 p.1 small at.folder at.message free name t called (never_true (is_last_message aim) space)))

  shifted_by : (p : StoreFolder × StoreMessage) → IsPlaced before p → (b : Bool) → is_last_change p.0 ≡ b
      → (if b then None else put_into (mail_without before (Some p.0) p.1.uid) p.1 (folder_called (mail_without before (Some p.0) p.1.uid).folders (other_folder p.0.name)))
      ≡ Some after → IsOwnersStep before after
  shifted_by p at true room e = absurd (none-some after e)
  shifted_by p at false room e = shift_to p at room (folder_called before.folders (other_folder p.0.name)) refl e

  shifted_at : (q : Option (StoreFolder × StoreMessage)) → ((p : StoreFolder × StoreMessage) → q ≡ Some p → IsPlaced before p) → shifted before q ≡ Some after
      → IsOwnersStep before after
  shifted_at None is e = absurd (none-some after e)
  shifted_at (Some p) is e = shifted_by p (is p refl) (is_last_change p.0) refl e

  pub shift_step : (at : ℕ) → CallGives before (shifted before (message_at_place before at)) true after → IsOwnersStep before after
  shift_step at call = shifted_at (message_at_place before at) (λ p e. placed_at before at p small e) (done_is call refl)
