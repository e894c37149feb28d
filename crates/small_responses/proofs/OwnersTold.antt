-- The mail stays so that it can be told, whatever the owner does.
use Rattle.std.proofs.Common.{◌≡◌, inr, ℕ, ℤ, Bool, true, false, not, List, [], ◌∷◌, Option, Some, None, map, codes, refl, subst, arith, if◌then◌else◌}
use Rattle.std.specs.List.{AllByRecursion}
use Rattle.std.proofs.lemmas.Bool.{false≢true}
use Rattle.std.proofs.lemmas.List.Elements.{All-from_recursion, recursion_from_All}
use Rattle.std.proofs.lemmas.Option.{get_or_from_slice_get, none-some, same_Some, slice_get_within}
use Rattle.imap_types.specs.Items.{kept}
use Rattle.honest_store.specs.StoreMail.{StoreMessage, StoreFolder, StoreMail, folder_called, has_flag}
use Rattle.honest_store.specs.WellFormed.{IsStoreFolder, IsStoreMessage}
use Rattle.honest_store.specs.MessageCommands.{flags_after}
use Rattle.small_answers.specs.Changes.{mail_flagged, mail_with, mail_without, message_of}
use Rattle.small_answers.specs.Limits.{is_last_change, is_last_message}
use Rattle.small_answers.specs.OwnersCalls.{CallGives, CallDone, CallRefused, delivered, message_at_place, message_expunged, messages_in_order, other_folder, put_into}
use Rattle.small_answers.specs.OwnersCalls.{seen_flag, seen_toggled, shifted, unless}
use Rattle.small_answers.specs.SmallMail.{IsSmallMail}
use Rattle.small_answers.proofs.Elements.{each_both, each_joined, each_mapped}
use Rattle.small_answers.proofs.FoldersFound.{called_is}
use Rattle.small_responses.specs.SendableMail.{AreOctets, IsSendableFolder, IsSendableMail, IsSendableMessage}
use Rattle.small_responses.proofs.FlagNames.{flags_after_names}
use Rattle.small_responses.proofs.SeenFlag.{toggled_few}
use Rattle.small_responses.proofs.TextsKept.{flagged_kept, with_kept, without_kept}

-- ---- what a call leaves

due_is : {before after : StoreMail} {due : Option StoreMail} {b : Bool} → CallGives before due b after → b ≡ true → due ≡ Some after
due_is (CallDone after due) e = due
due_is (CallRefused due) e = absurd (false≢true e)

told_unless : (b : Bool) (due after : StoreMail) → unless b due ≡ Some after → IsSendableMail due → IsSendableMail after
told_unless true due after e is = absurd (none-some after e)
told_unless false due after e is = subst IsSendableMail (same_Some due after e) is

told_put : (mail after : StoreMail) (m : StoreMessage) (name : List ℕ) → IsSendableMail mail → IsSendableMessage m → (q : Option StoreFolder)
    → folder_called mail.folders name ≡ q
    → put_into mail m q ≡ Some after → IsSendableMail after
told_put mail after m name told is None called e = absurd (none-some after e)
told_put mail after m name told is (Some f) called e = told_unless (is_last_message f) (mail_with mail (Some f) m) after e
    (with_kept mail f m told (called_is IsSendableFolder mail name f told called) is)

-- ---- places

pub record IsToldAt (p : StoreFolder × StoreMessage) : Type 0 where
  pub folder : IsSendableFolder p.0
  pub message : IsSendableMessage p.1
  pub flags : kept p.1.flags ≡ p.1.flags

each_at : (mail : StoreMail) → IsSmallMail mail → IsSendableMail mail → AllByRecursion IsToldAt (messages_in_order mail.folders)
each_at mail small told =
    each_joined (λ f. map (λ m. (f, m)) f.messages) IsToldAt mail.folders
    (each_both IsStoreFolder IsSendableFolder (λ f. AllByRecursion IsToldAt (map (λ m. (f, m)) f.messages))
    (λ f is f_told. each_mapped (λ m. (f, m)) IsToldAt f.messages
    (each_both (IsStoreMessage f) IsSendableMessage (λ m. IsToldAt (f, m)) (λ m m_is m_told. record { folder = f_told; message = m_told; flags = m_is.flags }) f.messages
    (recursion_from_All (IsStoreMessage f) f.messages is.messages) (recursion_from_All IsSendableMessage f.messages f_told.messages))) mail.folders
    (recursion_from_All IsStoreFolder mail.folders small.well_formed.folders) (recursion_from_All IsSendableFolder mail.folders told))

told_at : (mail : StoreMail) (at : ℕ) (p : StoreFolder × StoreMessage) → IsSmallMail mail → IsSendableMail mail → message_at_place mail at ≡ Some p → IsToldAt p
told_at mail at p small told e =
    subst IsToldAt (get_or_from_slice_get (messages_in_order mail.folders) at p p e)
    (All-from_recursion IsToldAt (messages_in_order mail.folders) (each_at mail small told) at p (slice_get_within (messages_in_order mail.folders) at p e))

-- ---- the calls

pub deliver_told : (before after : StoreMail) (name octets : List ℕ) (date : ℤ) → IsSendableMail before → AreOctets octets
    → CallGives before (delivered before name octets date) true after → IsSendableMail after
deliver_told before after name octets date told are call =
    told_put before after (message_of [] date octets) name told (record { flags = tt; few = omega arith; octets = are }) (folder_called before.folders name) refl
    (due_is call refl)

module _ (before after : StoreMail) (small : IsSmallMail before) (told : IsSendableMail before) where
  toggled : (q : Option (StoreFolder × StoreMessage)) → ((p : StoreFolder × StoreMessage) → q ≡ Some p → IsToldAt p) → seen_toggled before q ≡ Some after → IsSendableMail after
  toggled None is e = absurd (none-some after e)
  toggled (Some p) is e =
      let at : IsToldAt p = is p refl in let set : Bool = not (has_flag p.1 seen_flag) in
      told_unless (is_last_change p.0) (mail_flagged before (Some p.0) p.1.uid (flags_after set (seen_flag ∷ []) p.1.flags)) after e
      (flagged_kept before p.0 p.1.uid (flags_after set (seen_flag ∷ []) p.1.flags) told at.folder
      (flags_after_names set (seen_flag ∷ []) p.1.flags (inr (codes "seen", refl, ((refl, (refl, (refl, (refl, tt)))), omega arith)), tt) at.message.flags)
      (toggled_few set p.1.flags at.flags at.message.few))

  pub toggle_told : (at : ℕ) → CallGives before (seen_toggled before (message_at_place before at)) true after → IsSendableMail after
  toggle_told at call = toggled (message_at_place before at) (λ p e. told_at before at p small told e) (due_is call refl)

  ended : (q : Option (StoreFolder × StoreMessage)) → ((p : StoreFolder × StoreMessage) → q ≡ Some p → IsToldAt p) → message_expunged before q ≡ Some after
      → IsSendableMail after
  ended None is e = absurd (none-some after e)
  ended (Some p) is e = told_unless (is_last_change p.0) (mail_without before (Some p.0) p.1.uid) after e (without_kept before p.0 p.1.uid told (is p refl).folder)

  pub expunge_told : (at : ℕ) → CallGives before (message_expunged before (message_at_place before at)) true after → IsSendableMail after
  expunge_told at call = ended (message_at_place before at) (λ p e. told_at before at p small told e) (due_is call refl)

  shifted_if : (p : StoreFolder × StoreMessage) → IsToldAt p → (b : Bool)
      → (if b then None else put_into (mail_without before (Some p.0) p.1.uid) p.1 (folder_called (mail_without before (Some p.0) p.1.uid).folders (other_folder p.0.name)))
      ≡ Some after → IsSendableMail after
  shifted_if p at true e = absurd (none-some after e)
  shifted_if p at false e =
      let left : StoreMail = mail_without before (Some p.0) p.1.uid in
      told_put left after p.1 (other_folder p.0.name) (without_kept before p.0 p.1.uid told at.folder) at.message (folder_called left.folders (other_folder p.0.name)) refl e

  shifted_by : (q : Option (StoreFolder × StoreMessage)) → ((p : StoreFolder × StoreMessage) → q ≡ Some p → IsToldAt p) → shifted before q ≡ Some after → IsSendableMail after
  shifted_by None is e = absurd (none-some after e)
  shifted_by (Some p) is e = shifted_if p (is p refl) (is_last_change p.0) e

  pub shift_told : (at : ℕ) → CallGives before (shifted before (message_at_place before at)) true after → IsSendableMail after
  shift_told at call = shifted_by (message_at_place before at) (λ p e. told_at before at p small told e) (due_is call refl)
