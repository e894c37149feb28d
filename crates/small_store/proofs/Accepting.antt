-- What there is to a command for whose refusal there is no cause.
use Rattle.std.proofs.Common.{◌≡◌, ◌≢◌, ◌⊎◌, inl, inr, ℕ, ℤ, ◌<◌, ◌≤◌, ◌^◌, Bool, true, false, not, List, [], Option, Some, None, refl, ap, ◌∙◌, arith}
use Rattle.std.proofs.lemmas.Bool.{cases_order, false_from_ne_true}
use Rattle.imap_types.specs.declared.command.Command.TheVariants as command
use Rattle.honest_store.specs.StoreMail.{StoreMessage, StoreFolder, folder_called, message_numbered}
use Rattle.honest_store.specs.Sessions.{StoreSession}
use Rattle.honest_store.specs.MessageCommands.{flags_after, is_deleted}
use Rattle.small_answers.specs.Changes.{mail_without, next_validity, selected_folder}
use Rattle.small_answers.specs.Limits.{is_last_change, is_last_message}
use Rattle.small_answers.specs.Causes.{RefusalCause, NotThere, NoMessage, NumberSpent, are_same_names, changes_flags, ends_message}
use Rattle.small_answers.proofs.Elements.{any_head}
use Rattle.small_store.proofs.Refusing.{at_end}
use Rattle.small_store.proofs.Seeing.{message_seen}

below : (a b : ℕ) → (b ≤ a → ⊥) → a < b
below a b least = by (cases_order a b)
  where
    by : (a ≡ b) ⊎ ((a < b) ⊎ (b < a)) → a < b
    by (inl e) = absurd (least (omega (arith, e)))
    by (inr (inl l)) = l
    by (inr (inr l)) = absurd (least (omega (arith, l)))

module _ (s : StoreSession) where
  pub create_room : (name : List ℕ) → (RefusalCause s (command.Create name) → ⊥) → next_validity s.mail < 2 ^ 32
  create_room name free = below (next_validity s.mail) (2 ^ 32) (λ l. free (NumberSpent l))

  pub delete_there : (name : List ℕ) → (RefusalCause s (command.Delete name) → ⊥) → folder_called s.mail.folders name ≢ None
  delete_there name free none = free (NotThere (any_head (λ (n : List ℕ). folder_called s.mail.folders n ≡ None) name [] none))

  pub append_room : (name : List ℕ) (flags : List (List ℕ)) (date : ℤ) (message : List ℕ) (f : StoreFolder) → (RefusalCause s (command.Append name flags date message) → ⊥)
      → folder_called s.mail.folders name ≡ Some f → is_last_message f ≡ false
  append_room name flags date message f free there =
      false_from_ne_true (is_last_message f) (λ end. free (NumberSpent (at_end is_last_message (folder_called s.mail.folders name) f there end)))

  module _ (uid : ℕ) (f : StoreFolder) (there : selected_folder s ≡ Some f) where
    pub store_room : (add : Bool) (flags : List (List ℕ)) (m : StoreMessage) → (RefusalCause s (command.Store uid add flags) → ⊥)
        → message_numbered f.messages uid ≡ Some m → is_last_change f ≡ true → are_same_names (flags_after add flags m.flags) m.flags ≡ true
    store_room add flags m free held end = by (are_same_names (flags_after add flags m.flags) m.flags) refl
      where
        by : (b : Bool) → are_same_names (flags_after add flags m.flags) m.flags ≡ b → b ≡ true
        by true e = refl
        by false e = absurd (free (NumberSpent (
          at_end is_last_change (selected_folder s) f there end,
          ap (changes_flags add flags) (message_seen s f uid (Some m) there held) ∙ ap not e,
        )))

    pub expunge_room : (m : StoreMessage) → (RefusalCause s (command.Expunge uid) → ⊥) → message_numbered f.messages uid ≡ Some m → is_last_change f ≡ true → is_deleted m ≡ false
    expunge_room m free held end =
        false_from_ne_true (is_deleted m) (λ deleted. free (NumberSpent (
          at_end is_last_change (selected_folder s) f there end,
          ap ends_message (message_seen s f uid (Some m) there held) ∙ deleted,
        )))

    module _ (name : List ℕ) (free : RefusalCause s (command.Move uid name) → ⊥) where
      pub move_there : folder_called s.mail.folders name ≢ None
      move_there none = free (NotThere (any_head (λ (n : List ℕ). folder_called s.mail.folders n ≡ None) name [] none))

      pub move_held : message_numbered f.messages uid ≢ None
      move_held none = free (NoMessage (message_seen s f uid None there none))

      pub move_room : is_last_change f ≡ false
      move_room = false_from_ne_true (is_last_change f) (λ end. free (NumberSpent (inl (at_end is_last_change (selected_folder s) f there end))))

      pub move_room_there : (t : StoreFolder) → folder_called (mail_without s.mail (Some f) uid).folders name ≡ Some t → is_last_message t ≡ false
      move_room_there t to =
          false_from_ne_true (is_last_message t) (λ end. free (NumberSpent (inr (at_end is_last_message (folder_called (mail_without s.mail (selected_folder s) uid).folders name) t
          (ap (λ (o : Option StoreFolder). folder_called (mail_without s.mail o uid).folders name) there ∙ to) end))))
