-- What is due to a command, from what was found.
use Rattle.std.proofs.Common.{◌≡◌, ℕ, Bool, true, false, List, [], Option, Some, None, sym, ap, ◌∙◌, subst, if◌then◌else◌}
use Rattle.honest_store.specs.StoreMail.{StoreMessage, StoreFolder}
use Rattle.honest_store.specs.Sessions.{StoreSession, StoreAnswer}
use Rattle.honest_store.specs.MessageCommands.{flags_after, is_deleted}
use Rattle.small_answers.specs.Causes.{are_same_names}
use Rattle.small_answers.specs.Answers.{Reply, reply_with, reply_in, told_change, flags_reply, store_reply, expunge_reply, expunged_reply, move_reply, move_reply_to}
use Rattle.small_answers.specs.Changes.{mail_without}
use Rattle.honest_store.specs.StoreMail.{folder_called}
use Rattle.small_store.specs.reading.Steps.{Gives}

-- a call gives what is due, where it gives what that is
pub gives_as : (r q : Reply) (a : StoreAnswer) (after : StoreSession) → r ≡ q → Gives q a after → Gives r a after
gives_as r q a after same given = subst (λ (x : Reply). Gives x a after) (sym same) given

module _ (s : StoreSession) (f : StoreFolder) (add : Bool) (asked : List (List ℕ)) (o : Option StoreMessage) where
  pub store_none : o ≡ None → store_reply s f add asked o ≡ reply_with s []
  store_none none = ap (store_reply s f add asked) none

  pub store_same : (m : StoreMessage) → o ≡ Some m → are_same_names (flags_after add asked m.flags) m.flags ≡ true
      → store_reply s f add asked o ≡ reply_with s (told_change f.messages m.uid)
  store_same m there same = ap (store_reply s f add asked) there
      ∙ ap (λ (b : Bool). if b then reply_with s (told_change f.messages m.uid) else flags_reply s f m.uid (flags_after add asked m.flags)) same

  pub store_changed : (m : StoreMessage) → o ≡ Some m → are_same_names (flags_after add asked m.flags) m.flags ≡ false
      → store_reply s f add asked o ≡ flags_reply s f m.uid (flags_after add asked m.flags)
  store_changed m there other = ap (store_reply s f add asked) there
      ∙ ap (λ (b : Bool). if b then reply_with s (told_change f.messages m.uid) else flags_reply s f m.uid (flags_after add asked m.flags)) other

module _ (s : StoreSession) (f : StoreFolder) (o : Option StoreMessage) where
  pub expunge_none : o ≡ None → expunge_reply s f o ≡ reply_with s []
  expunge_none none = ap (expunge_reply s f) none

  pub expunge_kept : (m : StoreMessage) → o ≡ Some m → is_deleted m ≡ false → expunge_reply s f o ≡ reply_with s []
  expunge_kept m there other = ap (expunge_reply s f) there ∙ ap (λ (b : Bool). if b then expunged_reply s f m.uid else reply_with s []) other

  pub expunge_ended : (m : StoreMessage) → o ≡ Some m → is_deleted m ≡ true → expunge_reply s f o ≡ expunged_reply s f m.uid
  expunge_ended m there deleted = ap (expunge_reply s f) there ∙ ap (λ (b : Bool). if b then expunged_reply s f m.uid else reply_with s []) deleted

-- in the folder that is selected
pub in_selected : (s : StoreSession) (o : Option StoreFolder) (f : StoreFolder) (reply : StoreFolder → Reply) → o ≡ Some f → reply_in s o reply ≡ reply f
in_selected s o f reply there = ap (λ (x : Option StoreFolder). reply_in s x reply) there

pub in_none : (s : StoreSession) (o : Option StoreFolder) (reply : StoreFolder → Reply) → o ≡ None → reply_in s o reply ≡ reply_with s []
in_none s o reply none = ap (λ (x : Option StoreFolder). reply_in s x reply) none

module _ (s : StoreSession) (f : StoreFolder) (name : List ℕ) (o : Option StoreMessage) where
  pub move_none : o ≡ None → move_reply s f name o ≡ reply_with s []
  move_none none = ap (move_reply s f name) none

  pub move_there : (m : StoreMessage) (t : StoreFolder) → o ≡ Some m → folder_called (mail_without s.mail (Some f) m.uid).folders name ≡ Some t
      → move_reply s f name o ≡ move_reply_to s (mail_without s.mail (Some f) m.uid) m (Some t)
  move_there m t there to = ap (move_reply s f name) there ∙ ap (move_reply_to s (mail_without s.mail (Some f) m.uid) m) to
