-- What may happen to a store's mail beside the commands of one session (RFC 9051 section 5.2): what other clients do, what mail comes, and
-- what the store does by itself. A command that was cut off, and was done all the same, is such a step too.
use Rattle.std.specs.Prelude.{◌≡◌, ◌⊎◌, ℕ, ◌≤◌, Bool, List, [], map, Some, IsSome, All, Contains}
use Rattle.std.specs.List.{Any}
use Rattle.honest_store.specs.StoreMail.{StoreMessage, ExpungedUid, StoreFolder, StoreMail, IsFolder, message_numbered}
use Rattle.honest_store.specs.WellFormed.{IsStoreMail, IsModseq, use_of}
use Rattle.honest_store.specs.MessageChanges.{with_store_folder, IsFreshModseq, AddsMessage, EndsMessage, FlagsMessage, MovesMessage}
use Rattle.honest_store.specs.FolderChanges.{ChangesFolders, CreatesFolder, DeletesFolder, RenamesFolders, ChangesSubscription}
use Rattle.honest_store.specs.TrueResponses.{messages_of_selected}

-- ---- many messages at once

-- a mod-sequence of this change: above all earlier ones, and no more than the highest now
abbrev pub IsOfChange : StoreFolder → StoreFolder → ℕ → Type 0
IsOfChange was now modseq = IsFreshModseq was modseq × IsModseq now modseq

-- the message is the other but for flags and mod-sequence
pub record IsFlaggedOtherwise (was now : StoreMessage) : Type 0 where
  pub same : now ≡ record was { flags = now.flags; modseq = now.modseq }

-- a message that is held now is as it was, or has other flags, or is new
abbrev pub CameAbout : StoreFolder → StoreFolder → StoreMessage → Type 0
CameAbout was now m =
    (message_numbered was.messages m.uid ≡ Some m)
    ⊎ (IsOfChange was now m.modseq
    × (((held : StoreMessage) × (message_numbered was.messages m.uid ≡ Some held) × IsFlaggedOtherwise held m) ⊎ (was.uid_next ≤ m.uid)))

-- a message that was held is held now, or went in this change
abbrev pub IsAccountedFor : StoreFolder → StoreFolder → StoreMessage → Type 0
IsAccountedFor was now m = IsSome (message_numbered now.messages m.uid) ⊎ Any (λ e. (e.uid ≡ m.uid) × IsOfChange was now e.modseq) now.expunged

-- the UID of a message that was held, or that came and went in this change
abbrev pub WentInChange : StoreFolder → StoreFolder → ExpungedUid → Type 0
WentInChange was now e = IsOfChange was now e.modseq × (IsSome (message_numbered was.messages e.uid) ⊎ (was.uid_next ≤ e.uid))

-- A folder after changes of as many messages as one likes, which may share a mod-sequence (RFC 7162 section 3.1), also of none, where only
-- the highest mod-sequence or the UIDNEXT rises. Its name and attributes may be others.
pub record FolderGoesOn (was now : StoreFolder) : Type 0 where
  pub itself : (now.number ≡ was.number) × (now.validity ≡ was.validity) × (now.delimiter ≡ was.delimiter) × (now.has_modseqs ≡ was.has_modseqs)
  pub no_lower : (was.highest ≤ now.highest) × (was.uid_next ≤ now.uid_next)
  pub held : All (CameAbout was now) now.messages
  pub was_held : All (IsAccountedFor was now) was.messages
  pub expunged : All (Contains now.expunged) was.expunged
  pub new_expunged : All (λ e. Contains was.expunged e ⊎ WentInChange was now e) now.expunged

-- messages of a folder change, and nothing else does
pub record ChangesMessages (before : StoreMail) (n : ℕ) (after : StoreMail) : Type 0 where
  pub was : StoreFolder
  pub now : StoreFolder
  pub there : IsFolder before n was
  pub goes_on : FolderGoesOn was now
  pub names_stay : (now.name ≡ was.name) × (now.attributes ≡ was.attributes)
  pub after_is : after ≡ with_store_folder before now

-- a folder has other attributes, as a special use (RFC 6154)
pub record ChangesAttributes (before : StoreMail) (n : ℕ) (after : StoreMail) : Type 0 where
  pub was : StoreFolder
  pub there : IsFolder before n was
  pub attributes : List (List ℕ)
  pub after_is : after ≡ with_store_folder before (record was { attributes = attributes })

-- ---- one step

-- One thing that happens. Where a mailbox comes to another UIDVALIDITY it is three: the folder is deleted, another is created under its
-- name, and mail comes to that.
pub data Happens (before after : StoreMail) : Type 0 where
  Delivered : (n : ℕ) (m : StoreMessage) → AddsMessage before n m after → Happens before after
  Expunged : (n : ℕ) (m : StoreMessage) → EndsMessage before n m after → Happens before after
  Flagged : (n : ℕ) (u : ℕ) (flags : List (List ℕ)) → FlagsMessage before n u flags after → Happens before after
  Moved : (from : ℕ) (m : StoreMessage) (to : ℕ) (u : ℕ) → MovesMessage before from m to u after → Happens before after
  ManyChanged : (n : ℕ) → ChangesMessages before n after → Happens before after
  Created : (f : StoreFolder) → CreatesFolder before f after → Happens before after
  Deleted : (f : StoreFolder) → DeletesFolder before f after → Happens before after
  Renamed : (from to : List ℕ) → RenamesFolders before from to after → Happens before after
  Subscribed : (name : List ℕ) (on : Bool) → ChangesSubscription before name on after → Happens before after
  AttributesChanged : (n : ℕ) → ChangesAttributes before n after → Happens before after
  -- names that can't be selected come and go
  NamesChanged : ChangesFolders before before.folders [] after → Happens before after

-- one step of others, after which the mail is a store's again
pub record OthersStep (before after : StoreMail) : Type 0 where
  pub happens : Happens before after
  pub well_formed : IsStoreMail after

-- ---- premises: which steps there are

-- none
abbrev pub NoStep : StoreMail → StoreMail → Type 0
NoStep before after = ⊥

-- those that leave the messages of the folder of this number as they are
pub record StepBesideFolder (n : ℕ) (before after : StoreMail) : Type 0 where
  pub step : OthersStep before after
  pub leaves : messages_of_selected (Some n) after ≡ messages_of_selected (Some n) before

-- those that take no name from its folder; others may come
pub record StepKeepingNames (before after : StoreMail) : Type 0 where
  pub step : OthersStep before after
  pub leaves : All (λ f. Contains (map use_of after.folders) (use_of f)) before.folders
