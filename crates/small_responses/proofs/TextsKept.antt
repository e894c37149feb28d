-- What is to be told of the mail stays within what may be sent, as the mail changes.
use Rattle.std.proofs.Common.{◌≡◌, ◌⊎◌, inl, inr, ℕ, ◌+◌, ◌≤◌, Bool, true, false, ◌||◌, not, List, [], ◌∷◌, Option, Some, None, length, map, is_some, bytes_eq}
use Rattle.std.proofs.Common.{codes, refl, sym, subst, arith, ◌==◌, if◌then◌else◌}
use Rattle.std.specs.List.{AllByRecursion, flat_map}
use Rattle.std.proofs.lemmas.List.Elements.{All-append, All-cons, All-filter, All-from_recursion, All-nil, recursion_from_All}
use Rattle.imap_types.specs.Items.{AllNames}
use Rattle.honest_store.specs.StoreMail.{StoreMessage, StoreFolder, StoreMail, message_numbered}
use Rattle.honest_store.specs.Attributes.{subscribed}
use Rattle.honest_store.specs.MessageChanges.{with_store_folder, folder_with, folder_without, folder_flagged}
use Rattle.honest_store.specs.FolderChanges.{child_part, renamed_child, renamed_folder, with_subscription}
use Rattle.small_answers.specs.Changes.{next_modseq, mail_with, mail_without, mail_flagged, empty_folder, mail_created, mail_deleted, mail_renamed, mail_subscribed, first_mail}
use Rattle.small_answers.specs.Limits.{text_limit, total_length}
use Rattle.small_answers.specs.Causes.{names_renamed}
use Rattle.small_answers.proofs.Elements.{each_both, each_mapped, each_parted, each_weaker}
use Rattle.small_answers.proofs.Searches.{found_is}
use Rattle.small_answers.proofs.MailKept.{each_put, put}
use Rattle.small_answers.proofs.FoldersKept.{each_flagged}
use Rattle.small_responses.specs.SendableMail.{beside_seen, IsSendableMessage, IsSendableFolder, IsSendableMail}

-- ---- messages

put_kept : (mail : StoreMail) (g : StoreFolder) → IsSendableMail mail → IsSendableFolder g → IsSendableMail (with_store_folder mail g)
put_kept mail g told is =
    All-from_recursion IsSendableFolder (map (put g) mail.folders) (each_mapped (put g) IsSendableFolder mail.folders (each_put IsSendableFolder g is mail.folders told))

pub message_told : (f : StoreFolder) (u : ℕ) (m : StoreMessage) → IsSendableFolder f → message_numbered f.messages u ≡ Some m → IsSendableMessage m
message_told f u m is held = found_is IsSendableMessage (λ x. x.uid == u) f.messages m (recursion_from_All IsSendableMessage f.messages is.messages) held

pub with_kept : (mail : StoreMail) (f : StoreFolder) (m : StoreMessage) → IsSendableMail mail → IsSendableFolder f → IsSendableMessage m
    → IsSendableMail (mail_with mail (Some f) m)
with_kept mail f m told is m_is =
    let copy : StoreMessage = record m { uid = f.uid_next; modseq = next_modseq f } in
    put_kept mail (folder_with f copy (f.uid_next + 1)) told (record {
      name = is.name;
      attributes = is.attributes;
      messages = All-append IsSendableMessage f.messages (copy ∷ []) is.messages
          (All-cons IsSendableMessage copy [] (record { flags = m_is.flags; few = m_is.few; octets = m_is.octets }) (All-nil IsSendableMessage));
    })

pub without_is_told : (f : StoreFolder) (u : ℕ) → IsSendableFolder f → IsSendableFolder (folder_without f u (next_modseq f))
without_is_told f u is = record { name = is.name; attributes = is.attributes; messages = All-filter (λ m. not (m.uid == u)) IsSendableMessage f.messages is.messages }

pub without_kept : (mail : StoreMail) (f : StoreFolder) (u : ℕ) → IsSendableMail mail → IsSendableFolder f → IsSendableMail (mail_without mail (Some f) u)
without_kept mail f u told is = put_kept mail (folder_without f u (next_modseq f)) told (without_is_told f u is)

pub flagged_is_told : (f : StoreFolder) (u : ℕ) (flags : List (List ℕ)) → IsSendableFolder f → AllNames flags → total_length (beside_seen flags) ≤ text_limit
    → IsSendableFolder (folder_flagged f u flags (next_modseq f))
flagged_is_told f u flags is names few = record {
  name = is.name;
  attributes = is.attributes;
  messages = All-from_recursion IsSendableMessage (folder_flagged f u flags (next_modseq f)).messages
      (each_flagged u flags (next_modseq f) IsSendableMessage IsSendableMessage (λ x x_is. x_is)
      (λ x x_is. record { flags = names; few = few; octets = x_is.octets }) f.messages
      (recursion_from_All IsSendableMessage f.messages is.messages));
}

pub flagged_kept : (mail : StoreMail) (f : StoreFolder) (u : ℕ) (flags : List (List ℕ)) → IsSendableMail mail → IsSendableFolder f → AllNames flags
    → total_length (beside_seen flags) ≤ text_limit
    → IsSendableMail (mail_flagged mail (Some f) u flags)
flagged_kept mail f u flags told is names few = put_kept mail (folder_flagged f u flags (next_modseq f)) told (flagged_is_told f u flags is names few)

-- ---- folders

pub empty_told : (name : List ℕ) (validity : ℕ) → length name ≤ text_limit → IsSendableFolder (empty_folder name validity)
empty_told name validity few = record { name = few; attributes = inl refl; messages = All-nil IsSendableMessage }

pub created_kept : (mail : StoreMail) (name : List ℕ) (validity : ℕ) → IsSendableMail mail → length name ≤ text_limit
    → IsSendableMail (mail_created mail (empty_folder name validity))
created_kept mail name validity told few =
    All-append IsSendableFolder mail.folders (empty_folder name validity ∷ []) told
    (All-cons IsSendableFolder (empty_folder name validity) [] (empty_told name validity few) (All-nil IsSendableFolder))

pub deleted_kept : (mail : StoreMail) (name : List ℕ) → IsSendableMail mail → IsSendableMail (mail_deleted mail name)
deleted_kept mail name told = All-filter (λ f. not (bytes_eq f.name name)) IsSendableFolder mail.folders told

subscribed_is : (on : Bool) (attributes : List (List ℕ)) → (attributes ≡ []) ⊎ (attributes ≡ codes "\\subscribed" ∷ [])
    → (subscribed on attributes ≡ []) ⊎ (subscribed on attributes ≡ codes "\\subscribed" ∷ [])
subscribed_is true attributes (inl none) = inr (subst (λ (ns : List (List ℕ)). subscribed true ns ≡ codes "\\subscribed" ∷ []) (sym none) refl)
subscribed_is true attributes (inr one) = inr (subst (λ (ns : List (List ℕ)). subscribed true ns ≡ codes "\\subscribed" ∷ []) (sym one) refl)
subscribed_is false attributes (inl none) = inl (subst (λ (ns : List (List ℕ)). subscribed false ns ≡ []) (sym none) refl)
subscribed_is false attributes (inr one) = inl (subst (λ (ns : List (List ℕ)). subscribed false ns ≡ []) (sym one) refl)

subscribed_at : (on b : Bool) (x : StoreFolder) → IsSendableFolder x → IsSendableFolder (if b then record x { attributes = subscribed on x.attributes } else x)
subscribed_at on true x is = record { name = is.name; attributes = subscribed_is on x.attributes is.attributes; messages = is.messages }
subscribed_at on false x is = is

pub subscribed_kept : (mail : StoreMail) (name : List ℕ) (on : Bool) → IsSendableMail mail → IsSendableMail (mail_subscribed mail name on)
subscribed_kept mail name on told =
    All-from_recursion IsSendableFolder (map (with_subscription name on) mail.folders) (each_mapped (with_subscription name on) IsSendableFolder mail.folders
    (each_weaker IsSendableFolder (λ x. IsSendableFolder (with_subscription name on x)) (λ x is. subscribed_at on (bytes_eq x.name name) x is) mail.folders
    (recursion_from_All IsSendableFolder mail.folders told)))

-- ---- RENAME

module _ (from to : List ℕ) (x : StoreFolder) (is : IsSendableFolder x) where
  few_by : (b : Bool) (o : Option (List ℕ)) → AllByRecursion (λ k. length k ≤ text_limit) (if b || is_some o then (if b then to else renamed_child x.name to o) ∷ [] else [])
      → length (if b then to else renamed_child x.name to o) ≤ text_limit
  few_by true o all = all.0
  few_by false None all = is.name
  few_by false (Some rest) all = all.0

  pub renamed_told : AllByRecursion (λ k. length k ≤ text_limit) (names_renamed from to x) → IsSendableFolder (renamed_folder from to x)
  renamed_told all = record { name = few_by (bytes_eq x.name from) (child_part from x.delimiter x.name) all; attributes = is.attributes; messages = is.messages }

pub renamed_kept : (mail : StoreMail) (from to : List ℕ) → IsSendableMail mail → AllByRecursion (λ k. length k ≤ text_limit) (flat_map (names_renamed from to) mail.folders)
    → IsSendableMail (mail_renamed mail from to)
renamed_kept mail from to told all =
    All-from_recursion IsSendableFolder (map (renamed_folder from to) mail.folders) (each_mapped (renamed_folder from to) IsSendableFolder mail.folders
    (each_both IsSendableFolder (λ x. AllByRecursion (λ k. length k ≤ text_limit) (names_renamed from to x)) (λ x. IsSendableFolder (renamed_folder from to x))
    (λ x is few. renamed_told from to x is few) mail.folders (recursion_from_All IsSendableFolder mail.folders told)
    (each_parted (names_renamed from to) (λ k. length k ≤ text_limit) mail.folders all)))

-- ---- the first mail

pub first_kept : IsSendableMail first_mail
first_kept = All-from_recursion IsSendableFolder first_mail.folders (empty_told (codes "INBOX") 1 (omega arith), (empty_told (codes "Archive") 2 (omega arith), tt))
