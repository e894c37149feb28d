-- What the small store does to messages is a change that an honest store may make, and leaves the small store's mail.
use Rattle.std.proofs.Common.{◌≡◌, ℕ, ◌+◌, ◌-◌, ◌^◌, ◌<◌, Bool, true, List, Some, find, map, option_map, bytes_eq, refl, sym, ap, ◌∙◌}
use Rattle.std.proofs.Common.{subst, arith, eq-eqb, leb-false, nat_le, ◌==◌, if◌then◌else◌}
use Rattle.std.proofs.lemmas.Bool.{false_from_ne_true, or_parts}
use Rattle.std.proofs.lemmas.List.Elements.{recursion_from_All}
use Rattle.imap_types.specs.Folders.{folder_name}
use Rattle.imap_types.specs.Items.{kept}
use Rattle.honest_store.specs.StoreMail.{StoreMessage, StoreFolder, NameUse, StoreMail, folder_called, folder_numbered, message_numbered}
use Rattle.honest_store.specs.WellFormed.{nearest_date, use_of, IsStoreMessage, IsStoreFolder}
use Rattle.honest_store.specs.MessageChanges.{with_store_folder, IsAbove, folder_with, folder_without, folder_flagged, AddsMessage, EndsMessage, FlagsMessage}
use Rattle.small_answers.specs.Changes.{next_modseq, mail_with, mail_without, mail_flagged}
use Rattle.small_answers.specs.Limits.{is_last_change, is_last_message}
use Rattle.small_answers.specs.SmallMail.{IsSmallFolder, IsSmallMail}
use Rattle.small_answers.proofs.Elements.{each_weaker}
use Rattle.small_answers.proofs.Searches.{found_is, found_mapped}
use Rattle.small_answers.proofs.Truths.{above, each_found}
use Rattle.small_answers.proofs.FoldersFound.{numbered_is, numbered_numbered}
use Rattle.small_answers.proofs.FoldersKept.{flagged_is, with_is, without_is}
use Rattle.small_answers.proofs.MailKept.{each_use, put, small_mail_kept}

-- ---- room for a change

room_for_change : (f : StoreFolder) → (is_last_change f ≡ true → ⊥) → f.highest < 2 ^ 63 - 1
room_for_change f free = leb-false (2 ^ 63 - 1) f.highest (false_from_ne_true (is_last_change f) free)

room_for_message : (f : StoreFolder) → (is_last_message f ≡ true → ⊥) → (f.highest < 2 ^ 63 - 1) × (f.uid_next < 2 ^ 32 - 1)
room_for_message f free =
    let parts = or_parts (is_last_change f) (nat_le (2 ^ 32 - 1) f.uid_next) (false_from_ne_true (is_last_message f) free) in
    (leb-false (2 ^ 63 - 1) f.highest parts.0, leb-false (2 ^ 32 - 1) f.uid_next parts.1)

fresh : (b : Bool) (highest : ℕ) → b ≡ true → IsAbove b highest (highest + 1)
fresh b highest e = subst (λ (c : Bool). IsAbove c highest (highest + 1)) (sym e) (omega arith)

-- ---- a folder that is found by its number

module _ (mail : StoreMail) (n : ℕ) (f : StoreFolder) (small : IsSmallMail mail) (there : folder_numbered mail.folders n ≡ Some f) where
  pub folder_is : IsStoreFolder f
  folder_is = numbered_is IsStoreFolder mail n f small.well_formed.folders there

  pub folder_small : IsSmallFolder f
  folder_small = numbered_is IsSmallFolder mail n f small.folders there

  pub by_number : folder_numbered mail.folders f.number ≡ Some f
  by_number = numbered_numbered mail n f small.well_formed there

  -- a message comes to it
  pub adds : (m : StoreMessage) → AddsMessage mail n (record m { uid = f.uid_next; modseq = next_modseq f }) (mail_with mail (Some f) m)
  adds m = record {
    folder = f;
    there = there;
    uid = omega arith;
    modseq = fresh f.has_modseqs f.highest folder_small.modseqs;
    next = f.uid_next + 1;
    above = omega arith;
    after_is = refl;
  }

  pub with_small : (m : StoreMessage) → (is_last_message f ≡ true → ⊥) → kept m.flags ≡ m.flags → nearest_date m.date ≡ m.date → m.size < 2 ^ 63
      → IsSmallMail (mail_with mail (Some f) m)
  with_small m free flags date size =
      let room = room_for_message f free in
      let highest : f.highest < 2 ^ 63 - 1 = room.0 in let next : f.uid_next < 2 ^ 32 - 1 = room.1 in
      let copy : StoreMessage = record m { uid = f.uid_next; modseq = next_modseq f } in
      small_mail_kept mail f (folder_with f copy (f.uid_next + 1)) small by_number refl
      (with_is f copy folder_is folder_small.modseqs highest next refl refl flags date size)
      (record { modseqs = folder_small.modseqs; delimiter = folder_small.delimiter; uid_next = omega (arith, next) })

-- ---- a message that is found by its UID

module _ (mail : StoreMail) (n u : ℕ) (f : StoreFolder) (m : StoreMessage) (small : IsSmallMail mail) (there : folder_numbered mail.folders n ≡ Some f)
    (held : message_numbered f.messages u ≡ Some m) where
  pub message_is : IsStoreMessage f m
  message_is =
      found_is (IsStoreMessage f) (λ x. x.uid == u) f.messages m
      (recursion_from_All (IsStoreMessage f) f.messages (folder_is mail n f small there).messages) held

  pub by_uid : message_numbered f.messages m.uid ≡ Some m
  by_uid = found_is (λ x. message_numbered f.messages x.uid ≡ Some x) (λ x. x.uid == u) f.messages m (each_found 0 f.messages (folder_is mail n f small there).ascend) held

  above_none : 0 < m.uid
  above_none = found_is (λ x. 0 < x.uid) (λ x. x.uid == u) f.messages m (above 0 0 f.messages (omega arith) (folder_is mail n f small there).ascend) held

  -- it ends
  pub ends : EndsMessage mail n m (mail_without mail (Some f) m.uid)
  ends = record {
    folder = f;
    there = there;
    held = by_uid;
    modseq = next_modseq f;
    fresh = fresh f.has_modseqs f.highest (folder_small mail n f small there).modseqs;
    after_is = refl;
  }

  pub without_small : (is_last_change f ≡ true → ⊥) → IsSmallMail (mail_without mail (Some f) m.uid)
  without_small free =
      let f_small : IsSmallFolder f = folder_small mail n f small there in
      small_mail_kept mail f (folder_without f m.uid (next_modseq f)) small (by_number mail n f small there) refl
      (without_is f m.uid (folder_is mail n f small there) f_small.modseqs (room_for_change f free) above_none message_is.uid)
      (record { modseqs = f_small.modseqs; delimiter = f_small.delimiter; uid_next = f_small.uid_next })

  -- it takes other flags
  pub flags_it : (flags : List (List ℕ)) → FlagsMessage mail n m.uid flags (mail_flagged mail (Some f) m.uid flags)
  flags_it flags = record {
    folder = f;
    there = there;
    message = m;
    held = by_uid;
    modseq = next_modseq f;
    fresh = fresh f.has_modseqs f.highest (folder_small mail n f small there).modseqs;
    after_is = refl;
  }

  pub flagged_small : (flags : List (List ℕ)) → (is_last_change f ≡ true → ⊥) → kept flags ≡ flags → IsSmallMail (mail_flagged mail (Some f) m.uid flags)
  flagged_small flags free in_kept =
      let f_small : IsSmallFolder f = folder_small mail n f small there in
      small_mail_kept mail f (folder_flagged f m.uid flags (next_modseq f)) small (by_number mail n f small there) refl
      (flagged_is f m.uid flags (folder_is mail n f small there) f_small.modseqs (room_for_change f free) in_kept)
      (record { modseqs = f_small.modseqs; delimiter = f_small.delimiter; uid_next = f_small.uid_next })

-- ---- folders that are found once one was changed

module _ (mail : StoreMail) (n : ℕ) (f g : StoreFolder) (small : IsSmallMail mail) (there : folder_numbered mail.folders n ≡ Some f) (same : use_of g ≡ use_of f) where
  -- by what a use tells
  found_as : (test : NameUse → Bool) → find (λ x. test (use_of x)) (map (put g) mail.folders) ≡ option_map (put g) (find (λ x. test (use_of x)) mail.folders)
  found_as test =
      found_mapped (λ x. test (use_of x)) (put g) mail.folders
      (each_weaker (λ x. use_of (put g x) ≡ use_of x) (λ x. test (use_of (put g x)) ≡ test (use_of x)) (λ x as_was. ap test as_was) mail.folders
      (each_use mail f g small.well_formed (by_number mail n f small there) same))

  pub put_called : (name : List ℕ) → folder_called (with_store_folder mail g).folders name ≡ option_map (put g) (folder_called mail.folders name)
  put_called name = found_as (λ u. bytes_eq u.name (folder_name name))

  pub put_numbered : (k : ℕ) → folder_numbered (with_store_folder mail g).folders k ≡ option_map (put g) (folder_numbered mail.folders k)
  put_numbered k = found_as (λ u. u.number == k)

  -- the changed one
  pub put_found : folder_numbered (with_store_folder mail g).folders n ≡ Some g
  put_found =
      put_numbered n ∙ (ap (option_map (put g)) there
      ∙ ap (λ (b : Bool). Some (if b then g else f)) (eq-eqb f.number g.number (sym (ap (λ (u : NameUse). u.number) same))))
