-- What a mirror comes to by a STORE, a DELETE, a SUBSCRIBE and a RENAME.
use Rattle.std.proofs.Common.{◌≡◌, ℕ, Bool, true, false, List, Option, Some, None, refl, sym, ap, ◌∙◌, subst, is_some}
use Rattle.std.specs.Option.{option_map}
use Rattle.kept_names.specs.Changes.{flags_after}
use Rattle.told_folder.specs.declared.message.Folder.{Folder}
use Rattle.told_folder.specs.declared.message.NumberedFolder.{NumberedFolder}
use Rattle.told_folder.specs.declared.message.Message.{Message}
use Rattle.told_folder.proofs.KeyedLemmas.{some_is_not_none, some_same}
use Rattle.told_mail.specs.Lists.{is_inbox}
use Rattle.told_mail.specs.Mail.{Mail, named, folder_number, folder_in, message_in, IsMail, IsNextMail, with_flags, with_flags_of, with_attributes, without_folder}
use Rattle.told_mail.specs.Renames.{with_renamed}
use Rattle.told_mail.specs.Told.{Told, Counts, counted_up}
use Rattle.told_mail.proofs.FieldLemmas.{with_flags_next, with_attributes_next}
use Rattle.told_mail.proofs.NameLemmas.{named_held}
use Rattle.told_mail.proofs.NextLemmas.{without_folder_next}
use Rattle.told_mail.proofs.RenameLemmas.{renamed_next}
use Rattle.told_changes.specs.Changes.{with_stored}
use Rattle.told_changes.specs.reading.Steps.{Steps}
use Rattle.told_changes.proofs.Steps.{steps_counts, steps_counted, steps_none}

-- a message that is held gets the flags that the STORE leaves
pub stored_is : (m new : Mail) (n uid : ℕ) (add : Bool) (asked fs : List (List ℕ)) (x : Message) → Some x ≡ message_in m.folders n uid → fs ≡ flags_after add asked x.flags
    → new ≡ with_flags m n uid fs → new ≡ with_stored m n add asked (message_in m.folders n uid)
stored_is m new n uid add asked fs x found are is =
    is
    ∙ (ap (λ (gs : List (List ℕ)). with_flags m n uid gs) are
    ∙ (sym (ap (with_flags_of m n (flags_after add asked x.flags)) found)
    ∙ ap (with_stored m n add asked) found))

-- one that isn't held gets none
pub not_stored : (m : Mail) (n uid : ℕ) (add : Bool) (asked : List (List ℕ)) → None ≡ message_in m.folders n uid → m ≡ with_stored m n add asked (message_in m.folders n uid)
not_stored m n uid add asked none = ap (with_stored m n add asked) none

-- the folder of a name, as the mirror finds it
pub folder_held : (o : Option NumberedFolder) (f : Folder) → Some f ≡ option_map (λ (h : NumberedFolder). h.folder) o → (h : NumberedFolder) × (o ≡ Some h) × (h.folder ≡ f)
folder_held None f e = absurd (some_is_not_none f e)
folder_held (Some h) f e = (h, refl, sym (some_same _ _ e))

pub no_folder : (o : Option NumberedFolder) → None ≡ option_map (λ (h : NumberedFolder). h.folder) o → o ≡ None
no_folder None e = refl
no_folder (Some h) e = absurd (some_is_not_none h.folder (sym e))

-- ---- each step leads to mail that can follow

pub flags_steps : (a b : Told) (n uid : ℕ) (fs : List (List ℕ)) → IsMail a.mail → b.mail ≡ with_flags a.mail n uid fs → Counts a b → Steps a b
flags_steps a b n uid fs i is counts = steps_counts a b (subst (λ (m : Mail). IsNextMail a.mail m) (sym is) (with_flags_next a.mail i n uid fs)) counts

pub attributes_steps : (a b : Told) (n : ℕ) (attributes : List (List ℕ)) → IsMail a.mail → b.mail ≡ with_attributes a.mail n attributes → Counts a b → Steps a b
attributes_steps a b n attributes i is counts =
    steps_counts a b (subst (λ (m : Mail). IsNextMail a.mail m) (sym is) (with_attributes_next a.mail i n attributes)) counts

pub cut_steps : (a b : Told) (n : ℕ) → IsMail a.mail → b.mail ≡ without_folder a.mail n → b.changes ≡ counted_up a.changes → Steps a b
cut_steps a b n i is counted = steps_counted a b (subst (λ (m : Mail). IsNextMail a.mail m) (sym is) (without_folder_next a.mail n i)) counted

pub rename_steps : (a b : Told) (from to : List ℕ) → IsMail a.mail → b.mail ≡ with_renamed a.mail from to → (is_inbox from ≡ true → b ≡ a)
    → (is_inbox from ≡ false → b.changes ≡ counted_up a.changes) → Steps a b
rename_steps a b from to i is inbox other = by (is_inbox from) refl
  where
    by : (t : Bool) → is_inbox from ≡ t → Steps a b
    by true e = steps_none a b i (inbox e)
    by false e = steps_counted a b (subst (λ (m : Mail). IsNextMail a.mail m) (sym is) (renamed_next a.mail from to i)) (other e)

-- the folder of a name is held under its number
pub folder_there : (m : Mail) → IsMail m → (name : List ℕ) (h : NumberedFolder) → named m.folders name ≡ Some h → is_some (folder_in m.folders (folder_number h)) ≡ true
folder_there m i name h e = ap (λ o. is_some (option_map (λ (z : NumberedFolder). z.folder) o)) (named_held m.folders name h i.numbers e)
