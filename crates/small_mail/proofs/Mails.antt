-- The mail after a change of the folder at a place.
use Rattle.std.proofs.Common.{◌≡◌, ℕ, ◌<◌, List, [], length, map, set, get_or, Some, refl, ap, ◌∙◌, subst, ◌==◌, if◌then◌else◌}
use Rattle.std.specs.List.{slice_get}
use Rattle.std.proofs.lemmas.Option.{get_or_from_slice_get, slice_get_within, slice_get_read}
use Rattle.honest_store.specs.StoreMail.{StoreFolder, StoreMail, NameUse}
use Rattle.honest_store.specs.WellFormed.{IsStoreFolder, IsStoreMail}
use Rattle.honest_store.specs.MessageChanges.{with_store_folder}
use Rattle.small_mail.proofs.Folders.{put_is}

-- a store's folder stands at each place
pub folder_at : (mail : StoreMail) (place : ℕ) (f : StoreFolder) → IsStoreMail mail → slice_get mail.folders place ≡ Some f → IsStoreFolder f
folder_at mail place f whole at =
    subst (λ (g : StoreFolder). IsStoreFolder g) (get_or_from_slice_get mail.folders place f f at) (whole.folders place f (slice_get_within mail.folders place f at))

abbrev pub mail_of : List StoreFolder → List NameUse → StoreMail
mail_of fs us = record { folders = fs; unselectable = []; uses = us }

module _ (fs : List StoreFolder) (us : List NameUse) (mail : StoreMail) (is : mail_of fs us ≡ mail) where
  folders_are : fs ≡ mail.folders
  folders_are = ap (λ (m : StoreMail). m.folders) is

  -- what is read at a place stands there
  pub read_at : (place : ℕ) (x : StoreFolder) → place < length mail.folders → x ≡ get_or fs place x → slice_get mail.folders place ≡ Some x
  read_at place x within x_is = slice_get_read mail.folders (length mail.folders) place x refl within (x_is ∙ ap (λ (gs : List StoreFolder). get_or gs place x) folders_are)

  pub read_is : (place : ℕ) (x f : StoreFolder) → slice_get mail.folders place ≡ Some f → x ≡ get_or fs place x → x ≡ f
  read_is place x f at x_is = x_is ∙ (ap (λ (gs : List StoreFolder). get_or gs place x) folders_are ∙ get_or_from_slice_get mail.folders place f x at)

  -- a folder for the one of its number
  pub changed_is : (place : ℕ) (f g z : StoreFolder) → IsStoreMail mail → slice_get mail.folders place ≡ Some f → g.number ≡ f.number → z ≡ g
      → mail_of (set fs place z) us ≡ with_store_folder mail g
  changed_is place f g z whole at same z_is =
      ap (λ (h : StoreFolder). mail_of (set fs place h) us) z_is
      ∙ (ap (λ (gs : List StoreFolder). mail_of gs us) (ap (λ (gs : List StoreFolder). set gs place g) folders_are ∙ put_is mail.folders place f at g whole.numbers same)
      ∙ ap (λ (m : StoreMail). record m { folders = map (λ (x : StoreFolder). if x.number == g.number then g else x) mail.folders }) is)
