-- The first folder's delimiter.
use Rattle.std.proofs.Common.{◌≡◌, ℕ, List, [], ◌∷◌, Option, Some, None, refl, ap}
use Rattle.std.specs.List.{slice_get}
use Rattle.std.specs.Option.{option_map}
use Rattle.told_folder.specs.declared.message.Folder.{Folder}
use Rattle.told_folder.specs.declared.message.NumberedFolder.{NumberedFolder}
use Rattle.mail_maps.specs.Mailboxes.{folders_of}
use Rattle.mailbox_names.specs.FitNames.{first_delimiter}

pub first_is : (hs : List NumberedFolder) (f : Folder) → Some f ≡ option_map (λ (h : NumberedFolder). h.folder) (slice_get hs 0) → f.delimiter ≡ first_delimiter (folders_of hs)
first_is [] f e = absurd (let w : Some f ≡ None = e in cc)
first_is (h ∷ hs) f e = let w : Some f ≡ Some h.folder = e in let same : f ≡ h.folder = cc in ap (λ (g : Folder). g.delimiter) same

pub none_is : (hs : List NumberedFolder) → ◌≡◌ {A = Option Folder} None (option_map (λ (h : NumberedFolder). h.folder) (slice_get hs 0)) → ◌≡◌ {A = Option ℕ} None (first_delimiter (folders_of hs))
none_is [] e = refl
none_is (h ∷ hs) e = absurd (let w : ◌≡◌ {A = Option Folder} None (Some h.folder) = e in cc)
