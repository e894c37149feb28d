-- Folders that are found by name or by number.
use Rattle.std.proofs.Common.{◌≡◌, ◌≢◌, ℕ, false, List, Option, Some, find, bytes_eq, refl, eq-eqb, eqb-true, ne_eqb, All, AllPairs, ◌==◌}
use Rattle.std.specs.List.{AllByRecursion}
use Rattle.std.proofs.lemmas.Bool.{false_from_ne_true}
use Rattle.std.proofs.lemmas.List.Elements.{recursion_from_All}
use Rattle.std.proofs.lemmas.Slice.Eq.{bytes_eq-Decides}
use Rattle.imap_types.specs.Folders.{folder_name}
use Rattle.honest_store.specs.StoreMail.{StoreFolder, StoreMail, folder_called, folder_numbered}
use Rattle.honest_store.specs.WellFormed.{IsStoreMail}
use Rattle.small_answers.proofs.Searches.{each_finds_itself, found_is, found_passes}

-- ---- names

pub other_text : (a b : List ℕ) → a ≢ b → bytes_eq a b ≡ false
other_text a b other = false_from_ne_true (bytes_eq a b) (λ same. other ((bytes_eq-Decides a b).0 same))

-- ---- each is the one of its number, and of its name

pub each_numbered : (fs : List StoreFolder) → AllPairs (λ (f g : StoreFolder). f.number ≢ g.number) fs → AllByRecursion (λ f. folder_numbered fs f.number ≡ Some f) fs
each_numbered fs h =
    each_finds_itself (λ (f g : StoreFolder). f.number == g.number) (λ (f g : StoreFolder). f.number ≢ g.number) (λ f. eq-eqb f.number f.number refl)
    (λ f g other. ne_eqb f.number g.number other) fs h

-- the folder whose name is just this
abbrev pub named : List StoreFolder → List ℕ → Option StoreFolder
named fs name = find (λ f. bytes_eq f.name name) fs

pub each_named : (fs : List StoreFolder) → AllPairs (λ (f g : StoreFolder). f.name ≢ g.name) fs → AllByRecursion (λ f. named fs f.name ≡ Some f) fs
each_named fs h =
    each_finds_itself (λ (f g : StoreFolder). bytes_eq f.name g.name) (λ (f g : StoreFolder). f.name ≢ g.name) (λ f. (bytes_eq-Decides f.name f.name).1 refl)
    (λ f g other. other_text f.name g.name other) fs h

-- ---- of one that is found

-- what is so of each folder is so of one that is found
pub called_is : (P : StoreFolder → Type 0) (mail : StoreMail) (name : List ℕ) (f : StoreFolder) → All P mail.folders → folder_called mail.folders name ≡ Some f → P f
called_is P mail name f all e = found_is P (λ g. bytes_eq g.name (folder_name name)) mail.folders f (recursion_from_All P mail.folders all) e

pub numbered_is : (P : StoreFolder → Type 0) (mail : StoreMail) (n : ℕ) (f : StoreFolder) → All P mail.folders → folder_numbered mail.folders n ≡ Some f → P f
numbered_is P mail n f all e = found_is P (λ g. g.number == n) mail.folders f (recursion_from_All P mail.folders all) e

-- its number
pub number_found : (fs : List StoreFolder) (n : ℕ) (f : StoreFolder) → folder_numbered fs n ≡ Some f → f.number ≡ n
number_found fs n f e = eqb-true f.number n (found_passes (λ g. g.number == n) fs f e)

-- and its name
pub name_found : (fs : List StoreFolder) (name : List ℕ) (f : StoreFolder) → folder_called fs name ≡ Some f → f.name ≡ folder_name name
name_found fs name f e = (bytes_eq-Decides f.name (folder_name name)).0 (found_passes (λ g. bytes_eq g.name (folder_name name)) fs f e)

-- a folder that is found by its name is found by its number
pub called_numbered : (mail : StoreMail) (name : List ℕ) (f : StoreFolder) → IsStoreMail mail → folder_called mail.folders name ≡ Some f
    → folder_numbered mail.folders f.number ≡ Some f
called_numbered mail name f whole e =
    found_is (λ g. folder_numbered mail.folders g.number ≡ Some g) (λ g. bytes_eq g.name (folder_name name)) mail.folders f (each_numbered mail.folders whole.numbers) e

pub numbered_numbered : (mail : StoreMail) (n : ℕ) (f : StoreFolder) → IsStoreMail mail → folder_numbered mail.folders n ≡ Some f
    → folder_numbered mail.folders f.number ≡ Some f
numbered_numbered mail n f whole e =
    found_is (λ g. folder_numbered mail.folders g.number ≡ Some g) (λ g. g.number == n) mail.folders f (each_numbered mail.folders whole.numbers) e
