-- The first mail is the small store's.
use Rattle.std.proofs.Common.{◌≡◌, ◌≢◌, ℕ, List, [], ◌∷◌, bytes_eq, codes, refl, ap, arith, All, AllPairs, Contains}
use Rattle.std.proofs.lemmas.Bool.{true≢false}
use Rattle.std.proofs.lemmas.List.Elements.{All-from_recursion, All-nil}
use Rattle.std.proofs.lemmas.List.Kept.{AllPairs-cons}
use Rattle.honest_store.specs.StoreMail.{StoreFolder, NameUse}
use Rattle.honest_store.specs.WellFormed.{IsStoreFolder, IsUnselectableName, IsToldName, use_of}
use Rattle.honest_store.specs.FolderChanges.{inbox_name}
use Rattle.small_answers.specs.Changes.{empty_folder, first_mail}
use Rattle.small_answers.specs.SmallMail.{IsSmallFolder, IsSmallMail}
use Rattle.small_answers.proofs.Names.{agree_by_number, told_name}
use Rattle.small_answers.proofs.Creating.{empty_is, empty_small}

abbrev inbox : StoreFolder
inbox = empty_folder inbox_name 1

abbrev archive : StoreFolder
archive = empty_folder (codes "Archive") 2

abbrev uses : List NameUse
uses = use_of inbox ∷ use_of archive ∷ []

inbox_told : IsToldName inbox_name
inbox_told = told_name inbox_name (refl, (refl, (refl, (refl, (refl, tt)))))

archive_told : IsToldName (codes "Archive")
archive_told = told_name (codes "Archive") (refl, (refl, (refl, (refl, (refl, (refl, (refl, tt)))))))

pair : (R : StoreFolder → StoreFolder → Type 0) → R inbox archive → AllPairs R (inbox ∷ archive ∷ [])
pair R apart =
    AllPairs-cons R inbox (archive ∷ []) (All-from_recursion (R inbox) (archive ∷ []) (apart, tt))
    (AllPairs-cons R archive [] (All-nil (R archive)) (λ i j d l m. absurd (omega (arith, m))))

own_numbers : All (λ u. u.number ≡ u.validity) uses
own_numbers = All-from_recursion (λ u. u.number ≡ u.validity) uses (refl, (refl, tt))

pub first_is_small : IsSmallMail first_mail
first_is_small = record {
  well_formed = record {
    folders = All-from_recursion IsStoreFolder (inbox ∷ archive ∷ [])
        (empty_is inbox_name 1 inbox_told (omega arith) (omega arith), (empty_is (codes "Archive") 2 archive_told (omega arith) (omega arith), tt));
    unselectable = All-nil (IsUnselectableName first_mail);
    numbers = pair (λ (x y : StoreFolder). x.number ≢ y.number) (λ same. omega (arith, same));
    names = pair (λ (x y : StoreFolder). x.name ≢ y.name) (λ same. true≢false (ap (λ (t : List ℕ). bytes_eq t inbox_name) same));
    unselectable_names = λ i j d l m. absurd (omega (arith, m));
    uses = All-from_recursion (λ x. Contains uses (use_of x)) (inbox ∷ archive ∷ []) ((0, omega arith, refl), ((1, omega arith, refl), tt));
    agree = agree_by_number uses own_numbers;
  };
  folders = All-from_recursion IsSmallFolder (inbox ∷ archive ∷ []) (empty_small inbox_name 1, (empty_small (codes "Archive") 2, tt));
  numbers = own_numbers;
  all_selectable = refl;
}
