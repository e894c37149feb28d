-- The mail whose folders change, and keep their names, numbers and UIDVALIDITYs, is the small store's again.
use Rattle.std.proofs.Common.{◌≡◌, ◌≢◌, ℕ, Bool, true, false, List, Option, Some, None, map, slice_index_or, refl, sym, ◌∙◌, ap, subst, arith, eqb-true, All, AllPairs}
use Rattle.std.proofs.Common.{Contains, ◌==◌, if◌then◌else◌}
use Rattle.std.specs.List.{AllByRecursion}
use Rattle.std.proofs.lemmas.List.Elements.{All-from_recursion, All-nil, recursion_from_All}
use Rattle.honest_store.specs.StoreMail.{StoreFolder, NameUse, UnselectableName, StoreMail, folder_numbered}
use Rattle.honest_store.specs.WellFormed.{IsStoreFolder, IsUnselectableName, IsStoreMail, use_of}
use Rattle.honest_store.specs.MessageChanges.{with_store_folder}
use Rattle.small_answers.specs.SmallMail.{IsSmallFolder, IsSmallMail}
use Rattle.small_answers.proofs.Elements.{each_both, each_mapped, each_weaker, pairs_map}
use Rattle.small_answers.proofs.FoldersFound.{each_numbered}

-- ---- by a change of each folder

module _ (mail : StoreMail) (h : StoreFolder → StoreFolder) (small : IsSmallMail mail) (same : AllByRecursion (λ x. use_of (h x) ≡ use_of x) mail.folders) where
  pairs_kept : (R : NameUse → NameUse → Type 0) → AllPairs (λ a b. R (use_of a) (use_of b)) mail.folders → AllPairs (λ a b. R (use_of a) (use_of b)) (map h mail.folders)
  pairs_kept R apart =
      let each : All (λ x. use_of (h x) ≡ use_of x) mail.folders = All-from_recursion (λ x. use_of (h x) ≡ use_of x) mail.folders same in
      pairs_map h (λ a b. R (use_of a) (use_of b)) mail.folders
      (λ i j d l m. subst (λ (u : NameUse). R u (use_of (h (slice_index_or mail.folders j d)))) (sym (each i d (omega (arith, l, m))))
      (subst (λ (u : NameUse). R (use_of (slice_index_or mail.folders i d)) u) (sym (each j d m)) (apart i j d l m)))

  pub mapped_small : AllByRecursion (λ x. IsStoreFolder (h x)) mail.folders → AllByRecursion (λ x. IsSmallFolder (h x)) mail.folders
      → IsSmallMail (record mail { folders = map h mail.folders })
  mapped_small stores smalls =
      let whole : IsStoreMail mail = small.well_formed in
      let after : StoreMail = record mail { folders = map h mail.folders } in
      record {
        well_formed = record {
          folders = All-from_recursion IsStoreFolder (map h mail.folders) (each_mapped h IsStoreFolder mail.folders stores);
          unselectable = subst (λ (ns : List UnselectableName). All (IsUnselectableName after) ns) (sym small.all_selectable) (All-nil (IsUnselectableName after));
          numbers = pairs_kept (λ u v. u.number ≢ v.number) whole.numbers;
          names = pairs_kept (λ u v. u.name ≢ v.name) whole.names;
          unselectable_names = whole.unselectable_names;
          uses = All-from_recursion (λ x. Contains mail.uses (use_of x)) (map h mail.folders) (each_mapped h (λ x. Contains mail.uses (use_of x)) mail.folders
              (each_both (λ x. use_of (h x) ≡ use_of x) (λ x. Contains mail.uses (use_of x)) (λ x. Contains mail.uses (use_of (h x)))
              (λ x as_was used. subst (λ (u : NameUse). Contains mail.uses u) (sym as_was) used) mail.folders same
              (recursion_from_All (λ x. Contains mail.uses (use_of x)) mail.folders whole.uses)));
          agree = whole.agree;
        };
        folders = All-from_recursion IsSmallFolder (map h mail.folders) (each_mapped h IsSmallFolder mail.folders smalls);
        numbers = small.numbers;
        all_selectable = small.all_selectable;
      }

-- ---- by another folder for one

-- g for the folder of its number
abbrev pub put : StoreFolder → StoreFolder → StoreFolder
put g x = if x.number == g.number then g else x

put_is : (P : StoreFolder → Type 0) (g x : StoreFolder) (b : Bool) → P g → P x → P (if b then g else x)
put_is P g x true here there = here
put_is P g x false here there = there

pub each_put : (P : StoreFolder → Type 0) (g : StoreFolder) → P g → (xs : List StoreFolder) → All P xs → AllByRecursion (λ x. P (put g x)) xs
each_put P g here xs h = each_weaker P (λ x. P (put g x)) (λ x there. put_is P g x (x.number == g.number) here there) xs (recursion_from_All P xs h)

abbrev use_or : NameUse → Option StoreFolder → NameUse
use_or u None = u
use_or u (Some f) = use_of f

module _ (mail : StoreMail) (f g : StoreFolder) (whole : IsStoreMail mail) (there : folder_numbered mail.folders f.number ≡ Some f) (same : use_of g ≡ use_of f) where
  use_at : (x : StoreFolder) → folder_numbered mail.folders x.number ≡ Some x → (b : Bool) → (x.number == g.number) ≡ b → use_of (if b then g else x) ≡ use_of x
  use_at x found true e =
      let number : x.number ≡ f.number = eqb-true x.number g.number e ∙ ap (λ (u : NameUse). u.number) same in
      let both : Some x ≡ Some f = sym found ∙ (ap (λ (n : ℕ). folder_numbered mail.folders n) number ∙ there) in
      same ∙ sym (ap (use_or (use_of x)) both)
  use_at x found false e = refl

  pub put_use : (x : StoreFolder) → folder_numbered mail.folders x.number ≡ Some x → use_of (put g x) ≡ use_of x
  put_use x found = use_at x found (x.number == g.number) refl

  pub each_use : AllByRecursion (λ x. use_of (put g x) ≡ use_of x) mail.folders
  each_use = each_weaker (λ x. folder_numbered mail.folders x.number ≡ Some x) (λ x. use_of (put g x) ≡ use_of x) put_use mail.folders
      (each_numbered mail.folders whole.numbers)

pub small_mail_kept : (mail : StoreMail) (f g : StoreFolder) → IsSmallMail mail → folder_numbered mail.folders f.number ≡ Some f → use_of g ≡ use_of f → IsStoreFolder g
    → IsSmallFolder g
    → IsSmallMail (with_store_folder mail g)
small_mail_kept mail f g small there same g_is g_small =
    mapped_small mail (put g) small (each_use mail f g small.well_formed there same) (each_put IsStoreFolder g g_is mail.folders small.well_formed.folders)
    (each_put IsSmallFolder g g_small mail.folders small.folders)
