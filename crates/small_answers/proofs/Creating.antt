-- Answers to CREATE are honest, and leave the small store's mail.
use Rattle.std.proofs.Common.{◌≡◌, ◌≢◌, ◌⊎◌, inl, inr, ℕ, ◌^◌, ◌<◌, ◌≤◌, List, [], ◌∷◌, ◌++◌, Option, Some, None, IsSome, refl, sym, ◌∙◌, subst, arith, All, Contains}
use Rattle.std.proofs.lemmas.Bool.{cases_lt}
use Rattle.std.proofs.lemmas.List.Elements.{All-append, All-cons, All-contains, All-from_recursion, All-nil, All-weaker, Contains-append_left, Contains-push}
use Rattle.std.proofs.lemmas.List.Quantifiers.{all_pairs_push}
use Rattle.imap_types.specs.declared.code.Code.TheVariants as code
use Rattle.imap_types.specs.declared.command.Command.TheVariants as command
use Rattle.imap_types.specs.Folders.{folder_name}
use Rattle.imap_types.specs.Octets.{is_text}
use Rattle.imap_types.specs.Texts.{Each}
use Rattle.honest_store.specs.StoreMail.{StoreFolder, NameUse, UnselectableName, StoreMail, folder_called}
use Rattle.honest_store.specs.WellFormed.{IsStoreFolder, IsStoreMessage, IsExpungedUid, IsUnselectableName, IsStoreMail, IsToldName, use_of}
use Rattle.honest_store.specs.Sessions.{StoreSession}
use Rattle.small_answers.specs.Changes.{empty_folder, mail_created, next_validity}
use Rattle.small_answers.specs.Causes.{RefusalCause, IsThere, NumberSpent}
use Rattle.small_answers.specs.Answers.{over_mail}
use Rattle.small_answers.specs.SmallMail.{IsSmallFolder, IsSmallMail}
use Rattle.small_answers.proofs.Elements.{any_head, each_weaker}
use Rattle.small_answers.proofs.Reading.{late_answer}
use Rattle.small_answers.proofs.Names.{agree_by_number, each_not_called, each_used_below, told_name, validity_grows}
use Rattle.small_answers.proofs.Replies.{IsOkGood}

-- ---- an empty folder

pub empty_is : (name : List ℕ) (validity : ℕ) → IsToldName name → 1 ≤ validity → validity < 2 ^ 32 → IsStoreFolder (empty_folder name validity)
empty_is name validity told some fits = record {
  name = told;
  delimiter = refl;
  attributes = refl;
  selectable = refl;
  validity = (some, fits);
  highest = (omega arith, omega arith);
  highest_fits = omega arith;
  uid_next = (omega arith, omega arith);
  ascend = tt;
  messages = All-nil (IsStoreMessage (empty_folder name validity));
  expunged = All-nil (IsExpungedUid (empty_folder name validity));
}

pub empty_small : (name : List ℕ) (validity : ℕ) → IsSmallFolder (empty_folder name validity)
empty_small name validity = record { modseqs = refl; delimiter = refl; uid_next = omega arith }

-- ---- the mail with it

module _ (mail : StoreMail) (name : List ℕ) (small : IsSmallMail mail) (told : IsToldName name) (none : folder_called mail.folders name ≡ None)
    (fits : next_validity mail < 2 ^ 32) where
  abbrev f : StoreFolder
  f = empty_folder name (next_validity mail)

  abbrev uses : List NameUse
  uses = mail.uses ++ use_of f ∷ []

  below : All (λ u. u.validity < next_validity mail) mail.uses
  below = All-from_recursion (λ u. u.validity < next_validity mail) mail.uses (each_used_below 1 mail.uses)

  own_numbers : All (λ u. u.number ≡ u.validity) uses
  own_numbers = All-append (λ u. u.number ≡ u.validity) mail.uses (use_of f ∷ []) small.numbers
      (All-cons (λ u. u.number ≡ u.validity) (use_of f) [] refl (All-nil (λ u. u.number ≡ u.validity)))

  pub fresh_number : All (λ u. u.number ≢ next_validity mail) mail.uses
  fresh_number k d l same =
      let own : _ ≡ _ = small.numbers k d l in let under : _ < _ = below k d l in omega (arith, own, under, same)

  other_number : All (λ x. x.number ≢ next_validity mail) mail.folders
  other_number =
      All-weaker (λ x. Contains mail.uses (use_of x)) (λ x. x.number ≢ next_validity mail)
      (λ x used. All-contains (λ u. u.number ≢ next_validity mail) mail.uses (use_of x) fresh_number used) mail.folders small.well_formed.uses

  other_name : All (λ x. x.name ≢ name) mail.folders
  other_name =
      All-from_recursion (λ x. x.name ≢ name) mail.folders
      (each_weaker (λ x. x.name ≢ folder_name name) (λ x. x.name ≢ name) (λ x other same. other (same ∙ sym told.as_told)) mail.folders
      (each_not_called mail.folders name none))

  pub created_small : IsSmallMail (mail_created mail f)
  created_small =
      let whole : IsStoreMail mail = small.well_formed in
      let after : StoreMail = mail_created mail f in
      record {
        well_formed = record {
          folders = All-append IsStoreFolder mail.folders (f ∷ []) whole.folders
              (All-cons IsStoreFolder f [] (empty_is name (next_validity mail) told (validity_grows 1 mail.uses) fits) (All-nil IsStoreFolder));
          unselectable = subst (λ (ns : List UnselectableName). All (IsUnselectableName after) ns) (sym small.all_selectable) (All-nil (IsUnselectableName after));
          numbers = all_pairs_push (λ (x y : StoreFolder). x.number ≢ y.number) mail.folders f whole.numbers other_number;
          names = all_pairs_push (λ (x y : StoreFolder). x.name ≢ y.name) mail.folders f whole.names other_name;
          unselectable_names = whole.unselectable_names;
          uses = All-append (λ x. Contains uses (use_of x)) mail.folders (f ∷ [])
              (All-weaker (λ x. Contains mail.uses (use_of x)) (λ x. Contains uses (use_of x))
              (λ x used. Contains-append_left mail.uses (use_of f ∷ []) (use_of x) used) mail.folders whole.uses)
              (All-cons (λ x. Contains uses (use_of x)) f [] (Contains-push mail.uses (use_of f)) (All-nil (λ x. Contains uses (use_of x))));
          agree = agree_by_number uses own_numbers;
        };
        folders = All-append IsSmallFolder mail.folders (f ∷ []) small.folders (All-cons IsSmallFolder f [] (empty_small name (next_validity mail)) (All-nil IsSmallFolder));
        numbers = own_numbers;
        all_selectable = small.all_selectable;
      }

-- ---- the answer

module _ (s : StoreSession) (name : List ℕ) (small : IsSmallMail s.mail) (text : Each is_text name) (free : RefusalCause s (command.Create name) → ⊥) where
  none_at : (q : Option StoreFolder) → folder_called s.mail.folders (folder_name name) ≡ q → folder_called s.mail.folders (folder_name name) ≡ None
  none_at None e = e
  none_at (Some f) e =
      absurd (free (IsThere (any_head (λ k. IsSome (folder_called s.mail.folders k)) (folder_name name) [] (subst (λ (q : Option StoreFolder). IsSome q) (sym e) refl))))

  fits_at : (next_validity s.mail < 2 ^ 32) ⊎ (2 ^ 32 ≤ next_validity s.mail) → next_validity s.mail < 2 ^ 32
  fits_at (inl below) = below
  fits_at (inr above) = absurd (free (NumberSpent above))

  pub create_good : IsOkGood s (command.Create name)
  create_good =
      let told : IsToldName (folder_name name) = told_name name text in
      let none : folder_called s.mail.folders (folder_name name) ≡ None = none_at (folder_called s.mail.folders (folder_name name)) refl in
      let fits : next_validity s.mail < 2 ^ 32 = fits_at (cases_lt (next_validity s.mail) (2 ^ 32)) in
      let f : StoreFolder = empty_folder (folder_name name) (next_validity s.mail) in
      let after : StoreMail = mail_created s.mail f in
      let after_small : IsSmallMail after = created_small s.mail (folder_name name) small told none fits in
      record {
        honest = late_answer s (over_mail s after) (command.Create name) [] code.Absent after_small.well_formed tt tt (
          refl,
          (
            f,
            inl refl,
            record {
              free = none;
              fresh = fresh_number s.mail (folder_name name) small told none fits;
              empty = (refl, refl);
              changes = record { folders_are = refl; uses_are = refl };
            },
          ),
        );
        small = after_small;
      }
