-- Answers to RENAME are honest, and leave the small store's mail.
use Rattle.std.proofs.Common.{◌≡◌, ◌≢◌, inl, inr, ℕ, Bool, true, false, List, [], ◌∷◌, ◌++◌, Option, Some, None, IsSome, bytes_eq, slice_index_or, refl, sym, ap, ◌∙◌}
use Rattle.std.proofs.Common.{subst, arith, All, AllPairs, Contains, if◌then◌else◌}
use Rattle.std.specs.List.{AllByRecursion, flat_map}
use Rattle.std.proofs.lemmas.List.Elements.{All-append, All-contains, All-contains_itself, All-from_recursion, All-nil, Contains-append_left, Contains-append_right}
use Rattle.std.proofs.lemmas.List.Elements.{recursion_from_All}
use Rattle.std.proofs.lemmas.Slice.Eq.{bytes_eq-Decides}
use Rattle.imap_types.specs.declared.code.Code.TheVariants as code
use Rattle.imap_types.specs.declared.command.Command.TheVariants as command
use Rattle.imap_types.specs.Folders.{folder_name}
use Rattle.imap_types.specs.Octets.{is_text}
use Rattle.imap_types.specs.Texts.{Each}
use Rattle.honest_store.specs.StoreMail.{StoreFolder, NameUse, UnselectableName, StoreMail, folder_called}
use Rattle.honest_store.specs.WellFormed.{IsStoreFolder, IsToldName, IsUnselectableName, IsStoreMail, use_of}
use Rattle.honest_store.specs.FolderChanges.{IsNameThere, name_after_rename, new_use, renamed_folder, renamed_folders}
use Rattle.honest_store.specs.Sessions.{StoreSession}
use Rattle.small_answers.specs.Changes.{mail_renamed}
use Rattle.small_answers.specs.Causes.{RefusalCause, NotThere, IsThere, IsInbox, names_made, names_renamed}
use Rattle.small_answers.specs.Answers.{over_mail}
use Rattle.small_answers.specs.SmallMail.{IsSmallFolder, IsSmallMail}
use Rattle.small_answers.proofs.Elements.{any_head, each_both, each_in_joined, each_joined, each_mapped, each_not_any, each_parted, each_weaker, pairs_map}
use Rattle.small_answers.proofs.Searches.{any_found}
use Rattle.small_answers.proofs.FoldersFound.{name_found}
use Rattle.small_answers.proofs.Names.{agree_by_number, each_not_called, each_own_number, told_name}
use Rattle.small_answers.proofs.FoldersKept.{named_is}
use Rattle.small_answers.proofs.Reading.{late_answer}
use Rattle.small_answers.proofs.Renamed.{IsRenamed, renamed_as, renamed_told}
use Rattle.small_answers.proofs.Replies.{IsOkGood}

-- ---- names that are apart

abbrev tail_of : List ℕ → List ℕ
tail_of [] = []
tail_of (c ∷ t) = t

same_rest : (t x y : List ℕ) → t ++ x ≡ t ++ y → x ≡ y
same_rest [] x y e = e
same_rest (c ∷ t) x y e = same_rest t x y (ap tail_of e)

module _ (fs : List StoreFolder) (from to : List ℕ) where
  abbrev new : StoreFolder → List ℕ
  new x = name_after_rename from to x

  -- a folder that is there, and its name after
  pub record IsPlaced (x : StoreFolder) : Type 0 where
    pub there : Contains fs x
    pub told : folder_name x.name ≡ x.name
    pub renamed : IsRenamed fs from to x (new x)

  -- a name that no folder has yet is no folder's that keeps its own
  not_kept : (a b : StoreFolder) → folder_called fs (new a) ≡ None → IsPlaced b → new b ≡ b.name → new a ≢ new b
  not_kept a b none b_is kept same =
      All-contains (λ f. f.name ≢ folder_name (new a)) fs b (All-from_recursion (λ f. f.name ≢ folder_name (new a)) fs (each_not_called fs (new a) none)) b_is.there
      (sym b_is.told ∙ ap folder_name (sym kept ∙ sym same))

  apart_by : (a b : StoreFolder) → IsPlaced a → IsPlaced b → a.name ≢ b.name → IsRenamed fs from to a (new a) → IsRenamed fs from to b (new b) → new a ≢ new b
  apart_by a b a_is b_is other (inl a_kept) (inl b_kept) same = other (sym a_kept ∙ (same ∙ b_kept))
  apart_by a b a_is b_is other (inr a_moved) (inl b_kept) same = not_kept a b a_moved.new b_is b_kept same
  apart_by a b a_is b_is other (inl a_kept) (inr b_moved) same = not_kept b a b_moved.new a_is a_kept (sym same)
  apart_by a b a_is b_is other (inr a_moved) (inr b_moved) same =
      let rests : a_moved.rest ≡ b_moved.rest = same_rest to a_moved.rest b_moved.rest (sym a_moved.now ∙ (same ∙ b_moved.now)) in
      other (a_moved.was ∙ (ap (λ (r : List ℕ). from ++ r) rests ∙ sym b_moved.was))

  names_apart : All IsPlaced fs → AllPairs (λ (x y : StoreFolder). x.name ≢ y.name) fs → AllPairs (λ (x y : StoreFolder). x.name ≢ y.name) (renamed_folders from to fs)
  names_apart placed apart =
      pairs_map (renamed_folder from to) (λ (x y : StoreFolder). x.name ≢ y.name) fs
      (λ i j d l m. let a : StoreFolder = slice_index_or fs i d in let b : StoreFolder = slice_index_or fs j d in
      let a_is : IsPlaced a = placed i d (omega (arith, l, m)) in let b_is : IsPlaced b = placed j d m in
      apart_by a b a_is b_is (apart i j d l m) a_is.renamed b_is.renamed)

-- ---- the mail after

module _ (mail : StoreMail) (from to : List ℕ) (small : IsSmallMail mail) (told : IsToldName to)
    (free : AllByRecursion (λ k. folder_called mail.folders k ≡ None) (flat_map (names_renamed from to) mail.folders)) where
  placed : All (IsPlaced mail.folders from to) mail.folders
  placed =
      let free_of : AllByRecursion (λ x. AllByRecursion (λ k. folder_called mail.folders k ≡ None) (names_renamed from to x)) mail.folders =
      each_parted (names_renamed from to) (λ k. folder_called mail.folders k ≡ None) mail.folders free in
      let renamed : AllByRecursion (λ x. IsRenamed mail.folders from to x (name_after_rename from to x)) mail.folders =
      each_both IsSmallFolder (λ x. AllByRecursion (λ k. folder_called mail.folders k ≡ None) (names_renamed from to x))
      (λ x. IsRenamed mail.folders from to x (name_after_rename from to x))
      (λ x is none. renamed_as mail.folders from to x is.delimiter none) mail.folders (recursion_from_All IsSmallFolder mail.folders small.folders) free_of in
      λ k d l. record {
        there = All-contains_itself mail.folders k d l;
        told = (small.well_formed.folders k d l).name.as_told;
        renamed = All-from_recursion (λ x. IsRenamed mail.folders from to x (name_after_rename from to x)) mail.folders renamed k d l;
      }

  abbrev uses : List NameUse
  uses = mail.uses ++ flat_map (new_use from to) mail.folders

  used_if : (x : StoreFolder) (b : Bool) → bytes_eq (name_after_rename from to x) x.name ≡ b → Contains mail.uses (use_of x)
      → AllByRecursion (Contains (flat_map (new_use from to) mail.folders)) (if b then [] else use_of (renamed_folder from to x) ∷ [])
      → Contains uses (use_of (renamed_folder from to x))
  used_if x true e used new =
      subst (λ (name : List ℕ). Contains uses (record { number = x.number; name = name; validity = x.validity }))
      (sym ((bytes_eq-Decides (name_after_rename from to x) x.name).0 e))
      (Contains-append_left mail.uses (flat_map (new_use from to) mail.folders) (use_of x) used)
  used_if x false e used new = Contains-append_right mail.uses (flat_map (new_use from to) mail.folders) (use_of (renamed_folder from to x)) new.0

  each_used : AllByRecursion (λ x. Contains uses (use_of (renamed_folder from to x))) mail.folders
  each_used =
      each_both (λ x. Contains mail.uses (use_of x)) (λ x. AllByRecursion (Contains (flat_map (new_use from to) mail.folders)) (new_use from to x))
      (λ x. Contains uses (use_of (renamed_folder from to x))) (λ x used new. used_if x (bytes_eq (name_after_rename from to x) x.name) refl used new) mail.folders
      (recursion_from_All (λ x. Contains mail.uses (use_of x)) mail.folders small.well_formed.uses) (each_in_joined (new_use from to) mail.folders)

  own_if : (x : StoreFolder) (b : Bool) → x.number ≡ x.validity → AllByRecursion (λ u. u.number ≡ u.validity) (if b then [] else use_of (renamed_folder from to x) ∷ [])
  own_if x true own = tt
  own_if x false own = (own, tt)

  own_numbers : All (λ u. u.number ≡ u.validity) uses
  own_numbers =
      All-append (λ u. u.number ≡ u.validity) mail.uses (flat_map (new_use from to) mail.folders) small.numbers
      (All-from_recursion (λ u. u.number ≡ u.validity) (flat_map (new_use from to) mail.folders)
      (each_joined (new_use from to) (λ u. u.number ≡ u.validity) mail.folders
      (each_weaker (λ x. x.number ≡ x.validity) (λ x. AllByRecursion (λ u. u.number ≡ u.validity) (new_use from to x))
      (λ x own. own_if x (bytes_eq (name_after_rename from to x) x.name) own) mail.folders (each_own_number mail small))))

  each_folder : AllByRecursion (λ x. IsStoreFolder (renamed_folder from to x)) mail.folders
  each_folder =
      each_both IsStoreFolder (IsPlaced mail.folders from to) (λ x. IsStoreFolder (renamed_folder from to x))
      (λ x is at. named_is x (name_after_rename from to x) x.attributes is
      (renamed_told mail.folders from to x (name_after_rename from to x) told is.name at.renamed) is.attributes is.selectable) mail.folders
      (recursion_from_All IsStoreFolder mail.folders small.well_formed.folders) (recursion_from_All (IsPlaced mail.folders from to) mail.folders placed)

  pub renamed_small : IsSmallMail (mail_renamed mail from to)
  renamed_small =
      let whole : IsStoreMail mail = small.well_formed in let after : StoreMail = mail_renamed mail from to in
      let fs : List StoreFolder = renamed_folders from to mail.folders in
      record {
        well_formed = record {
          folders = All-from_recursion IsStoreFolder fs (each_mapped (renamed_folder from to) IsStoreFolder mail.folders each_folder);
          unselectable = subst (λ (ns : List UnselectableName). All (IsUnselectableName after) ns) (sym small.all_selectable) (All-nil (IsUnselectableName after));
          numbers = pairs_map (renamed_folder from to) (λ (x y : StoreFolder). x.number ≢ y.number) mail.folders whole.numbers;
          names = names_apart mail.folders from to placed whole.names;
          unselectable_names = whole.unselectable_names;
          uses = All-from_recursion (λ x. Contains uses (use_of x)) fs (each_mapped (renamed_folder from to) (λ x. Contains uses (use_of x)) mail.folders each_used);
          agree = agree_by_number uses own_numbers;
        };
        folders = All-from_recursion IsSmallFolder fs (each_mapped (renamed_folder from to) IsSmallFolder mail.folders
            (each_weaker IsSmallFolder (λ x. IsSmallFolder (renamed_folder from to x))
            (λ x is. record { modseqs = is.modseqs; delimiter = is.delimiter; uid_next = is.uid_next }) mail.folders
            (recursion_from_All IsSmallFolder mail.folders small.folders)));
        numbers = own_numbers;
        all_selectable = small.all_selectable;
      }

-- ---- the answer

none_from : (q : Option StoreFolder) → (IsSome q → ⊥) → q ≡ None
none_from None free = refl
none_from (Some f) free = absurd (free refl)

module _ (s : StoreSession) (from to : List ℕ) (small : IsSmallMail s.mail) (text : Each is_text to) (free : RefusalCause s (command.Rename from to) → ⊥) where
  none_there : AllByRecursion (λ k. folder_called s.mail.folders k ≡ None) (names_made (command.Rename from to) s.mail)
  none_there =
      each_not_any (λ k. IsSome (folder_called s.mail.folders k)) (λ k. folder_called s.mail.folders k ≡ None) (λ k absent. none_from (folder_called s.mail.folders k) absent)
      (names_made (command.Rename from to) s.mail) (λ any. free (IsThere any))

  is_there : (q : Option StoreFolder) → folder_called s.mail.folders from ≡ q → IsNameThere s.mail (folder_name from)
  is_there None e = absurd (free (NotThere (any_head (λ k. folder_called s.mail.folders k ≡ None) from [] e)))
  is_there (Some f) e = inl (any_found (λ g. g.name ≡ folder_name from) (λ g. bytes_eq g.name (folder_name from)) s.mail.folders f e (name_found s.mail.folders from f e))

  pub rename_good : IsOkGood s (command.Rename from to)
  rename_good =
      let after : StoreMail = mail_renamed s.mail (folder_name from) (folder_name to) in
      let after_small : IsSmallMail after = renamed_small s.mail (folder_name from) (folder_name to) small (told_name to text) none_there.1 in
      record {
        honest = late_answer s (over_mail s after) (command.Rename from to) [] code.Absent after_small.well_formed tt tt (
          refl,
          record {
            no_inbox = λ is_inbox. free (IsInbox is_inbox);
            there = is_there (folder_called s.mail.folders from) refl;
            free = none_there.0;
            changes = record { folders_are = refl; uses_are = refl };
          },
        );
        small = after_small;
      }
