-- Causes to refuse a command on names.
use Rattle.std.proofs.Common.{◌≡◌, ℕ, ◌<◌, ◌⊎◌, inl, inr, Bool, true, false, ◌||◌, List, [], ◌∷◌, ◌++◌, Option, Some, None, length, bytes_eq, refl, sym, ap, ◌∙◌, subst, arith}
use Rattle.std.proofs.Common.{Any, IsSome, is_some, nat_lt, if◌then◌else◌, eq-eqb}
use Rattle.std.specs.Prelude.{MatchBool}
use Rattle.std.specs.List.{flat_map, list_any}
use Rattle.std.proofs.lemmas.Bool.{ltb-true, false≢true, true≢false}
use Rattle.std.proofs.lemmas.Option.{none-some}
use Rattle.std.proofs.lemmas.Slice.Eq.{bytes_eq-Decides}
use Rattle.imap_types.specs.declared.command.Command.TheVariants as command
use Rattle.imap_types.specs.Folders.{folder_name}
use Rattle.honest_store.specs.StoreMail.{StoreFolder, folder_called}
use Rattle.honest_store.specs.FolderChanges.{child_part, from_delimiter, inbox_name, renamed_child, text_after}
use Rattle.honest_store.specs.Sessions.{StoreSession}
use Rattle.small_answers.specs.Limits.{text_limit}
use Rattle.small_answers.specs.Causes as causes
use Rattle.small_answers.specs.Causes.{RefusalCause, IsThere, HasChildren, NameTooLong}
use Rattle.small_answers.proofs.Elements.{any_head, any_left, any_right, any_tail}
use Rattle.small_store.specs.reading.Names.{is_below, is_child_refused, is_name_refused, is_part_refused}
use Rattle.small_store.proofs.Causing.{IsThereNow, IsTooLong, any_first, free_delete, free_rename}
use Rattle.small_store.proofs.Refusing.{match_by}

-- ---- some element passes a test

some_passes : {X : Type 0} (test : X → Bool) (xs : List X) → list_any test xs ≡ true → Any (λ (x : X). test x ≡ true) xs
some_passes test [] e = absurd (false≢true e)
some_passes {X} test (x ∷ xs) e = by (test x) refl e (some_passes test xs)
  where
    by : (b : Bool) → test x ≡ b → (b || list_any test xs) ≡ true → (list_any test xs ≡ true → Any (λ (y : X). test y ≡ true) xs) → Any (λ (y : X). test y ≡ true) (x ∷ xs)
    by true passes all later = any_head (λ (y : X). test y ≡ true) x xs passes
    by false fails all later = any_tail (λ (y : X). test y ≡ true) x xs (later all)

none_passes : {X : Type 0} (test : X → Bool) (xs : List X) → list_any test xs ≡ false → Any (λ (x : X). test x ≡ true) xs → ⊥
none_passes test [] e h = omega (arith, h.2)
none_passes {X} test (x ∷ xs) e h = by (test x) refl e (none_passes test xs) (any_first (λ (y : X). test y ≡ true) x h.1 xs h.0 h.2 h.3 h.4)
  where
    by : (b : Bool) → test x ≡ b → (b || list_any test xs) ≡ false → (list_any test xs ≡ false → Any (λ (y : X). test y ≡ true) xs → ⊥)
        → (test x ≡ true) ⊎ Any (λ (y : X). test y ≡ true) xs → ⊥
    by true passes all later k = true≢false all
    by false fails all later (inl here) = false≢true (sym fails ∙ here)
    by false fails all later (inr there) = later all there

-- ---- names that can't be made

refused_by : (b c : Bool) → (b || c) ≡ true → (b ≡ true) ⊎ (c ≡ true)
refused_by true c e = inl refl
refused_by false c e = inr e

-- such a name is too long, or a folder has it
refused_is : (s : StoreSession) (name : List ℕ) → is_name_refused s.mail name ≡ true → (text_limit < length name) ⊎ IsSome (folder_called s.mail.folders name)
refused_is s name e = by (refused_by (nat_lt text_limit (length name)) (is_some (folder_called s.mail.folders name)) e)
  where
    by : (nat_lt text_limit (length name) ≡ true) ⊎ (is_some (folder_called s.mail.folders name) ≡ true) → (text_limit < length name) ⊎ IsSome (folder_called s.mail.folders name)
    by (inl l) = inl (ltb-true text_limit (length name) l)
    by (inr there) = inr there

-- ---- DELETE

other_name : (told name : List ℕ) → told ≡ name → bytes_eq told inbox_name ≡ false → name ≡ inbox_name → ⊥
other_name told name is other e = true≢false (sym ((bytes_eq-Decides told inbox_name).1 (is ∙ e)) ∙ other)

module _ (s : StoreSession) (name : List ℕ) where
  delete_below : list_any (is_below (folder_name name)) s.mail.folders ≡ true → RefusalCause s (command.Delete name)
  delete_below e = HasChildren (some_passes (is_below (folder_name name)) s.mail.folders e)

  delete_free : (folder_name name ≡ inbox_name → ⊥) → (folder_called s.mail.folders name ≡ None → ⊥) → list_any (is_below (folder_name name)) s.mail.folders ≡ false
      → RefusalCause s (command.Delete name) → ⊥
  delete_free other there childless = free_delete s name other there (none_passes (is_below (folder_name name)) s.mail.folders childless)

  -- from the tests, in their order
  pub delete_tested : (told : List ℕ) (shown : List StoreFolder) (f : StoreFolder) (b : Bool) → told ≡ folder_name name → bytes_eq told inbox_name ≡ false
      → folder_called s.mail.folders name ≡ Some f → shown ≡ s.mail.folders → b ≡ list_any (is_below told) shown
      → MatchBool b (RefusalCause s (command.Delete name)) (RefusalCause s (command.Delete name) → ⊥)
  delete_tested told shown f b told_is other there shown_is test =
      match_by b (RefusalCause s (command.Delete name)) (λ is. delete_below (sym found ∙ is))
      (λ fails. delete_free (other_name told (folder_name name) told_is other) (λ none. none-some f (sym none ∙ there)) (sym found ∙ fails))
    where
      found : b ≡ list_any (is_below (folder_name name)) s.mail.folders
      found = test ∙ (ap (λ (t : List ℕ). list_any (is_below t) shown) told_is ∙ ap (list_any (is_below (folder_name name))) shown_is)

-- ---- RENAME

-- no name stands below itself
not_below : (name : List ℕ) (o : Option ℕ) (rest : List ℕ) → child_part name o name ≡ Some rest → ⊥
not_below name None rest e = none-some rest e
not_below name (Some d) rest e = none-some rest (sym (ap (from_delimiter d) (itself name)) ∙ e)
  where
    itself : (t : List ℕ) → text_after t t ≡ Some []
    itself [] = refl
    itself (c ∷ t) = ap (λ (b : Bool). if b then text_after t t else None) (eq-eqb c c refl) ∙ itself t

module _ (s : StoreSession) (from to : List ℕ) where
  some_made : (P : List ℕ → Type 0) (fs : List StoreFolder) → Any (λ (f : StoreFolder). Any P (causes.names_renamed from to f)) fs
      → Any P (flat_map (causes.names_renamed from to) fs)
  some_made P [] h = absurd (omega (arith, h.2))
  some_made P (f ∷ fs) h =
      by (some_made P fs) (any_first (λ (g : StoreFolder). Any P (causes.names_renamed from to g)) f h.1 fs h.0 h.2 h.3 h.4)
    where
      by : (Any (λ (g : StoreFolder). Any P (causes.names_renamed from to g)) fs → Any P (flat_map (causes.names_renamed from to) fs))
          → Any P (causes.names_renamed from to f) ⊎ Any (λ (g : StoreFolder). Any P (causes.names_renamed from to g)) fs
          → Any P (flat_map (causes.names_renamed from to) (f ∷ fs))
      by later (inl a) = any_left P (causes.names_renamed from to f) (flat_map (causes.names_renamed from to) fs) a
      by later (inr a) = any_right P (causes.names_renamed from to f) (flat_map (causes.names_renamed from to) fs) (later a)

  renamed_is : (P : List ℕ → Type 0) (f : StoreFolder) (rest : List ℕ) → child_part from f.delimiter f.name ≡ Some rest → P (to ++ rest)
      → Any P (causes.names_renamed from to f)
  renamed_is P f rest e p = by (bytes_eq f.name from) refl (child_part from f.delimiter f.name) e
    where
      by : (b : Bool) → bytes_eq f.name from ≡ b → (o : Option (List ℕ)) → o ≡ Some rest
          → Any P (if b || is_some o then (if b then to else renamed_child f.name to o) ∷ [] else [])
      by true same o is =
          absurd (not_below from f.delimiter rest (subst (λ (n : List ℕ). child_part from f.delimiter n ≡ Some rest) ((bytes_eq-Decides f.name from).0 same) e))
      by false other (Some r) is = any_head P (to ++ r) [] (subst (λ (o : Option (List ℕ)). P (renamed_child f.name to o)) (sym is) p)
      by false other None is = absurd (none-some rest is)

abbrev IsRefusedName : StoreSession → List ℕ → Type 0
IsRefusedName s name = is_name_refused s.mail name ≡ true

module _ (s : StoreSession) (from to : List ℕ) where
  made_refused : Any (IsRefusedName s) (causes.names_made (command.Rename from to) s.mail) → RefusalCause s (command.Rename from to)
  made_refused h = by (refused_is s h.1 h.4)
    where
      by : IsTooLong h.1 ⊎ IsThereNow s h.1 → RefusalCause s (command.Rename from to)
      by (inl l) = NameTooLong (h.0, h.1, h.2, h.3, l)
      by (inr there) = IsThere (h.0, h.1, h.2, h.3, there)

  child_made : (f : StoreFolder) → is_child_refused s.mail (folder_name from) (folder_name to) f ≡ true
      → Any (IsRefusedName s) (causes.names_renamed (folder_name from) (folder_name to) f)
  child_made f e = by (child_part (folder_name from) f.delimiter f.name) refl e
    where
      by : (o : Option (List ℕ)) → child_part (folder_name from) f.delimiter f.name ≡ o → is_part_refused s.mail (folder_name to) o ≡ true
          → Any (IsRefusedName s) (causes.names_renamed (folder_name from) (folder_name to) f)
      by None is refused = absurd (false≢true refused)
      by (Some rest) is refused = renamed_is s (folder_name from) (folder_name to) (IsRefusedName s) f rest is refused

  rename_child : list_any (is_child_refused s.mail (folder_name from) (folder_name to)) s.mail.folders ≡ true → RefusalCause s (command.Rename from to)
  rename_child e =
      let h = some_passes (is_child_refused s.mail (folder_name from) (folder_name to)) s.mail.folders e in
      made_refused (any_tail (IsRefusedName s) (folder_name to) (flat_map (causes.names_renamed (folder_name from) (folder_name to)) s.mail.folders)
      (some_made s (folder_name from) (folder_name to) (IsRefusedName s) s.mail.folders (h.0, h.1, h.2, h.3, child_made h.1 h.4)))

  -- from the tests, in their order
  pub rename_tested : (told_from told_to : List ℕ) (f : StoreFolder) → told_from ≡ folder_name from → told_to ≡ folder_name to → bytes_eq told_from inbox_name ≡ false
      → folder_called s.mail.folders from ≡ Some f → is_name_refused s.mail told_to ≡ false
      → (b : Bool) → b ≡ list_any (is_child_refused s.mail told_from told_to) s.mail.folders
      → MatchBool b (RefusalCause s (command.Rename from to)) (RefusalCause s (command.Rename from to) → ⊥)
  rename_tested told_from told_to f from_is to_is other there free b test =
      match_by b (RefusalCause s (command.Rename from to)) (λ is. rename_child (sym found ∙ is))
      (λ fails. free_rename s from to (other_name told_from (folder_name from) from_is other) (λ none. none-some f (sym none ∙ there))
      (ap (is_name_refused s.mail) (sym to_is) ∙ free) (sym found ∙ fails))
    where
      found : b ≡ list_any (is_child_refused s.mail (folder_name from) (folder_name to)) s.mail.folders
      found =
          test ∙ (ap (λ (t : List ℕ). list_any (is_child_refused s.mail t told_to) s.mail.folders) from_is
          ∙ ap (λ (t : List ℕ). list_any (is_child_refused s.mail (folder_name from) t) s.mail.folders) to_is)
