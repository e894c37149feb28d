-- The causes to refuse each command.
use Rattle.std.proofs.Common.{◌≡◌, ◌⊎◌, inl, inr, ℕ, zero, suc, ◌<◌, ◌||◌, Bool, true, false, List, [], ◌∷◌, ◌++◌, Option, Some, None, length, get_or, refl, sym, subst, ap, ◌∙◌}
use Rattle.std.proofs.Common.{arith, Any, IsSome, is_some, bytes_eq, nat_lt, if◌then◌else◌, true≢false}
use Rattle.std.specs.List.{flat_map, list_any}
use Rattle.std.proofs.lemmas.Bool.{ltb-false}
use Rattle.imap_types.specs.declared.command.Command.{Command}
use Rattle.imap_types.specs.declared.command.Command.TheVariants as command
use Rattle.imap_types.specs.Folders.{folder_name}
use Rattle.honest_store.specs.StoreMail.{StoreFolder, StoreMail, folder_called}
use Rattle.honest_store.specs.FolderChanges.{child_part, inbox_name, renamed_child}
use Rattle.honest_store.specs.Sessions.{StoreSession}
use Rattle.small_answers.specs.Changes.{mail_without, selected_folder}
use Rattle.small_answers.specs.Limits.{text_limit, total_length, is_last_change, is_last_message}
use Rattle.small_answers.specs.Causes as causes
use Rattle.small_answers.specs.Causes.{RefusalCause, NotThere, IsThere, IsInbox, HasChildren, NothingSelected, NoMessage, NameTooLong, FlagsTooLong, NumberSpent}
use Rattle.small_answers.specs.Causes.{IsAtEnd, NeedsSelected}
use Rattle.small_answers.proofs.Elements.{any_head, any_of_none, any_tail}
use Rattle.small_store.specs.reading.Names.{is_name_refused, is_part_refused, is_child_refused}

-- ---- lists of one name, and of none

one_by : {X : Type 0} (P : X → Type 0) (x y : X) (k : ℕ) → k < 1 → get_or (x ∷ []) k y ≡ y → P y → P x
one_by P x y zero l is p = subst P (sym is) p
one_by P x y (suc k) l is p = absurd (omega (arith, l))

only_one : {X : Type 0} (P : X → Type 0) (x : X) → Any P (x ∷ []) → P x
only_one P x h = one_by P x h.1 h.0 h.2 h.3 h.4

abbrev pub IsThereNow : StoreSession → List ℕ → Type 0
IsThereNow s name = IsSome (folder_called s.mail.folders name)

abbrev pub IsTooLong : List ℕ → Type 0
IsTooLong name = text_limit < length name

abbrev pub IsNotThere : StoreSession → List ℕ → Type 0
IsNotThere s name = folder_called s.mail.folders name ≡ None

-- where none of the nine holds
none_of_nine : (s : StoreSession) (c : Command)
    → (Any (IsNotThere s) (causes.names_asked c) → ⊥)
    → (Any (IsThereNow s) (causes.names_made c s.mail) → ⊥)
    → (causes.TouchesInbox c → ⊥)
    → (causes.LeavesChildren s.mail c → ⊥)
    → (NeedsSelected c → s.selected ≡ None → ⊥)
    → (causes.MovesNothing s c → ⊥)
    → (Any IsTooLong (causes.names_made c s.mail) → ⊥)
    → (text_limit < total_length (causes.flags_made s c) → ⊥)
    → (causes.PassesEnd s c → ⊥)
    → RefusalCause s c → ⊥
none_of_nine s c a b d e f g h i j (NotThere x) = a x
none_of_nine s c a b d e f g h i j (IsThere x) = b x
none_of_nine s c a b d e f g h i j (IsInbox x) = d x
none_of_nine s c a b d e f g h i j (HasChildren x) = e x
none_of_nine s c a b d e f g h i j (NothingSelected x y) = f x y
none_of_nine s c a b d e f g h i j (NoMessage x) = g x
none_of_nine s c a b d e f g h i j (NameTooLong x) = h x
none_of_nine s c a b d e f g h i j (FlagsTooLong x) = i x
none_of_nine s c a b d e f g h i j (NumberSpent x) = j x

no_flags : text_limit < total_length [] → ⊥
no_flags l = omega (arith, l)

-- ---- commands that nothing refuses while what they need is selected

abbrev pub IsFree : Command → Type 0
IsFree c = (s : StoreSession) → (NeedsSelected c → s.selected ≡ None → ⊥) → RefusalCause s c → ⊥

free_by : (s : StoreSession) (c : Command) → (causes.names_asked c ≡ []) → (causes.names_made c s.mail ≡ []) → (causes.TouchesInbox c → ⊥)
    → (causes.LeavesChildren s.mail c → ⊥) → (NeedsSelected c → s.selected ≡ None → ⊥) → (causes.MovesNothing s c → ⊥)
    → (causes.flags_made s c ≡ []) → (causes.PassesEnd s c → ⊥) → RefusalCause s c → ⊥
free_by s c asked made inbox children selected moves flags spent =
    none_of_nine s c (λ a. any_of_none (IsNotThere s) (subst (λ (ns : List (List ℕ)). Any (IsNotThere s) ns) asked a))
    (λ a. any_of_none (IsThereNow s) (subst (λ (ns : List (List ℕ)). Any (IsThereNow s) ns) made a)) inbox children selected moves
    (λ a. any_of_none IsTooLong (subst (λ (ns : List (List ℕ)). Any IsTooLong ns) made a))
    (λ l. no_flags (subst (λ (ns : List (List ℕ)). text_limit < total_length ns) flags l)) spent

pub free_capability : IsFree command.Capability
free_capability s needs = free_by s command.Capability refl refl (λ a. a) (λ a. a) needs (λ a. a) refl (λ a. a)

pub free_login : (user password : List ℕ) → IsFree (command.Login user password)
free_login user password s needs = free_by s (command.Login user password) refl refl (λ a. a) (λ a. a) needs (λ a. a) refl (λ a. a)

pub free_enable : IsFree command.Enable
free_enable s needs = free_by s command.Enable refl refl (λ a. a) (λ a. a) needs (λ a. a) refl (λ a. a)

pub free_list : (special_use : Bool) → IsFree (command.List special_use)
free_list special_use s needs = free_by s (command.List special_use) refl refl (λ a. a) (λ a. a) needs (λ a. a) refl (λ a. a)

pub free_unselect : IsFree command.Unselect
free_unselect s needs = free_by s command.Unselect refl refl (λ a. a) (λ a. a) needs (λ a. a) refl (λ a. a)

pub free_flags : IsFree command.FetchFlags
free_flags s needs = free_by s command.FetchFlags refl refl (λ a. a) (λ a. a) needs (λ a. a) refl (λ a. a)

pub free_slice : (from to : ℕ) (modseq : Bool) → IsFree (command.FetchSlice from to modseq)
free_slice from to modseq s needs = free_by s (command.FetchSlice from to modseq) refl refl (λ a. a) (λ a. a) needs (λ a. a) refl (λ a. a)

pub free_new : (from : ℕ) (modseq : Bool) → IsFree (command.FetchNew from modseq)
free_new from modseq s needs = free_by s (command.FetchNew from modseq) refl refl (λ a. a) (λ a. a) needs (λ a. a) refl (λ a. a)

pub free_body : (uid : ℕ) → IsFree (command.FetchBody uid)
free_body uid s needs = free_by s (command.FetchBody uid) refl refl (λ a. a) (λ a. a) needs (λ a. a) refl (λ a. a)

-- ---- DELETE

pub free_delete : (s : StoreSession) (name : List ℕ) → (folder_name name ≡ inbox_name → ⊥) → (IsNotThere s name → ⊥)
    → (Any (λ (f : StoreFolder). IsSome (child_part (folder_name name) f.delimiter f.name)) s.mail.folders → ⊥) → RefusalCause s (command.Delete name) → ⊥
free_delete s name other there childless =
    none_of_nine s (command.Delete name) (λ a. there (only_one (IsNotThere s) name a)) (any_of_none (IsThereNow s)) other childless (λ a e. a) (λ a. a)
    (any_of_none IsTooLong) no_flags (λ a. a)

-- ---- RENAME

or_left_none : (x y : Bool) → (x || y) ≡ false → x ≡ false
or_left_none true y e = e
or_left_none false y e = refl

or_right_none : (x y : Bool) → (x || y) ≡ false → y ≡ false
or_right_none true y e = absurd (true≢false e)
or_right_none false y e = e

pub any_first : {X : Type 0} (P : X → Type 0) (x y : X) (xs : List X) (k : ℕ) → k < length (x ∷ xs) → get_or (x ∷ xs) k y ≡ y → P y → P x ⊎ Any P xs
any_first P x y xs zero l is p = inl (subst P (sym is) p)
any_first P x y xs (suc k) l is p = inr (k, y, omega (arith, l), is, p)

any_of_both : {X : Type 0} (P : X → Type 0) (xs ys : List X) → Any P (xs ++ ys) → Any P xs ⊎ Any P ys
any_of_both P [] ys h = inr h
any_of_both P (x ∷ xs) ys h = by (any_of_both P xs ys) (any_first P x h.1 (xs ++ ys) h.0 h.2 h.3 h.4)
  where
    later : Any P xs ⊎ Any P ys → Any P (x ∷ xs) ⊎ Any P ys
    later (inl a) = inl (any_tail P x xs a)
    later (inr a) = inr a

    by : (Any P (xs ++ ys) → Any P xs ⊎ Any P ys) → P x ⊎ Any P (xs ++ ys) → Any P (x ∷ xs) ⊎ Any P ys
    by parts (inl p) = inl (any_head P x xs p)
    by parts (inr a) = later (parts a)

renamed_by : (P : List ℕ → Type 0) (to name : List ℕ) (b : Bool) (o : Option (List ℕ)) → (P to → ⊥) → ((rest : List ℕ) → o ≡ Some rest → P (to ++ rest) → ⊥)
    → Any P (if b || is_some o then (if b then to else renamed_child name to o) ∷ [] else []) → ⊥
renamed_by P to name true o itself child h = itself (only_one P to h)
renamed_by P to name false (Some rest) itself child h = child rest refl (only_one P (to ++ rest) h)
renamed_by P to name false None itself child h = any_of_none P h

-- of the names that folders get, none is so
none_renamed : (P : List ℕ → Type 0) (mail : StoreMail) (from to : List ℕ) → ((name : List ℕ) → is_name_refused mail name ≡ false → P name → ⊥) → is_name_refused mail to ≡ false
    → (fs : List StoreFolder) → list_any (is_child_refused mail from to) fs ≡ false → Any P (flat_map (causes.names_renamed from to) fs) → ⊥
none_renamed P mail from to free itself [] none h = any_of_none P h
none_renamed P mail from to free itself (f ∷ fs) none h =
    by (none_renamed P mail from to free itself fs (or_right_none (is_child_refused mail from to f) (list_any (is_child_refused mail from to) fs) none))
    (any_of_both P (causes.names_renamed from to f) (flat_map (causes.names_renamed from to) fs) h)
  where
    here : is_child_refused mail from to f ≡ false
    here = or_left_none (is_child_refused mail from to f) (list_any (is_child_refused mail from to) fs) none

    child : (rest : List ℕ) → child_part from f.delimiter f.name ≡ Some rest → P (to ++ rest) → ⊥
    child rest e = free (to ++ rest) (ap (is_part_refused mail to) (sym e) ∙ here)

    by : (Any P (flat_map (causes.names_renamed from to) fs) → ⊥) → Any P (causes.names_renamed from to f) ⊎ Any P (flat_map (causes.names_renamed from to) fs) → ⊥
    by later (inl a) = renamed_by P to f.name (bytes_eq f.name from) (child_part from f.delimiter f.name) (free to itself) child a
    by later (inr a) = later a

not_there : (s : StoreSession) (name : List ℕ) → is_name_refused s.mail name ≡ false → IsThereNow s name → ⊥
not_there s name free there =
    true≢false (sym there ∙ or_right_none (nat_lt text_limit (length name)) (is_some (folder_called s.mail.folders name)) free)

not_long : (s : StoreSession) (name : List ℕ) → is_name_refused s.mail name ≡ false → text_limit < length name → ⊥
not_long s name free long =
    omega (arith, long, ltb-false text_limit (length name) (or_left_none (nat_lt text_limit (length name)) (is_some (folder_called s.mail.folders name)) free))

pub free_rename : (s : StoreSession) (from to : List ℕ) → (folder_name from ≡ inbox_name → ⊥) → (IsNotThere s from → ⊥) → is_name_refused s.mail (folder_name to) ≡ false
    → list_any (is_child_refused s.mail (folder_name from) (folder_name to)) s.mail.folders ≡ false → RefusalCause s (command.Rename from to) → ⊥
free_rename s from to other there itself children =
    none_of_nine s (command.Rename from to) (λ a. there (only_one (IsNotThere s) from a)) (made (IsThereNow s) (not_there s)) other (λ a. a) (λ a e. a) (λ a. a)
    (made IsTooLong (not_long s)) no_flags (λ a. a)
  where
    made : (P : List ℕ → Type 0) → ((name : List ℕ) → is_name_refused s.mail name ≡ false → P name → ⊥) → Any P (causes.names_made (command.Rename from to) s.mail) → ⊥
    made P free a = by (any_first P (folder_name to) a.1 (flat_map (causes.names_renamed (folder_name from) (folder_name to)) s.mail.folders) a.0 a.2 a.3 a.4)
      where
        by : P (folder_name to) ⊎ Any P (flat_map (causes.names_renamed (folder_name from) (folder_name to)) s.mail.folders) → ⊥
        by (inl p) = free (folder_name to) itself p
        by (inr h) = none_renamed P s.mail (folder_name from) (folder_name to) free itself s.mail.folders children h

-- ---- MOVE, while a folder is selected

pub free_move : (s : StoreSession) (uid : ℕ) (name : List ℕ) → (s.selected ≡ None → ⊥) → (IsNotThere s name → ⊥) → (causes.selected_message s uid ≡ None → ⊥)
    → (IsAtEnd is_last_change (selected_folder s) → ⊥) → (IsAtEnd is_last_message (folder_called (mail_without s.mail (selected_folder s) uid).folders name) → ⊥)
    → RefusalCause s (command.Move uid name) → ⊥
free_move s uid name selected there held room room_there =
    none_of_nine s (command.Move uid name) (λ a. there (only_one (IsNotThere s) name a)) (any_of_none (IsThereNow s)) (λ a. a) (λ a. a) (λ a e. selected e) held
    (any_of_none IsTooLong) no_flags by
  where
    by : IsAtEnd is_last_change (selected_folder s) ⊎ IsAtEnd is_last_message (folder_called (mail_without s.mail (selected_folder s) uid).folders name) → ⊥
    by (inl a) = room a
    by (inr a) = room_there a
