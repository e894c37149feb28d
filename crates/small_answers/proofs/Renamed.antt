-- A folder's name after a RENAME: as it was, or another that begins with the new name.
use Rattle.std.proofs.Common.{◌≡◌, ◌≢◌, ◌⊎◌, inl, inr, ℕ, Bool, true, false, ◌||◌, List, [], ◌∷◌, ◌++◌, Option, Some, None, map, is_some, bytes_eq, codes, refl, sym, ap, ◌∙◌}
use Rattle.std.proofs.Common.{subst, arith, append-nil, eqb-true, ◌==◌, if◌then◌else◌}
use Rattle.std.specs.List.{AllByRecursion}
use Rattle.std.proofs.lemmas.Bool.{false_from_ne_true}
use Rattle.std.proofs.lemmas.Option.{none-some, same_Some}
use Rattle.std.proofs.lemmas.Slice.Eq.{bytes_eq-Decides}
use Rattle.imap_types.specs.Folders.{folder_name}
use Rattle.imap_types.specs.Octets.{is_text, lower}
use Rattle.imap_types.specs.Texts.{Each}
use Rattle.imap_types.proofs.EachLemmas.{each_append, each_parts}
use Rattle.honest_store.specs.StoreMail.{StoreFolder, folder_called}
use Rattle.honest_store.specs.WellFormed.{IsToldName}
use Rattle.honest_store.specs.FolderChanges.{child_part, from_delimiter, name_after_rename, renamed_child, text_after}
use Rattle.small_answers.specs.Changes.{hierarchy_delimiter}
use Rattle.small_answers.specs.Causes.{names_renamed}

-- ---- a name below another

after_is : (p t r : List ℕ) → text_after p t ≡ Some r → t ≡ p ++ r
after_is [] t r e = same_Some t r e
after_is (c ∷ p) [] r e = absurd (none-some r e)
after_is (c ∷ p) (d ∷ t) r e = by (c == d) refl e (λ later. after_is p t r later)
  where
    by : (b : Bool) → (c == d) ≡ b → (if b then text_after p t else None) ≡ Some r → (text_after p t ≡ Some r → t ≡ p ++ r) → d ∷ t ≡ c ∷ p ++ r
    by true same later on = let head : d ≡ c = sym (eqb-true c d same) in let tail : t ≡ p ++ r = on later in λ i. head i ∷ tail i
    by false other later on = absurd (none-some r later)

-- it begins with the delimiter
abbrev pub BeginsWith : ℕ → List ℕ → Type 0
BeginsWith d t = (r : List ℕ) × (t ≡ d ∷ r)

delimited : (d : ℕ) (o : Option (List ℕ)) (rest : List ℕ) → from_delimiter d o ≡ Some rest → (o ≡ Some rest) × BeginsWith d rest
delimited d None rest e = absurd (none-some rest e)
delimited d (Some []) rest e = absurd (none-some rest e)
delimited d (Some (c ∷ t)) rest e = by (c == d) refl e
  where
    by : (b : Bool) → (c == d) ≡ b → (if b then Some (c ∷ t) else None) ≡ Some rest → (Some (c ∷ t) ≡ Some rest) × BeginsWith d rest
    by true same found = (found, (t, sym (same_Some (c ∷ t) rest found) ∙ ap (λ (k : ℕ). k ∷ t) (eqb-true c d same)))
    by false other found = absurd (none-some rest found)

-- ---- the name after

-- the folder's name, and its name after: the part that stays is nothing, or begins with the delimiter; no folder has the name yet
pub record IsMoved (fs : List StoreFolder) (from to : List ℕ) (x : StoreFolder) (name : List ℕ) : Type 0 where
  pub rest : List ℕ
  pub was : x.name ≡ from ++ rest
  pub now : name ≡ to ++ rest
  pub begins : (rest ≡ []) ⊎ BeginsWith hierarchy_delimiter rest
  pub new : folder_called fs name ≡ None

abbrev pub IsRenamed : List StoreFolder → List ℕ → List ℕ → StoreFolder → List ℕ → Type 0
IsRenamed fs from to x name = (name ≡ x.name) ⊎ IsMoved fs from to x name

module _ (fs : List StoreFolder) (from to : List ℕ) (x : StoreFolder) (slash : x.delimiter ≡ Some hierarchy_delimiter) where
  renamed_by : (b : Bool) → bytes_eq x.name from ≡ b → (o : Option (List ℕ)) → child_part from x.delimiter x.name ≡ o
      → AllByRecursion (λ k. folder_called fs k ≡ None) (if b || is_some o then (if b then to else renamed_child x.name to o) ∷ [] else [])
      → IsRenamed fs from to x (if b then to else renamed_child x.name to o)
  renamed_by true e o part free =
      inr (record { rest = []; was = (bytes_eq-Decides x.name from).0 e ∙ sym (append-nil from); now = sym (append-nil to); begins = inl refl; new = free.0 })
  renamed_by false e None part free = inl refl
  renamed_by false e (Some rest) part free =
      let below = delimited hierarchy_delimiter (text_after from x.name) rest (sym (ap (λ d. child_part from d x.name) slash) ∙ part) in
      inr (record { rest = rest; was = after_is from x.name rest below.0; now = refl; begins = inr below.1; new = free.0 })

  pub renamed_as : AllByRecursion (λ k. folder_called fs k ≡ None) (names_renamed from to x) → IsRenamed fs from to x (name_after_rename from to x)
  renamed_as free = renamed_by (bytes_eq x.name from) refl (child_part from x.delimiter x.name) refl free

-- ---- it is as names are told

not_in_inbox : AllByRecursion (λ c. c ≢ hierarchy_delimiter) (codes "inbox")
not_in_inbox = ((λ e. omega (arith, e)), ((λ e. omega (arith, e)), ((λ e. omega (arith, e)), ((λ e. omega (arith, e)), ((λ e. omega (arith, e)), tt)))))

has_delimiter : (t r : List ℕ) → AllByRecursion (λ c. c ≢ hierarchy_delimiter) (map lower (t ++ hierarchy_delimiter ∷ r)) → ⊥
has_delimiter [] r h = h.0 refl
has_delimiter (c ∷ t) r h = has_delimiter t r h.1

below_told : (t r : List ℕ) → folder_name (t ++ hierarchy_delimiter ∷ r) ≡ t ++ hierarchy_delimiter ∷ r
below_told t r =
    ap (λ (b : Bool). if b then codes "INBOX" else t ++ hierarchy_delimiter ∷ r)
    (false_from_ne_true (bytes_eq (map lower (t ++ hierarchy_delimiter ∷ r)) (codes "inbox"))
    (λ same. has_delimiter t r (subst (AllByRecursion (λ c. c ≢ hierarchy_delimiter))
    (sym ((bytes_eq-Decides (map lower (t ++ hierarchy_delimiter ∷ r)) (codes "inbox")).0 same)) not_in_inbox)))

joined_told : (to rest : List ℕ) → folder_name to ≡ to → (rest ≡ []) ⊎ BeginsWith hierarchy_delimiter rest → folder_name (to ++ rest) ≡ to ++ rest
joined_told to rest told (inl none) = subst (λ (t : List ℕ). folder_name t ≡ t) (sym (ap (λ (r : List ℕ). to ++ r) none ∙ append-nil to)) told
joined_told to rest told (inr b) = subst (λ (r : List ℕ). folder_name (to ++ r) ≡ to ++ r) (sym b.1) (below_told to b.0)

pub renamed_told : (fs : List StoreFolder) (from to : List ℕ) (x : StoreFolder) (name : List ℕ) → IsToldName to → IsToldName x.name → IsRenamed fs from to x name
    → IsToldName name
renamed_told fs from to x name to_told x_told (inl same) = subst IsToldName (sym same) x_told
renamed_told fs from to x name to_told x_told (inr moved) =
    subst IsToldName (sym moved.now) (record {
      as_told = joined_told to moved.rest to_told.as_told moved.begins;
      octets = each_append is_text to moved.rest to_told.octets (each_parts is_text from moved.rest (subst (Each is_text) moved.was x_told.octets)).1;
    })
