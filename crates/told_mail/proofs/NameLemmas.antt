-- What holds of folders' names, and of the index from names to numbers.
use Rattle.std.proofs.Common.{◌≡◌, ◌≢◌, ◌⊎◌, ℕ, ◌<◌, Bool, true, false, not, List, [], ◌∷◌, ◌++◌, Option, Some, None, Vec, Global, length, get_or, set, drop, filter, map, zero}
use Rattle.std.proofs.Common.{suc}
use Rattle.std.proofs.Common.{refl, sym, ap, ◌∙◌, subst, arith, inl, inr, cond, if◌then◌else◌, eqb, eq-eqb, ne_eqb, is_some}
use Rattle.std.proofs.lemmas.Map.Keys.{sorted_head, sorted_tail}
use Rattle.std.proofs.lemmas.Map.Text.{is_eq-slice_cmp}
use Rattle.std.proofs.lemmas.Slice.Eq.{bytes_eq-Decides}
use Rattle.std.proofs.Common.{Result, Ok, Err, IfOk, MatchResult, nat_cmp}
use Rattle.std.proofs.lemmas.Map.Entries.{lookup_clone}
use Rattle.std.specs.Cmp.Lexicographic.{slice_cmp}
use Rattle.std.specs.Prelude.{MatchOption, IsSomeAnd}
use Rattle.std.specs.declared.alloc.AllocError.{AllocError}
use Rattle.std.specs.BTreeMap.{BTreeMap, IsClone}
use Rattle.std.specs.Map.{lookup, remove_entry}
use Rattle.std.specs.List.{AllByRecursion}
use Rattle.std.specs.List.Sorted.{IsStrictlySortedBy}
use Rattle.std.specs.Option.{option_map}
use Rattle.std.specs.Ordering.{is_eq}
use Rattle.std.specs.declared.cmp.Ordering.TheVariants.{Less}
use Rattle.imap_types.specs.declared.response.Response.{Response}
use Rattle.told_folder.specs.Folders.{folder_number, held_in}
use Rattle.told_folder.specs.Index.{Inverts}
use Rattle.told_folder.specs.Places.{IsHeldAt}
use Rattle.told_folder.specs.Keyed.{AllAbove, Ascends, put_keyed, cut_keyed}
use Rattle.told_folder.specs.declared.message.NumberedFolder.{NumberedFolder}
use Rattle.told_folder.proofs.IndexLemmas.{same_or_not, inverts_put, inverts_cut, inverts_same, eqb_same, eqb_apart}
use Rattle.told_folder.proofs.KeyedLemmas.{some_same, some_is_not_none, found_put, found_cut, ascends_cut, held_found, put_held}
use Rattle.told_mail.specs.Lists as lists
use Rattle.told_mail.specs.Mail.{Mail, is_same, named}
use Rattle.told_mail.specs.reading.Index.{name_in}
use Rattle.told_mail.specs.reading.Names.{place_in, AllOther, AreApart, AllFree}
use Rattle.told_mail.specs.Lists.{is_inbox, inbox_first, listed, put_listed, line_for, with_line, names_told, new_names, new_folder, with_new_folder}
use Rattle.told_mail.proofs.LineLemmas.{at, at_is, by_items, filter_same, line_name}
use Rattle.told_folder.proofs.StepLemmas.{left}
use Rattle.std.proofs.Common.{◌+◌, leb}
use Rattle.told_mail.specs.declared.mirror.listing.TheConstants.{MAX_FOLDER_NUMBER}

-- a name is the same as itself
pub is_self : (a : List ℕ) → is_same a a ≡ true
is_self a = (bytes_eq-Decides a a).1 refl

-- names that compare as the same are equal
pub same_name : (a b : List ℕ) → is_same a b ≡ true → a ≡ b
same_name a b e = (bytes_eq-Decides a b).0 e

-- names that aren't equal compare as not the same
pub other_name : (a b : List ℕ) → a ≢ b → is_same a b ≡ false
other_name a b apart = elim (is_same a b) as (λ v. is_same a b ≡ v → v ≡ false) [ true ↦ λ e. absurd (apart (same_name a b e)) | false ↦ λ e. refl ] refl

-- a name is another or not
pub name_or_not : (a b : List ℕ) → (a ≡ b) ⊎ (a ≢ b)
name_or_not a b =
    elim (is_same a b) as (λ v. is_same a b ≡ v → (a ≡ b) ⊎ (a ≢ b)) [
      | true ↦ λ e. inl (same_name a b e)
      | false ↦ λ e. inr (λ f. let wrong : ◌≡◌ {A = Bool} true false = sym (is_self a) ∙ ap (is_same a) f ∙ e in absurd (cc))
    ] refl

-- ---- a name that is taken out

at_other : (q : List ℕ) (k : Vec ℕ Global) → is_same k.items q ≡ false → at q k ≡ false
at_other q k e = at_is q k.items ∙ e

-- where a name is found no more after it is removed, every other name has its number as before
pub place_cut : (es : List (Vec ℕ Global × ℕ)) (name q : List ℕ) (fs : List (Vec ℕ Global × ℕ)) → fs ≡ remove_entry (at name) es → lookup (at name) fs ≡ None
    → lookup (at q) (remove_entry (at name) es) ≡ (if is_same name q then None else lookup (at q) es)
place_cut es name q fs is none =
    elim (is_same name q) as (λ b. is_same name q ≡ b → lookup (at q) (remove_entry (at name) es) ≡ (if b then None else lookup (at q) es)) [
      | true ↦ λ e. ap (λ (r : List ℕ). lookup (at r) (remove_entry (at name) es)) (sym (same_name name q e)) ∙ ap (lookup (at name)) (sym is) ∙ none
      | false ↦ λ e. others es e
    ] refl
  where
    others : (zs : List (Vec ℕ Global × ℕ)) → is_same name q ≡ false → lookup (at q) (remove_entry (at name) zs) ≡ lookup (at q) zs
    others [] e = refl
    others (z ∷ zs) e =
        elim (at name z.0) as (λ b. at name z.0 ≡ b → lookup (at q) (cond b zs (z ∷ remove_entry (at name) zs)) ≡ cond (at q z.0) (Some z.1) (lookup (at q) zs)) [
          | true ↦ λ t.
              let key : z.0.items ≡ name = same_name z.0.items name (sym (at_is name z.0.items) ∙ t) in
              sym (ap (λ b. cond b (Some z.1) (lookup (at q) zs)) (at_other q z.0 (ap (λ (r : List ℕ). is_same r q) key ∙ e)))
          | false ↦ λ t. ap (λ (o : Option ℕ). cond (at q z.0) (Some z.1) o) (others zs e)
        ] refl

-- ---- the folder of a name

-- a folder that is found by a name has that name
pub named_name : (hs : List NumberedFolder) (q : List ℕ) (h : NumberedFolder) → named hs q ≡ Some h → h.folder.name ≡ q
named_name [] q h e = absurd (cc)
named_name (x ∷ hs) q h e =
    elim (is_same x.folder.name q) as (λ b. is_same x.folder.name q ≡ b → (if b then Some x else named hs q) ≡ Some h → h.folder.name ≡ q) [
      | true ↦ λ t f. ap (λ (k : NumberedFolder). k.folder.name) (sym (some_same _ _ f)) ∙ same_name x.folder.name q t
      | false ↦ λ t f. named_name hs q h f
    ] refl e

-- a number below those of all folders is below that of each
pub found_above : (k n : ℕ) (hs : List NumberedFolder) (h : NumberedFolder) → AllAbove folder_number k hs → held_in hs n ≡ Some h → k < n
found_above k n [] h a e = absurd (cc)
found_above k n (x ∷ hs) h a e =
    elim (same_or_not (folder_number x) n) [
      | inl same ↦ omega (arith, same, a.0)
      | inr apart ↦ found_above k n hs h a.1 (sym (ap (λ b. if b then Some x else held_in hs n) (ne_eqb _ _ apart)) ∙ e)
    ]

-- where the numbers ascend, a folder that is found by a name is found by its number
pub named_held : (hs : List NumberedFolder) (q : List ℕ) (h : NumberedFolder) → Ascends folder_number hs → named hs q ≡ Some h → held_in hs (folder_number h) ≡ Some h
named_held [] q h up e = absurd (cc)
named_held (x ∷ hs) q h up e =
    elim (is_same x.folder.name q) as (λ b. (if b then Some x else named hs q) ≡ Some h → held_in (x ∷ hs) (folder_number h) ≡ Some h) [
      | true ↦ λ f.
          let here : x ≡ h = some_same _ _ f in
          ap (λ b. if b then Some x else held_in hs (folder_number h)) (eq-eqb _ _ (ap folder_number here)) ∙ f
      | false ↦ λ f.
          let rest : held_in hs (folder_number h) ≡ Some h = named_held hs q h up.1 f in
          let less : folder_number x < folder_number h = found_above (folder_number x) (folder_number h) hs h up.0 rest in
          ap (λ b. if b then Some x else held_in hs (folder_number h)) (ne_eqb _ _ (λ g. omega (arith, less, g))) ∙ rest
    ] e

-- a folder of the name is held, and none is found
pub named_there : (hs : List NumberedFolder) (n : ℕ) (h : NumberedFolder) → held_in hs n ≡ Some h → named hs h.folder.name ≡ None → ⊥
named_there [] n h e none = absurd (cc)
named_there (x ∷ hs) n h e none =
    elim (is_same x.folder.name h.folder.name) as (λ b. is_same x.folder.name h.folder.name ≡ b → (if b then Some x else named hs h.folder.name) ≡ None → ⊥) [
      | true ↦ λ t f. some_is_not_none _ f
      | false ↦ λ t f. elim (same_or_not (folder_number x) n) [
        | inl same ↦
            let here : x ≡ h = some_same _ _ (sym (ap (λ b. if b then Some x else held_in hs n) (eq-eqb _ _ same)) ∙ e) in
            let wrong : ◌≡◌ {A = Bool} true false = sym (is_self x.folder.name) ∙ ap (λ (k : NumberedFolder). is_same x.folder.name k.folder.name) here ∙ t in absurd (cc)
        | inr apart ↦ named_there hs n h (sym (ap (λ b. if b then Some x else held_in hs n) (ne_eqb _ _ apart)) ∙ e) f
      ]
    ] refl none

module _ (look : List ℕ → Option ℕ) (hs : List NumberedFolder) (i : Inverts look (name_in hs)) (up : Ascends folder_number hs) where
  -- a folder is the one that its name finds
  pub named_only : (n : ℕ) (h : NumberedFolder) → held_in hs n ≡ Some h → named hs h.folder.name ≡ Some h
  named_only n h e =
      elim (named hs h.folder.name) as (λ o. named hs h.folder.name ≡ o → o ≡ Some h) [
        | None ↦ λ f. absurd (named_there hs n h e f)
        | Some k ↦ λ f.
            let held : held_in hs (folder_number k) ≡ Some k = named_held hs h.folder.name k up f in
            let one : look h.folder.name ≡ Some n = i.from h.folder.name n (ap (option_map (λ (z : NumberedFolder). z.folder.name)) e) in
            let two : look h.folder.name ≡ Some (folder_number k) =
            i.from h.folder.name (folder_number k) (ap (option_map (λ (z : NumberedFolder). z.folder.name)) held ∙ ap (λ (q : List ℕ). Some q) (named_name hs h.folder.name k f)) in
            let same : n ≡ folder_number k = some_same _ _ (sym one ∙ two) in
            sym held ∙ ap (held_in hs) (sym same) ∙ e
      ] refl

  -- names differ
  pub names_differ : (m n : ℕ) (h k : NumberedFolder) → held_in hs m ≡ Some h → held_in hs n ≡ Some k → h.folder.name ≡ k.folder.name → m ≡ n
  names_differ m n h k e f same =
      let one : look h.folder.name ≡ Some m = i.from h.folder.name m (ap (option_map (λ (z : NumberedFolder). z.folder.name)) e) in
      let two : look h.folder.name ≡ Some n = i.from h.folder.name n (ap (option_map (λ (z : NumberedFolder). z.folder.name)) f ∙ ap (λ (q : List ℕ). Some q) (sym same)) in
      some_same _ _ (sym one ∙ two)

  -- the folder of the number that a name has is the folder of the name
  pub placed : (q : List ℕ) (n : ℕ) (h : NumberedFolder) → look q ≡ Some n → held_in hs n ≡ Some h → named hs q ≡ Some h
  placed q n h e held =
      let name : h.folder.name ≡ q = some_same _ _ (sym (ap (option_map (λ (z : NumberedFolder). z.folder.name)) held) ∙ i.to q n e) in
      ap (named hs) (sym name) ∙ named_only n h held

  -- where a name has no number, no folder has the name
  pub unplaced : (q : List ℕ) → look q ≡ None → named hs q ≡ None
  unplaced q e =
      elim (named hs q) as (λ o. named hs q ≡ o → o ≡ None) [
        | None ↦ λ f. refl
        | Some k ↦ λ f.
            let held : held_in hs (folder_number k) ≡ Some k = named_held hs q k up f in
            let there : look q ≡ Some (folder_number k) =
            i.from q (folder_number k) (ap (option_map (λ (z : NumberedFolder). z.folder.name)) held ∙ ap (λ (r : List ℕ). Some r) (named_name hs q k f)) in
            absurd (some_is_not_none _ (sym there ∙ e))
      ] refl

  -- where no folder has a name, the name has no number
  pub unnamed : (q : List ℕ) → named hs q ≡ None → look q ≡ None
  unnamed q e =
      elim (look q) as (λ o. look q ≡ o → o ≡ None) [
        | None ↦ λ f. refl
        | Some n ↦ λ f. absurd (no_holder n (held_in hs n) refl (i.to q n f))
      ] refl
    where
      no_holder : (n : ℕ) (o : Option NumberedFolder) → held_in hs n ≡ o → option_map (λ (z : NumberedFolder). z.folder.name) (held_in hs n) ≡ Some q → ⊥
      no_holder n None f g = some_is_not_none _ (sym g ∙ ap (option_map (λ (z : NumberedFolder). z.folder.name)) f)
      no_holder n (Some h) f g =
          let name : h.folder.name ≡ q = some_same _ _ (sym (ap (option_map (λ (z : NumberedFolder). z.folder.name)) f) ∙ g) in
          named_there hs n h f (ap (named hs) name ∙ e)

-- ---- folders that change

-- another folder of the same number and name at a place leaves the name of each number as it was
pub name_set : (hs : List NumberedFolder) (at : ℕ) (h k : NumberedFolder) → at < length hs → h ≡ get_or hs at h → folder_number k ≡ folder_number h → k.folder.name ≡ h.folder.name → (n : ℕ)
    → name_in (set hs at k) n ≡ name_in hs n
name_set [] at h k w is number name n = absurd (omega arith)
name_set (x ∷ hs) zero h k w is number name n =
    ap (λ m. option_map (λ (z : NumberedFolder). z.folder.name) (if eqb m n then Some k else held_in hs n)) (number ∙ ap folder_number is)
    ∙ elim (eqb (folder_number x) n) as (λ b. option_map (λ (z : NumberedFolder). z.folder.name) (if b then Some k else held_in hs n) ≡ option_map (λ (z : NumberedFolder). z.folder.name)
    (if b then Some x else held_in hs n)) [
      | true ↦ ap (λ (q : List ℕ). Some q) (name ∙ ap (λ (z : NumberedFolder). z.folder.name) is)
      | false ↦ refl
    ]
name_set (x ∷ hs) (suc at) h k w is number name n =
    elim (eqb (folder_number x) n) as (λ b. option_map (λ (z : NumberedFolder). z.folder.name) (if b then Some x else held_in (set hs at k) n) ≡ option_map (λ (z : NumberedFolder). z.folder.name)
    (if b then Some x else held_in hs n)) [
      | true ↦ refl
      | false ↦ name_set hs at h k (omega arith) is number name n
    ]

-- the index of folders whose numbers and names stay
pub numbers_same : (look look' : List ℕ → Option ℕ) (hs ks : List NumberedFolder) → Inverts look (name_in hs) → ((q : List ℕ) → look' q ≡ look q) → ((n : ℕ) → name_in ks n ≡ name_in hs n)
    → Inverts look' (name_in ks)
numbers_same look look' hs ks i l n = inverts_same look look' (name_in hs) (name_in ks) i l n

-- a folder more
pub numbers_put : (look look' : List ℕ → Option ℕ) (hs : List NumberedFolder) (k : NumberedFolder) → Ascends folder_number hs → Inverts look (name_in hs) → held_in hs (folder_number k) ≡ None
    → named hs k.folder.name ≡ None → ((q : List ℕ) → look' q ≡ (if is_same k.folder.name q then Some (folder_number k) else look q))
    → Inverts look' (name_in (put_keyed folder_number k hs))
numbers_put look look' hs k up i free unused upd =
    let ks = put_keyed folder_number k hs in
    let found : (n : ℕ) → name_in ks n ≡ option_map (λ (z : NumberedFolder). z.folder.name) (if eqb (folder_number k) n then Some k else held_in hs n) =
    λ n. ap (option_map (λ (z : NumberedFolder). z.folder.name)) (found_put folder_number n k hs up) in
    inverts_put look look' (name_in hs) (name_in ks) k.folder.name (folder_number k) (λ j. name_or_not j k.folder.name) (λ q. same_or_not q (folder_number k)) i
    (upd k.folder.name ∙ ap (λ b. if b then Some (folder_number k) else look k.folder.name) (is_self k.folder.name))
    (λ j apart. upd j ∙ ap (λ b. if b then Some (folder_number k) else look j) (other_name k.folder.name j (λ e. apart (sym e))))
    (found (folder_number k) ∙ ap (λ b. option_map (λ (z : NumberedFolder). z.folder.name) (if b then Some k else held_in hs (folder_number k))) (eqb_same (folder_number k)))
    (λ n apart. found n ∙ ap (λ b. option_map (λ (z : NumberedFolder). z.folder.name) (if b then Some k else held_in hs n)) (eqb_apart (folder_number k) n apart))
    (λ n e. some_is_not_none n (sym (i.from k.folder.name n e) ∙ unnamed look hs i up k.folder.name unused))
    (ap (option_map (λ (z : NumberedFolder). z.folder.name)) free)

-- a folder less
pub numbers_cut : (look look' : List ℕ → Option ℕ) (hs : List NumberedFolder) (h : NumberedFolder) → Inverts look (name_in hs) → held_in hs (folder_number h) ≡ Some h
    → ((q : List ℕ) → look' q ≡ (if is_same h.folder.name q then None else look q)) → Inverts look' (name_in (cut_keyed folder_number (folder_number h) hs))
numbers_cut look look' hs h i held upd =
    let ks = cut_keyed folder_number (folder_number h) hs in
    let found : (n : ℕ) → name_in ks n ≡ option_map (λ (z : NumberedFolder). z.folder.name) (if eqb (folder_number h) n then None else held_in hs n) =
    λ n. ap (option_map (λ (z : NumberedFolder). z.folder.name)) (found_cut folder_number n (folder_number h) hs) in
    inverts_cut look look' (name_in hs) (name_in ks) h.folder.name (folder_number h) (λ j. name_or_not j h.folder.name) (λ q. same_or_not q (folder_number h)) i
    (upd h.folder.name ∙ ap (λ b. if b then None else look h.folder.name) (is_self h.folder.name))
    (λ j apart. upd j ∙ ap (λ b. if b then None else look j) (other_name h.folder.name j (λ e. apart (sym e))))
    (found (folder_number h) ∙ ap (λ b. option_map (λ (z : NumberedFolder). z.folder.name) (if b then None else held_in hs (folder_number h))) (eqb_same (folder_number h)))
    (λ n apart. found n ∙ ap (λ b. option_map (λ (z : NumberedFolder). z.folder.name) (if b then None else held_in hs n)) (eqb_apart (folder_number h) n apart))
    (ap (option_map (λ (z : NumberedFolder). z.folder.name)) held)

-- ---- names that no folder has

-- names that no folder has, and one folder more doesn't have, are free when it is added
pub free_more : (hs : List NumberedFolder) (h : NumberedFolder) (qs : List (List ℕ)) → AllFree hs qs → AllOther h.folder.name qs → AllFree (hs ++ h ∷ []) qs
free_more hs h [] f o = tt
free_more hs h (q ∷ qs) f o = (named_last hs f.0, free_more hs h qs f.1 o.1) where
  named_last : (zs : List NumberedFolder) → named zs q ≡ None → named (zs ++ h ∷ []) q ≡ None
  named_last [] e = ap (λ b. if b then Some h else None) o.0
  named_last (z ∷ zs) e =
      elim (is_same z.folder.name q) as (λ b. (if b then Some z else named zs q) ≡ None → (if b then Some z else named (zs ++ h ∷ []) q) ≡ None) [
        | true ↦ λ g. g
        | false ↦ λ g. named_last zs g
      ] e

-- names that no folder has, of which each is another than a line's, are free when the line's folder is added
pub free_added : (m : Mail) (o : Option lists.Line) (name : List ℕ) (qs : List (List ℕ)) → ((l : lists.Line) → o ≡ Some l → l.name ≡ name) → AllFree m.folders qs → AllOther name qs
    → AllFree (with_new_folder m o).folders qs
free_added m None name qs named f o = f
free_added m (Some l) name qs named f o =
    elim (leb m.next_folder MAX_FOLDER_NUMBER) as (λ b. AllFree (if b then record {
      folders = m.folders ++ new_folder m.next_folder l ∷ [];
      next_mark = m.next_mark;
      next_folder = m.next_folder + 1;
    } else m).folders qs) [
      | true ↦ free_more m.folders (new_folder m.next_folder l) qs f (subst (λ (q : List ℕ). AllOther q qs) (sym (named l refl)) o)
      | false ↦ f
    ]

apart_from : (names : List (List ℕ)) (i : ℕ) (name : List ℕ) → i < length names → name ≡ get_or names i name → AreApart names → AllOther name (drop (i + 1) names)
apart_from [] i name w is a = absurd (omega arith)
apart_from (q ∷ qs) zero name w is a = subst (λ (z : List ℕ). AllOther z (drop (0 + 1) (q ∷ qs))) (sym is) a.0
apart_from (q ∷ qs) (suc i) name w is a =
    let shift : suc i + 1 ≡ suc (i + 1) = omega arith in
    subst (λ j. AllOther name (drop j (q ∷ qs))) (sym shift) (apart_from qs i name (omega arith) is a.1)

-- the names after one that was added are free
pub free_rest : (rs : List Response) (m new : Mail) (names : List (List ℕ)) (i : ℕ) (name : List ℕ) → i < length names → name ≡ get_or names i name → AreApart names
    → AllFree m.folders (drop i names) → new ≡ with_new_folder m (line_for name rs) → AllFree new.folders (drop (i + 1) names)
free_rest rs m new names i name w is apart f e =
    let here : AllFree m.folders (name ∷ drop (i + 1) names) = subst (λ (qs : List (List ℕ)). AllFree m.folders qs) (left names i name w is) f in
    subst (λ (k : Mail). AllFree k.folders (drop (i + 1) names)) (sym e)
    (free_added m (line_for name rs) name (drop (i + 1) names) (line_name name rs) here.1 (apart_from names i name w is apart))

-- the keys of a map ascend, so that each name is another
pub apart_sorted : (ks : List (Vec ℕ Global)) → IsStrictlySortedBy by_items ks → AreApart (map (λ (v : Vec ℕ Global). v.items) ks)
apart_sorted [] s = tt
apart_sorted (k ∷ ks) s = (others ks (sorted_head by_items k ks s), apart_sorted ks (sorted_tail by_items k ks s)) where
  others : (zs : List (Vec ℕ Global)) → AllByRecursion (λ (y : Vec ℕ Global). by_items k y ≡ Less) zs → AllOther k.items (map (λ (v : Vec ℕ Global). v.items) zs)
  others [] a = tt
  others (z ∷ zs) a = (sym (is_eq-slice_cmp k.items z.items) ∙ ap is_eq a.0, others zs a.1)

module _ (p : List ℕ → Bool) where
  other_filter : (name : List ℕ) (qs : List (List ℕ)) → AllOther name qs → AllOther name (filter p qs)
  other_filter name [] a = tt
  other_filter name (q ∷ qs) a = elim (p q) as (λ b. AllOther name (if b then q ∷ filter p qs else filter p qs))
      [ true ↦ (a.0, other_filter name qs a.1) | false ↦ other_filter name qs a.1 ]

  apart_filter : (qs : List (List ℕ)) → AreApart qs → AreApart (filter p qs)
  apart_filter [] a = tt
  apart_filter (q ∷ qs) a =
      elim (p q) as (λ b. AreApart (if b then q ∷ filter p qs else filter p qs)) [ true ↦ (other_filter q qs a.0, apart_filter qs a.1) | false ↦ apart_filter qs a.1 ]

other_append : (name : List ℕ) (qs rs : List (List ℕ)) → AllOther name qs → AllOther name rs → AllOther name (qs ++ rs)
other_append name [] rs a b = b
other_append name (q ∷ qs) rs a b = (a.0, other_append name qs rs a.1 b)

-- a name that passes is none of those that don't
not_among : (p : List ℕ → Bool) (name : List ℕ) (qs : List (List ℕ)) → p name ≡ true → AllOther name (filter (λ q. not (p q)) qs)
not_among p name [] t = tt
not_among p name (q ∷ qs) t =
    elim (p q) as (λ b. p q ≡ b → AllOther name (if not b then q ∷ filter (λ r. not (p r)) qs else filter (λ r. not (p r)) qs)) [
      | true ↦ λ e. not_among p name qs t
      | false ↦ λ e. (other_name name q (λ f. let wrong : ◌≡◌ {A = Bool} true false = sym t ∙ ap p f ∙ e in absurd (cc)), not_among p name qs t)
    ] refl

-- those that pass, and then the others
pub apart_parts : (p : List ℕ → Bool) (qs : List (List ℕ)) → AreApart qs → AreApart (filter p qs ++ filter (λ q. not (p q)) qs)
apart_parts p qs a = joined qs a qs (apart_filter (λ q. not (p q)) qs a) where
  joined : (zs : List (List ℕ)) → AreApart zs → (rs : List (List ℕ)) → AreApart (filter (λ q. not (p q)) rs) → AreApart (filter p zs ++ filter (λ q. not (p q)) rs)
  joined [] a rs b = b
  joined (z ∷ zs) a rs b =
      elim (p z) as (λ v. p z ≡ v → AreApart ((if v then z ∷ filter p zs else filter p zs) ++ filter (λ q. not (p q)) rs)) [
        | true ↦ λ t. (other_append z (filter p zs) (filter (λ q. not (p q)) rs) (other_filter p z zs a.0) (not_among p z rs t), joined zs a.1 rs b)
        | false ↦ λ t. joined zs a.1 rs b
      ] refl

-- where each name is another, so is each that a test leaves, INBOX first
pub apart_new : (p : List ℕ → Bool) (qs : List (List ℕ)) → AreApart qs → AreApart (inbox_first (filter p qs))
apart_new p qs a = apart_parts is_inbox (filter p qs) (apart_filter p qs a)

-- ---- new names are free

free_filter : (hs : List NumberedFolder) (qs : List (List ℕ)) → AllFree hs (filter (λ name. not (is_some (named hs name))) qs)
free_filter hs [] = tt
free_filter hs (q ∷ qs) =
    elim (named hs q) as (λ o. named hs q ≡ o → AllFree hs
    (if not (is_some o) then q ∷ filter (λ name. not (is_some (named hs name))) qs else filter (λ name. not (is_some (named hs name))) qs)) [
      | None ↦ λ e. (e, free_filter hs qs)
      | Some h ↦ λ e. free_filter hs qs
    ] refl

free_part : (hs : List NumberedFolder) (p : List ℕ → Bool) (qs : List (List ℕ)) → AllFree hs qs → AllFree hs (filter p qs)
free_part hs p [] a = tt
free_part hs p (q ∷ qs) a = elim (p q) as (λ b. AllFree hs (if b then q ∷ filter p qs else filter p qs)) [ true ↦ (a.0, free_part hs p qs a.1) | false ↦ free_part hs p qs a.1 ]

free_append : (hs : List NumberedFolder) (qs rs : List (List ℕ)) → AllFree hs qs → AllFree hs rs → AllFree hs (qs ++ rs)
free_append hs [] rs a b = b
free_append hs (q ∷ qs) rs a b = (a.0, free_append hs qs rs a.1 b)

listed_free : (rs : List Response) (hs : List NumberedFolder) (q : List ℕ) → named hs q ≡ None → named (listed rs hs) q ≡ None
listed_free rs [] q e = refl
listed_free rs (h ∷ hs) q e =
    elim (is_same h.folder.name q) as (λ b. is_same h.folder.name q ≡ b → (if b then Some h else named hs q) ≡ None → named
    (put_listed (line_for h.folder.name rs) h (listed rs hs)) q ≡ None) [
      | true ↦ λ t f. absurd (some_is_not_none _ f)
      | false ↦ λ t f. elim (line_for h.folder.name rs) as (λ o. named (put_listed o h (listed rs hs)) q ≡ None) [
        | None ↦ listed_free rs hs q f
        | Some l ↦ ap (λ b. if b then Some (with_line l h) else named (listed rs hs) q) t ∙ listed_free rs hs q f
      ]
    ] refl e

free_listed : (rs : List Response) (hs : List NumberedFolder) (qs : List (List ℕ)) → AllFree hs qs → AllFree (listed rs hs) qs
free_listed rs hs [] a = tt
free_listed rs hs (q ∷ qs) a = (listed_free rs hs q a.0, free_listed rs hs qs a.1)

-- no folder that a LIST leaves has one of the new names
pub free_new : (rs : List Response) (hs : List NumberedFolder) → AllFree (listed rs hs) (new_names hs rs)
free_new rs hs =
    let ns : List (List ℕ) = filter (λ name. not (is_some (named hs name))) (names_told rs) in
    let free : AllFree hs ns = free_filter hs (names_told rs) in
    free_listed rs hs (inbox_first ns) (free_append hs (filter is_inbox ns) (filter (λ name. not (is_inbox name)) ns) (free_part hs is_inbox ns free)
    (free_part hs (λ name. not (is_inbox name)) ns free))

-- the names that have no number are those that no folder has
pub names_new : (look : List ℕ → Option ℕ) (hs : List NumberedFolder) → Inverts look (name_in hs) → Ascends folder_number hs → (ns : List (List ℕ))
    → filter (λ name. not (is_some (look name))) ns ≡ filter (λ name. not (is_some (named hs name))) ns
names_new look hs i up ns = filter_same _ _ (λ q. ap not (same q)) ns where
  same : (q : List ℕ) → is_some (look q) ≡ is_some (named hs q)
  same q =
      elim (named hs q) as (λ o. named hs q ≡ o → is_some (look q) ≡ is_some o) [
        | None ↦ λ e. ap is_some (unnamed look hs i up q e)
        | Some h ↦ λ e. ap is_some (i.from q (folder_number h) (ap (option_map (λ (z : NumberedFolder). z.folder.name)) (named_held hs q h up e)
            ∙ ap (λ (r : List ℕ). Some r) (named_name hs q h e)))
      ] refl

-- the names told that have no number, INBOX first, are the new names
pub new_names_are : (look : List ℕ → Option ℕ) (hs : List NumberedFolder) (rs : List Response) (ns names : List (List ℕ)) → Inverts look (name_in hs) → Ascends folder_number hs
    → ns ≡ names_told rs
    → names ≡ inbox_first (filter (λ name. not (is_some (look name))) ns) → names ≡ new_names hs rs
new_names_are look hs rs ns names i up told is = is ∙ ap inbox_first (names_new look hs i up ns)
    ∙ ap (λ (qs : List (List ℕ)). inbox_first (filter (λ name. not (is_some (named hs name))) qs)) told

-- ---- a folder's name changes

-- no folder but the one of the number has the name
abbrev pub IsOnly : List NumberedFolder → List ℕ → ℕ → Type 0
IsOnly hs name n = (m : ℕ) (h : NumberedFolder) → held_in hs m ≡ Some h → h.folder.name ≡ name → m ≡ n

-- where no folder but the one of a number has a name, and no folder has the number, none has the name
pub unused_name : (hs : List NumberedFolder) (name : List ℕ) (n : ℕ) → Ascends folder_number hs → held_in hs n ≡ None → IsOnly hs name n → named hs name ≡ None
unused_name hs name n up free only =
    elim (named hs name) as (λ o. named hs name ≡ o → o ≡ None) [
      | None ↦ λ e. refl
      | Some z ↦ λ e.
          let held : held_in hs (folder_number z) ≡ Some z = named_held hs name z up e in
          let same : folder_number z ≡ n = only (folder_number z) z held (named_name hs name z e) in
          absurd (some_is_not_none _ (sym held ∙ ap (held_in hs) same ∙ free))
    ] refl

cut_only : (hs : List NumberedFolder) (name : List ℕ) (n : ℕ) → IsOnly hs name n → IsOnly (cut_keyed folder_number n hs) name n
cut_only hs name n only m h held is =
    elim (same_or_not m n) [
      | inl same ↦ same
      | inr apart ↦ only m h (sym (found_cut folder_number m n hs ∙ ap (λ b. if b then None else held_in hs m) (eqb_apart n m apart)) ∙ held) is
    ]

-- the numbers of names stay right when the folder of a number takes a name that no other folder has
pub numbers_changed : (look look' : List ℕ → Option ℕ) (hs : List NumberedFolder) (at : ℕ) (h k : NumberedFolder) → Ascends folder_number hs → Inverts look (name_in hs) → IsHeldAt folder_number
    (folder_number k) hs at
    → h ≡ get_or hs at h → IsOnly hs k.folder.name (folder_number k)
    → ((q : List ℕ) → look' q ≡ (if is_same k.folder.name q then Some (folder_number k) else (if is_same h.folder.name q then None else look q)))
    → Inverts look' (name_in (set hs at k))
numbers_changed look look' hs at h k up i held is only upd =
    let n : ℕ = folder_number k in
    let there : held_in hs n ≡ Some h = sym (held_found folder_number n hs up at held h is) in
    let number : folder_number h ≡ n = ap folder_number is ∙ held.same h in
    let look1 : List ℕ → Option ℕ = λ q. if is_same h.folder.name q then None else look q in
    let rest : List NumberedFolder = cut_keyed folder_number n hs in
    let cut : Inverts look1 (name_in rest) =
    subst (λ m. Inverts look1 (name_in (cut_keyed folder_number m hs))) number (numbers_cut look look1 hs h i (ap (held_in hs) number ∙ there) (λ q. refl)) in
    let gone : held_in rest n ≡ None = found_cut folder_number n n hs ∙ ap (λ b. if b then None else held_in hs n) (eqb_same n) in
    let put : Inverts look' (name_in (put_keyed folder_number k rest)) =
    numbers_put look1 look' rest k (ascends_cut folder_number n hs up) cut gone
    (unused_name rest k.folder.name n (ascends_cut folder_number n hs up) gone (cut_only hs k.folder.name n only)) upd in
    inverts_same look' look' (name_in (put_keyed folder_number k rest)) (name_in (set hs at k)) put (λ q. refl)
    (λ m. ap (λ (zs : List NumberedFolder). name_in zs m) (sym (put_held folder_number n k hs at held refl)) ∙ ap (option_map (λ (z : NumberedFolder). z.folder.name))
    (found_put folder_number m k hs up)
    ∙ elim (eqb n m) as (λ b. eqb n m ≡ b → option_map (λ (z : NumberedFolder). z.folder.name) (if b then Some k else held_in hs m) ≡ name_in (put_keyed folder_number k rest) m) [
      | true ↦ λ e. sym (ap (option_map (λ (z : NumberedFolder). z.folder.name))
          (found_put folder_number m k rest (ascends_cut folder_number n hs up) ∙ ap (λ b. if b then Some k else held_in rest m) e))
      | false ↦ λ e. sym (ap (option_map (λ (z : NumberedFolder). z.folder.name))
          (found_put folder_number m k rest (ascends_cut folder_number n hs up) ∙ ap (λ b. if b then Some k else held_in rest m) e
          ∙ found_cut folder_number m n hs ∙ ap (λ b. if b then None else held_in hs m) e))
    ] refl)

-- taking out the old name after the new one is put is putting the new one after the old one is taken out
pub changed_place : (old new q : List ℕ) (n : ℕ) (was now : Option ℕ) → is_same old new ≡ false → now ≡ (if is_same new q then Some n else was)
    → (if is_same old q then None else now) ≡ (if is_same new q then Some n else (if is_same old q then None else was))
changed_place old new q n was now apart is =
    elim (is_same new q) as (λ b. is_same new q ≡ b → now ≡ (if b then Some n else was)
    → (if is_same old q then None else now) ≡ (if b then Some n else (if is_same old q then None else was))) [
      | true ↦ λ e f. ap (λ b. if b then None else now) (ap (is_same old) (sym (same_name new q e)) ∙ apart) ∙ f
      | false ↦ λ e f. ap (λ (o : Option ℕ). if is_same old q then None else o) f
    ] refl is

-- a test whose opposite is true is false
pub not_true : (b : Bool) → not b ≡ true → b ≡ false
not_true true e = let wrong : ◌≡◌ {A = Bool} false true = e in absurd (cc)
not_true false e = refl

-- ---- copies

module _ (C : Vec ℕ Global → Vec ℕ Global → Type 0) (D : ℕ → ℕ → Type 0) (same : (x y : Vec ℕ Global) → C x y → y.items ≡ x.items) (equal : (v w : ℕ) → D v w → w ≡ v) where
  from_clone : (o p : Option ℕ) → MatchOption o (p ≡ None) (λ v. IsSomeAnd p (D v)) → p ≡ o
  from_clone None p m = m
  from_clone (Some v) None m = absurd m
  from_clone (Some v) (Some w) m = ap (λ (n : ℕ). Some n) (equal v w m)

  -- a copy has the same numbers
  pub copied : (numbers : BTreeMap (Vec ℕ Global) ℕ) (r : Result (BTreeMap (Vec ℕ Global) ℕ) AllocError) (Q : AllocError → Type 0)
      → MatchResult r (λ n. IsClone C D numbers n) Q → IfOk r (λ copy. (q : List ℕ) → place_in copy q ≡ place_in numbers q)
  copied numbers (Ok copy) Q m = λ q. from_clone (place_in numbers q) (place_in copy q)
      (lookup_clone C D (at q) (λ x y k. ap (λ (t : List ℕ). is_eq (slice_cmp nat_cmp q t)) (same x y k)) numbers.entries copy.entries m)
  copied numbers (Err e) Q m = tt
