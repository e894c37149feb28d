-- What holds of messages of which some stand in a vector, and those after them in a map.
use Rattle.std.proofs.Common.{◌≡◌, ◌≢◌, ℕ, ◌+◌, ◌<◌, ◌≤◌, zero, suc, Bool, true, false, not, List, [], ◌∷◌, ◌++◌, Option, Some, None, length, get_or, set, take, drop, filter, find}
use Rattle.std.proofs.Common.{refl}
use Rattle.std.proofs.Common.{sym, ap, ◌∙◌, subst, arith, inl, inr, cond, if◌then◌else◌, leb, le-leb, ◌&&◌, eq-eqb, ne_eqb, nat_cmp, lt-ltb, le-ltb, eqb, eqb-true, is_some}
use Rattle.std.proofs.lemmas.Bool.{lt-leb}
use Rattle.std.proofs.lemmas.List.{append_assoc, append-nil}
use Rattle.std.proofs.lemmas.List.Folds.{find-append}
use Rattle.std.proofs.lemmas.List.Elements.{filter-append}
use Rattle.std.specs.BTreeMap.{is_at, insert_entry}
use Rattle.std.specs.Cmp.{nat_cmp_is}
use Rattle.std.specs.Map.{lookup, values_of, set_value, remove_entry}
use Rattle.std.specs.Option.{option_map, option_or}
use Rattle.std.specs.Ordering.{match_ordering, is_le}
use Rattle.std.specs.declared.cmp.Ordering.{Ordering}
use Rattle.std.specs.declared.cmp.Ordering.TheVariants.{Less, Equal, Greater}
use Rattle.told_folder.specs.Folders.{uid_of}
use Rattle.told_folder.specs.Keyed.{AllAbove, Ascends, with_key, put_keyed, cut_keyed}
use Rattle.told_folder.specs.Places.{IsPlace, IsHeldAt}
use Rattle.told_folder.specs.reading.Parts.{AllKeyed, AllUnder}
use Rattle.told_folder.specs.declared.message.Message.{Message}
use Rattle.told_folder.proofs.KeyedLemmas.{lt_same_gt, some_same, some_is_not_none, cut_above, cut_held, item_at, above_more, none_above, held_found}
use Rattle.told_folder.proofs.IndexLemmas.{same_or_not, here_at, apart_at}

-- ---- two lists

-- a number below the UIDs of two lists is below those of the first
pub above_left : (k : ℕ) (xs ys : List Message) → AllAbove uid_of k (xs ++ ys) → AllAbove uid_of k xs
above_left k [] ys a = tt
above_left k (x ∷ xs) ys a = (a.0, above_left k xs ys a.1)

-- a number below the UIDs of two lists is below those of the second
pub above_right : (k : ℕ) (xs ys : List Message) → AllAbove uid_of k (xs ++ ys) → AllAbove uid_of k ys
above_right k [] ys a = a
above_right k (x ∷ xs) ys a = above_right k xs ys a.1

-- where UIDs ascend through two lists, those of the first ascend
pub ascends_left : (xs ys : List Message) → Ascends uid_of (xs ++ ys) → Ascends uid_of xs
ascends_left [] ys a = tt
ascends_left (x ∷ xs) ys a = (above_left x.uid xs ys a.0, ascends_left xs ys a.1)

-- where UIDs ascend through two lists, those of the second ascend
pub ascends_right : (xs ys : List Message) → Ascends uid_of (xs ++ ys) → Ascends uid_of ys
ascends_right [] ys a = a
ascends_right (x ∷ xs) ys a = ascends_right xs ys a.1

-- a message found in the first of two lists is found in both
pub found_left : (u : ℕ) (xs ys : List Message) (x : Message) → with_key uid_of u xs ≡ Some x → with_key uid_of u (xs ++ ys) ≡ Some x
found_left u xs ys x e = find-append (λ (m : Message). eqb m.uid u) xs ys ∙ ap (λ (o : Option Message). option_or o (with_key uid_of u ys)) e

-- a UID that the first of two lists doesn't have is looked for in the second
pub found_right : (u : ℕ) (xs ys : List Message) → with_key uid_of u xs ≡ None → with_key uid_of u (xs ++ ys) ≡ with_key uid_of u ys
found_right u xs ys e = find-append (λ (m : Message). eqb m.uid u) xs ys ∙ ap (λ (o : Option Message). option_or o (with_key uid_of u ys)) e

-- where each UID before a place is below a number, all messages before the place are
pub under_take : (k : ℕ) (xs : List Message) (at : ℕ) → ((i : ℕ) (d : Message) → i < at → uid_of (get_or xs i d) < k) → at ≤ length xs → AllUnder k (take at xs)
under_take k [] zero before w = tt
under_take k [] (suc at) before w = tt
under_take k (x ∷ xs) zero before w = tt
under_take k (x ∷ xs) (suc at) before w = (before 0 x (omega arith), under_take k xs at (λ i d l. before (suc i) d (omega arith)) (omega arith))

-- a UID above all is not found
pub none_under : (k : ℕ) (xs : List Message) → AllUnder k xs → with_key uid_of k xs ≡ None
none_under k [] a = refl
none_under k (x ∷ xs) a = let less : x.uid < k = a.0 in ap (λ b. if b then Some x else with_key uid_of k xs) (ne_eqb _ _ (λ e. omega (arith, e, less))) ∙ none_under k xs a.1

-- a message whose UID is above the first list's is put in the second
pub put_under : (x : Message) (xs ys : List Message) → AllUnder x.uid xs → put_keyed uid_of x (xs ++ ys) ≡ xs ++ put_keyed uid_of x ys
put_under x [] ys a = refl
put_under x (y ∷ xs) ys a =
    let less : y.uid < x.uid = a.0 in
    ap (λ b. if b then x ∷ (y ∷ (xs ++ ys)) else (if eqb x.uid y.uid then x ∷ (xs ++ ys) else y ∷ put_keyed uid_of x (xs ++ ys))) (le-ltb _ _ (omega (arith, less)))
    ∙ ap (λ b. if b then x ∷ (xs ++ ys) else y ∷ put_keyed uid_of x (xs ++ ys)) (ne_eqb _ _ (λ e. omega (arith, e, less)))
    ∙ ap (λ zs. y ∷ zs) (put_under x xs ys a.1)

-- cutting a UID above all changes nothing
pub cut_under : (k : ℕ) (xs : List Message) → AllUnder k xs → cut_keyed uid_of k xs ≡ xs
cut_under k [] a = refl
cut_under k (x ∷ xs) a = let less : x.uid < k = a.0 in
    ap (λ b. if not b then x ∷ cut_keyed uid_of k xs else cut_keyed uid_of k xs) (ne_eqb _ _ (λ e. omega (arith, e, less))) ∙ ap (λ zs. x ∷ zs) (cut_under k xs a.1)

-- a UID above the first list's is cut from the second
pub cut_both : (k : ℕ) (xs ys : List Message) → AllUnder k xs → cut_keyed uid_of k (xs ++ ys) ≡ xs ++ cut_keyed uid_of k ys
cut_both k xs ys a = filter-append (λ (m : Message). not (eqb m.uid k)) xs ys ∙ ap (λ zs. zs ++ cut_keyed uid_of k ys) (cut_under k xs a)

-- a message whose UID is below all is put first
pub put_first : (x : Message) (xs : List Message) → AllAbove uid_of x.uid xs → put_keyed uid_of x xs ≡ x ∷ xs
put_first x [] a = refl
put_first x (y ∷ ys) a = ap (λ b. if b then x ∷ (y ∷ ys) else (if eqb x.uid y.uid then x ∷ ys else y ∷ put_keyed uid_of x ys)) (lt-ltb _ _ a.0)

-- ---- the entries of a map

-- what a map by UID has at a UID is the message of the UID among its values
pub looked_up : (u : ℕ) (es : List (ℕ × Message)) → AllKeyed es → lookup (is_at (nat_cmp u)) es ≡ with_key uid_of u (values_of es)
looked_up u [] a = refl
looked_up u (e ∷ es) a =
    elim (same_or_not e.0 u) [
      | inl same ↦ ap (λ b. cond b (Some e.1) (lookup (is_at (nat_cmp u)) es)) (ap (is_at (nat_cmp u)) same ∙ here_at u)
          ∙ sym (ap (λ b. if b then Some e.1 else with_key uid_of u (values_of es)) (eq-eqb _ _ (sym a.0 ∙ same)))
      | inr apart ↦ ap (λ b. cond b (Some e.1) (lookup (is_at (nat_cmp u)) es)) (apart_at u e.0 apart) ∙ looked_up u es a.1
          ∙ sym (ap (λ b. if b then Some e.1 else with_key uid_of u (values_of es)) (ne_eqb _ _ (λ f. apart (a.0 ∙ f))))
    ]

-- what is inserted, by how its key stands to the first
abbrev pub InsertsAt : Message → ℕ × Message → List (ℕ × Message) → Ordering → List (ℕ × Message)
InsertsAt x e es r = match_ordering r ((x.uid, x) ∷ e ∷ es) ((e.0, x) ∷ es) (e ∷ insert_entry nat_cmp es x.uid x)

-- inserting a message in a map by UID is putting it among the values
pub put_entries : (x : Message) (es : List (ℕ × Message)) → AllKeyed es → values_of (insert_entry nat_cmp es x.uid x) ≡ put_keyed uid_of x (values_of es)
put_entries x [] a = refl
put_entries x (e ∷ es) a =
    let key : e.0 ≡ e.1.uid = a.0 in
    let P : List Message → Type 0 = λ zs. zs ≡ put_keyed uid_of x (e.1 ∷ values_of es) in
    elim (lt_same_gt x.uid e.0) [
      | inl less ↦ ap (λ r. values_of (InsertsAt x e es r)) (sym (nat_cmp_is x.uid e.0 Less less))
          ∙ sym (ap (λ b. if b then x ∷ (e.1 ∷ values_of es) else (if eqb x.uid e.1.uid then x ∷ values_of es else e.1 ∷ put_keyed uid_of x (values_of es)))
          (lt-ltb _ _ (omega (arith, key, less))))
      | inr more ↦ elim more [
        | inl greater ↦ ap (λ r. values_of (InsertsAt x e es r)) (sym (nat_cmp_is x.uid e.0 Greater greater)) ∙ ap (λ zs. e.1 ∷ zs) (put_entries x es a.1)
            ∙ sym (ap (λ b. if b then x ∷ (e.1 ∷ values_of es) else (if eqb x.uid e.1.uid then x ∷ values_of es else e.1 ∷ put_keyed uid_of x (values_of es)))
            (le-ltb _ _ (omega (arith, key, greater)))
            ∙ ap (λ b. if b then x ∷ values_of es else e.1 ∷ put_keyed uid_of x (values_of es)) (ne_eqb _ _ (λ f. omega (arith, key, greater, f))))
        | inr same ↦ ap (λ r. values_of (InsertsAt x e es r)) (sym (nat_cmp_is x.uid e.0 Equal same))
            ∙ sym (ap (λ b. if b then x ∷ (e.1 ∷ values_of es) else (if eqb x.uid e.1.uid then x ∷ values_of es else e.1 ∷ put_keyed uid_of x (values_of es)))
            (le-ltb _ _ (omega (arith, key, same)))
            ∙ ap (λ b. if b then x ∷ values_of es else e.1 ∷ put_keyed uid_of x (values_of es)) (eq-eqb _ _ (same ∙ key)))
      ]
    ]

-- each key is still the UID of its message when a message is inserted under its UID
pub keyed_put : (x : Message) (es : List (ℕ × Message)) → AllKeyed es → AllKeyed (insert_entry nat_cmp es x.uid x)
keyed_put x [] a = (refl, tt)
keyed_put x (e ∷ es) a =
    elim (lt_same_gt x.uid e.0) [
      | inl less ↦ subst (λ r. AllKeyed (InsertsAt x e es r)) (nat_cmp_is x.uid e.0 Less less) (refl, a)
      | inr more ↦ elim more [
        | inl greater ↦ subst (λ r. AllKeyed (InsertsAt x e es r)) (nat_cmp_is x.uid e.0 Greater greater) (a.0, keyed_put x es a.1)
        | inr same ↦ subst (λ r. AllKeyed (InsertsAt x e es r)) (nat_cmp_is x.uid e.0 Equal same) (sym same, a.1)
      ]
    ]

-- in a map by UID whose values ascend, removing a UID is cutting it from the values
pub cut_entries : (u : ℕ) (es : List (ℕ × Message)) → AllKeyed es → Ascends uid_of (values_of es)
    → values_of (remove_entry (is_at (nat_cmp u)) es) ≡ cut_keyed uid_of u (values_of es)
cut_entries u [] a up = refl
cut_entries u (e ∷ es) a up =
    elim (same_or_not e.0 u) [
      | inl same ↦ ap (λ b. values_of (cond b es (e ∷ remove_entry (is_at (nat_cmp u)) es))) (ap (is_at (nat_cmp u)) same ∙ here_at u)
          ∙ sym (ap (λ b. if not b then e.1 ∷ cut_keyed uid_of u (values_of es) else cut_keyed uid_of u (values_of es)) (eq-eqb _ _ (sym a.0 ∙ same))
          ∙ cut_above uid_of u (values_of es) (subst (λ n. AllAbove uid_of n (values_of es)) (sym a.0 ∙ same) up.0))
      | inr apart ↦ ap (λ b. values_of (cond b es (e ∷ remove_entry (is_at (nat_cmp u)) es))) (apart_at u e.0 apart) ∙ ap (λ zs. e.1 ∷ zs) (cut_entries u es a.1 up.1)
          ∙ sym (ap (λ b. if not b then e.1 ∷ cut_keyed uid_of u (values_of es) else cut_keyed uid_of u (values_of es)) (ne_eqb _ _ (λ f. apart (a.0 ∙ f))))
    ]

-- each key is still the UID of its message when a UID is removed
pub keyed_cut : (u : ℕ) (es : List (ℕ × Message)) → AllKeyed es → AllKeyed (remove_entry (is_at (nat_cmp u)) es)
keyed_cut u [] a = tt
keyed_cut u (e ∷ es) a = elim (is_at (nat_cmp u) e.0) as (λ b. AllKeyed (cond b es (e ∷ remove_entry (is_at (nat_cmp u)) es))) [ true ↦ a.1 | false ↦ (a.0, keyed_cut u es a.1) ]

-- another message of the UID in its place
pub set_entries : (x w : Message) (es : List (ℕ × Message)) → AllKeyed es → Ascends uid_of (values_of es) → with_key uid_of w.uid (values_of es) ≡ Some x
    → values_of (set_value (is_at (nat_cmp w.uid)) es w) ≡ put_keyed uid_of w (values_of es)
set_entries x w [] a up found = absurd (cc)
set_entries x w (e ∷ es) a up found =
    let key : e.0 ≡ e.1.uid = a.0 in
    elim (lt_same_gt w.uid e.1.uid) [
      | inl less ↦ absurd (some_is_not_none _ (sym found ∙ none_above uid_of w.uid (e.1 ∷ values_of es)
          (less, above_more uid_of w.uid e.1.uid (values_of es) (omega (arith, less)) up.0)))
      | inr more ↦ elim more [
        | inl greater ↦
            let rest : with_key uid_of w.uid (values_of es) ≡ Some x = sym
            (ap (λ b. if b then Some e.1 else with_key uid_of w.uid (values_of es)) (ne_eqb _ _ (λ f. omega (arith, greater, f)))) ∙ found in
            ap (λ b. values_of (cond b ((e.0, w) ∷ es) (e ∷ set_value (is_at (nat_cmp w.uid)) es w))) (apart_at w.uid e.0 (λ f. omega (arith, key, greater, f)))
            ∙ ap (λ zs. e.1 ∷ zs) (set_entries x w es a.1 up.1 rest)
            ∙ sym (ap (λ b. if b then w ∷ (e.1 ∷ values_of es) else (if eqb w.uid e.1.uid then w ∷ values_of es else e.1 ∷ put_keyed uid_of w (values_of es)))
            (le-ltb _ _ (omega (arith, greater)))
            ∙ ap (λ b. if b then w ∷ values_of es else e.1 ∷ put_keyed uid_of w (values_of es)) (ne_eqb _ _ (λ f. omega (arith, greater, f))))
        | inr same ↦
            ap (λ b. values_of (cond b ((e.0, w) ∷ es) (e ∷ set_value (is_at (nat_cmp w.uid)) es w))) (ap (is_at (nat_cmp w.uid)) (key ∙ sym same) ∙ here_at w.uid)
            ∙ sym (ap (λ b. if b then w ∷ (e.1 ∷ values_of es) else (if eqb w.uid e.1.uid then w ∷ values_of es else e.1 ∷ put_keyed uid_of w (values_of es)))
            (le-ltb _ _ (omega (arith, same)))
            ∙ ap (λ b. if b then w ∷ values_of es else e.1 ∷ put_keyed uid_of w (values_of es)) (eq-eqb _ _ same))
      ]
    ]

-- each key is still the UID of its message when a message is set at its UID
pub keyed_set : (w : Message) (es : List (ℕ × Message)) → AllKeyed es → AllKeyed (set_value (is_at (nat_cmp w.uid)) es w)
keyed_set w [] a = tt
keyed_set w (e ∷ es) a =
    elim (same_or_not e.0 w.uid) [
      | inl same ↦ subst (λ b. AllKeyed (cond b ((e.0, w) ∷ es) (e ∷ set_value (is_at (nat_cmp w.uid)) es w))) (sym (ap (is_at (nat_cmp w.uid)) same ∙ here_at w.uid)) (same, a.1)
      | inr apart ↦ subst (λ b. AllKeyed (cond b ((e.0, w) ∷ es) (e ∷ set_value (is_at (nat_cmp w.uid)) es w))) (sym (apart_at w.uid e.0 apart)) (a.0, keyed_set w es a.1)
    ]

-- ---- what is looked for

-- a number passes a map's test of a lower bound exactly where the bound is at most the number
pub le_is : (a b : ℕ) → (is_le (nat_cmp a b) && not false) ≡ leb a b
le_is a b =
    elim (lt_same_gt a b) [
      | inl less ↦ ap (λ r. is_le r && not false) (sym (nat_cmp_is a b Less less)) ∙ sym (le-leb _ _ (omega (arith, less)))
      | inr more ↦ elim more [
        | inl greater ↦ ap (λ r. is_le r && not false) (sym (nat_cmp_is a b Greater greater)) ∙ sym (lt-leb _ _ greater)
        | inr same ↦ ap (λ r. is_le r && not false) (sym (nat_cmp_is a b Equal same)) ∙ sym (le-leb _ _ (omega (arith, same)))
      ]
    ]

-- the entries from a key on, and the first message that isn't below it
abbrev pub entries_at : ℕ → List (ℕ × Message) → List (ℕ × Message)
entries_at f es = filter (λ e. is_le (nat_cmp f e.0) && not false) es

-- the first entry of a map by UID from a key on has the UID of the first message that isn't below the key
pub first_entry : (f : ℕ) (es : List (ℕ × Message)) → AllKeyed es → (e : ℕ × Message) (rest : List (ℕ × Message)) → entries_at f es ≡ e ∷ rest
    → Some e.0 ≡ option_map uid_of (find (λ x. leb f x.uid) (values_of es))
first_entry f [] a e rest is = absurd (cc)
first_entry f (d ∷ es) a e rest is =
    let test : (is_le (nat_cmp f d.0) && not false) ≡ leb f d.1.uid = le_is f d.0 ∙ ap (leb f) a.0 in
    elim (leb f d.1.uid) as (λ b. (is_le (nat_cmp f d.0) && not false) ≡ b → Some e.0 ≡ option_map uid_of (if b then Some d.1 else find (λ x. leb f x.uid) (values_of es))) [
      | true ↦ λ t.
          let here : d ∷ entries_at f es ≡ e ∷ rest = sym (ap (λ b. if b then d ∷ entries_at f es else entries_at f es) t) ∙ is in
          let same : d ≡ e = cc in
          ap (λ (p : ℕ × Message). Some p.0) (sym same) ∙ ap (λ n. Some n) a.0
      | false ↦ λ t. first_entry f es a.1 e rest (sym (ap (λ b. if b then d ∷ entries_at f es else entries_at f es) t) ∙ is)
    ] test

-- where a map by UID has no entry from a key on, no message has a UID from it on
pub no_entry : (f : ℕ) (es : List (ℕ × Message)) → AllKeyed es → entries_at f es ≡ [] → ◌≡◌ {A = Option ℕ} None (option_map uid_of (find (λ x. leb f x.uid) (values_of es)))
no_entry f [] a is = refl
no_entry f (d ∷ es) a is =
    let test : (is_le (nat_cmp f d.0) && not false) ≡ leb f d.1.uid = le_is f d.0 ∙ ap (leb f) a.0 in
    elim (leb f d.1.uid) as (λ b. (is_le (nat_cmp f d.0) && not false) ≡ b → ◌≡◌ {A = Option ℕ} None
    (option_map uid_of (if b then Some d.1 else find (λ x. leb f x.uid) (values_of es)))) [
      | true ↦ λ t.
          let here : ◌≡◌ {A = List (ℕ × Message)} (d ∷ entries_at f es) [] = sym (ap (λ b. if b then d ∷ entries_at f es else entries_at f es) t) ∙ is in
          absurd (cc)
      | false ↦ λ t. no_entry f es a.1 (sym (ap (λ b. if b then d ∷ entries_at f es else entries_at f es) t) ∙ is)
    ] test

-- where a UID has its place within the first list, the message there is the first of both lists from the UID on
pub first_at : (f : ℕ) (xs ys : List Message) (at : ℕ) → ((i : ℕ) (d : Message) → i < at → uid_of (get_or xs i d) < f)
    → ((i : ℕ) (d : Message) → at ≤ i → i < length xs → f ≤ uid_of (get_or xs i d)) → at < length xs → (x : Message) → x ≡ get_or xs at x
    → find (λ m. leb f m.uid) (xs ++ ys) ≡ Some x
first_at f [] ys at before from w x is = absurd (omega arith)
first_at f (y ∷ xs) ys zero before from w x is =
    ap (λ b. if b then Some y else find (λ m. leb f m.uid) (xs ++ ys)) (le-leb _ _ (from 0 y (omega arith) (omega arith))) ∙ ap (λ (m : Message). Some m) (sym is)
first_at f (y ∷ xs) ys (suc at) before from w x is =
    ap (λ b. if b then Some y else find (λ m. leb f m.uid) (xs ++ ys)) (lt-leb _ _ (before 0 y (omega arith)))
    ∙ first_at f xs ys at (λ i d l. before (suc i) d (omega arith)) (λ i d l h. from (suc i) d (omega arith) (omega arith)) (omega arith) x is

-- where the first list's UIDs are all below a UID, the first message from it on is the second list's
pub first_after : (f : ℕ) (xs ys : List Message) (at : ℕ) → ((i : ℕ) (d : Message) → i < at → uid_of (get_or xs i d) < f) → length xs ≤ at
    → find (λ m. leb f m.uid) (xs ++ ys) ≡ find (λ m. leb f m.uid) ys
first_after f [] ys at before w = refl
first_after f (y ∷ xs) ys zero before w = absurd (omega arith)
first_after f (y ∷ xs) ys (suc at) before w =
    ap (λ b. if b then Some y else find (λ m. leb f m.uid) (xs ++ ys)) (lt-leb _ _ (before 0 y (omega arith)))
    ∙ first_after f xs ys at (λ i d l. before (suc i) d (omega arith)) (omega arith)

-- ---- other flags

put_left : (w : Message) (xs ys : List Message) (at : ℕ) → ((i : ℕ) (d : Message) → i < at → uid_of (get_or xs i d) < w.uid) → at < length xs
    → ((d : Message) → uid_of (get_or xs at d) ≡ w.uid) → put_keyed uid_of w (xs ++ ys) ≡ set xs at w ++ ys
put_left w [] ys at before l same = absurd (omega arith)
put_left w (y ∷ xs) ys zero before l same =
    let here : y.uid ≡ w.uid = same y in
    ap (λ b. if b then w ∷ (y ∷ (xs ++ ys)) else (if eqb w.uid y.uid then w ∷ (xs ++ ys) else y ∷ put_keyed uid_of w (xs ++ ys))) (le-ltb _ _ (omega (arith, here)))
    ∙ ap (λ b. if b then w ∷ (xs ++ ys) else y ∷ put_keyed uid_of w (xs ++ ys)) (eq-eqb _ _ (sym here))
put_left w (y ∷ xs) ys (suc at) before l same =
    let less : y.uid < w.uid = before 0 y (omega arith) in
    ap (λ b. if b then w ∷ (y ∷ (xs ++ ys)) else (if eqb w.uid y.uid then w ∷ (xs ++ ys) else y ∷ put_keyed uid_of w (xs ++ ys))) (le-ltb _ _ (omega (arith, less)))
    ∙ ap (λ b. if b then w ∷ (xs ++ ys) else y ∷ put_keyed uid_of w (xs ++ ys)) (ne_eqb _ _ (λ e. omega (arith, e, less)))
    ∙ ap (λ zs. y ∷ zs) (put_left w xs ys at (λ i d h. before (suc i) d (omega arith)) (omega arith) same)

-- setting other flags at a UID's place in the first list is putting its message with those flags among those of both lists
pub flags_left : (u : ℕ) (xs ys : List Message) (at : ℕ) → IsHeldAt uid_of u xs at → Ascends uid_of (xs ++ ys) → (y : Message) → y ≡ get_or xs at y → (flags : List (List ℕ))
    → (x : Message)
    → with_key uid_of u (xs ++ ys) ≡ Some x → set xs at (record y { flags = flags }) ++ ys ≡ put_keyed uid_of (record x { flags = flags }) (xs ++ ys)
flags_left u xs ys at held up y is flags x found =
    let uid : y.uid ≡ u = ap uid_of is ∙ held.same y in
    let w : Message = record y { flags = flags } in
    let at_y : Some y ≡ with_key uid_of u xs = held_found uid_of u xs (ascends_left xs ys up) at held y is in
    let same : y ≡ x = some_same _ _ (sym (found_left u xs ys y (sym at_y)) ∙ found) in
    sym (put_left w xs ys at (λ i d h. subst (λ n. uid_of (get_or xs i d) < n) (sym uid) (held.place.before i d h)) held.within (λ d. held.same d ∙ sym uid))
    ∙ ap (λ (m : Message). put_keyed uid_of (record m { flags = flags }) (xs ++ ys)) same

-- the message at a UID's place in the first list is the one that both lists have at the UID
pub found_self : (u : ℕ) (xs ys : List Message) (at : ℕ) → IsHeldAt uid_of u xs at → Ascends uid_of (xs ++ ys) → (y : Message) → y ≡ get_or xs at y → with_key uid_of u
    (xs ++ ys) ≡ Some y
found_self u xs ys at held up y is = found_left u xs ys y (sym (held_found uid_of u xs (ascends_left xs ys up) at held y is))

found_above : (k u : ℕ) (xs : List Message) (x : Message) → AllAbove uid_of k xs → with_key uid_of u xs ≡ Some x → k < u
found_above k u [] x a e = absurd (cc)
found_above k u (y ∷ ys) x a e =
    elim (same_or_not y.uid u) [
      | inl same ↦ omega (arith, same, a.0)
      | inr apart ↦ found_above k u ys x a.1 (sym (ap (λ b. if b then Some y else with_key uid_of u ys) (ne_eqb _ _ apart)) ∙ e)
    ]

-- where UIDs ascend through two lists, those of the first are below one that the second has
pub under_found : (u : ℕ) (xs ys : List Message) (x : Message) → Ascends uid_of (xs ++ ys) → with_key uid_of u ys ≡ Some x → AllUnder u xs
under_found u [] ys x a e = tt
under_found u (y ∷ xs) ys x a e = (found_above y.uid u ys x (above_right y.uid xs ys a.0) e, under_found u xs ys x a.1 e)

-- a message that is found by a UID has that UID
pub found_key : (u : ℕ) (xs : List Message) (x : Message) → with_key uid_of u xs ≡ Some x → x.uid ≡ u
found_key u [] x e = absurd (cc)
found_key u (y ∷ ys) x e =
    elim (same_or_not y.uid u) [
      | inl same ↦ ap uid_of (some_same _ _ (sym e ∙ ap (λ b. if b then Some y else with_key uid_of u ys) (eq-eqb _ _ same))) ∙ same
      | inr apart ↦ found_key u ys x (sym (ap (λ b. if b then Some y else with_key uid_of u ys) (ne_eqb _ _ apart)) ∙ e)
    ]

-- the message of the map has other flags
pub flags_right : (u : ℕ) (xs : List Message) (es fs : List (ℕ × Message)) → AllKeyed es → Ascends uid_of (xs ++ values_of es) → (y : Message) → lookup
    (is_at (nat_cmp u)) es ≡ Some y
    → (flags : List (List ℕ)) → fs ≡ set_value (is_at (nat_cmp u)) es (record y { flags = flags }) → (x : Message) → with_key uid_of u (xs ++ values_of es) ≡ Some x
    → xs ++ values_of fs ≡ put_keyed uid_of (record x { flags = flags }) (xs ++ values_of es)
flags_right u xs es fs keyed up y at_y flags is x found =
    let vs : List Message = values_of es in
    let found_y : with_key uid_of u vs ≡ Some y = sym (looked_up u es keyed) ∙ at_y in
    let under : AllUnder u xs = under_found u xs vs y up found_y in
    let same : y ≡ x = some_same _ _ (sym (found_right u xs vs (none_under u xs under) ∙ found_y) ∙ found) in
    let w : Message = record y { flags = flags } in
    let uid : w.uid ≡ u = found_key u vs y found_y in
    let set_is : values_of (set_value (is_at (nat_cmp w.uid)) es w) ≡ put_keyed uid_of w vs =
    set_entries y w es keyed (ascends_right xs vs up) (ap (λ n. with_key uid_of n vs) uid ∙ found_y) in
    ap (λ zs. xs ++ values_of zs) (is ∙ ap (λ n. set_value (is_at (nat_cmp n)) es w) (sym uid)) ∙ ap (λ zs. xs ++ zs) set_is
    ∙ sym (put_under w xs vs (subst (λ n. AllUnder n xs) (sym uid) under))
    ∙ ap (λ (m : Message). put_keyed uid_of (record m { flags = flags }) (xs ++ vs)) same

-- each key is still the UID of its message when a message of the map has other flags
pub keyed_flags : (u : ℕ) (es fs : List (ℕ × Message)) → AllKeyed es → (y : Message) → lookup (is_at (nat_cmp u)) es ≡ Some y → (flags : List (List ℕ))
    → fs ≡ set_value (is_at (nat_cmp u)) es (record y { flags = flags }) → AllKeyed fs
keyed_flags u es fs keyed y at_y flags is =
    let w : Message = record y { flags = flags } in
    let uid : w.uid ≡ u = found_key u (values_of es) y (sym (looked_up u es keyed) ∙ at_y) in
    subst AllKeyed (ap (λ n. set_value (is_at (nat_cmp n)) es w) uid ∙ sym is) (keyed_set w es keyed)

-- ---- the last of the vector moves into the map

-- moving the last message of the vector into the map leaves the messages as they are
pub moved_same : (xs xs' : List Message) (es fs : List (ℕ × Message)) (x : Message) → AllKeyed es → Ascends uid_of (xs ++ values_of es) → xs ≡ xs' ++ x ∷ []
    → fs ≡ insert_entry nat_cmp es x.uid x → xs' ++ values_of fs ≡ xs ++ values_of es
moved_same xs xs' es fs x keyed up is entries =
    let vs : List Message = values_of es in
    let apart : xs ++ vs ≡ xs' ++ (x ∷ vs) = ap (λ zs. zs ++ vs) is ∙ append_assoc xs' (x ∷ []) vs in
    let above : AllAbove uid_of x.uid vs = (ascends_right xs' (x ∷ vs) (subst (λ (zs : List Message). Ascends uid_of zs) apart up)).0 in
    ap (λ zs. xs' ++ values_of zs) entries ∙ ap (λ zs. xs' ++ zs) (put_entries x es keyed ∙ put_first x vs above) ∙ sym apart

-- the first n of the first m elements are the first n, where n is at most m
pub take_take : {X : Type 0} (n m : ℕ) (xs : List X) → n ≤ m → take n (take m xs) ≡ take n xs
take_take zero zero [] h = refl
take_take zero (suc m) [] h = refl
take_take (suc n) zero [] h = refl
take_take (suc n) (suc m) [] h = refl
take_take zero zero (x ∷ xs) h = refl
take_take zero (suc m) (x ∷ xs) h = refl
take_take (suc n) zero (x ∷ xs) h = absurd (omega arith)
take_take (suc n) (suc m) (x ∷ xs) h = ap (λ zs. x ∷ zs) (take_take n m xs (omega arith))

-- the first n elements are all, where there are no more than n
pub take_whole : {X : Type 0} (n : ℕ) (xs : List X) → length xs ≤ n → take n xs ≡ xs
take_whole zero [] h = refl
take_whole (suc n) [] h = refl
take_whole zero (x ∷ xs) h = absurd (omega arith)
take_whole (suc n) (x ∷ xs) h = ap (λ zs. x ∷ zs) (take_whole n xs (omega arith))

-- the vector ends before the UID
pub under_moved : (u : ℕ) (was xs : List Message) (at : ℕ) → IsPlace uid_of u was at → xs ≡ take at was → AllUnder u xs
under_moved u was xs at place is = subst (λ (zs : List Message). AllUnder u zs) (sym is) (under_take u was at place.before place.within)

-- 1 where an option is None and else 0 is at most 1
pub one_at_most : {X : Type 0} (o : Option X) → (if is_some o then 0 else 1) ≤ 1
one_at_most None = omega arith
one_at_most (Some x) = omega arith

-- a map whose length isn't above 0 has no values
pub nothing_left : (es : List (ℕ × Message)) → (0 < length es → false ≡ true) → values_of es ≡ []
nothing_left [] h = refl
nothing_left (e ∷ es) h = let wrong : ◌≡◌ {A = Bool} false true = h (omega arith) in absurd (cc)

-- the first n elements are n at most
pub short_take : {X : Type 0} (n : ℕ) (xs : List X) → length (take n xs) ≤ n
short_take zero [] = omega arith
short_take (suc n) [] = omega arith
short_take zero (x ∷ xs) = omega arith
short_take (suc n) (x ∷ xs) = omega (arith, short_take n xs)

-- a map of length 0 has no values
pub nothing_there : (es : List (ℕ × Message)) → length es ≡ 0 → values_of es ≡ []
nothing_there [] h = refl
nothing_there (e ∷ es) h = absurd (omega (arith, h))

-- where the map is empty, pushing a message whose UID is above the vector's is putting it in its place
pub pushed_same : (x : Message) (was xs xs' ys : List Message) → xs ≡ was → xs' ≡ xs ++ x ∷ [] → ys ≡ [] → AllUnder x.uid was → xs' ++ ys ≡ put_keyed uid_of x (was ++ ys)
pushed_same x was xs xs' ys same is none under =
    ap (λ (zs : List Message). xs' ++ zs) none ∙ append-nil xs' ∙ is ∙ ap (λ (zs : List Message). zs ++ x ∷ []) same
    ∙ sym (put_under x was ys under ∙ ap (λ (zs : List Message). was ++ put_keyed uid_of x zs) none)

-- inserting a message in the map whose UID is above the vector's is putting it in its place
pub behind_same : (x : Message) (was xs : List Message) (es fs : List (ℕ × Message)) → AllKeyed es → xs ≡ was → fs ≡ insert_entry nat_cmp es x.uid x → AllUnder x.uid was
    → xs ++ values_of fs ≡ put_keyed uid_of x (was ++ values_of es)
behind_same x was xs es fs keyed same is under =
    ap (λ (zs : List Message). zs ++ values_of fs) same ∙ ap (λ (zs : List (ℕ × Message)). was ++ values_of zs) is
    ∙ ap (λ (zs : List Message). was ++ zs) (put_entries x es keyed) ∙ sym (put_under x was (values_of es) under)

-- removing a UID above the vector's from the map is cutting it from all
pub removed_same : (u : ℕ) (xs : List Message) (es fs : List (ℕ × Message)) → AllKeyed es → Ascends uid_of (xs ++ values_of es) → AllUnder u xs
    → fs ≡ remove_entry (is_at (nat_cmp u)) es → xs ++ values_of fs ≡ cut_keyed uid_of u (xs ++ values_of es)
removed_same u xs es fs keyed up under is =
    ap (λ (zs : List (ℕ × Message)). xs ++ values_of zs) is
    ∙ ap (λ (zs : List Message). xs ++ zs) (cut_entries u es keyed (ascends_right xs (values_of es) up)) ∙ sym (cut_both u xs (values_of es) under)

-- ---- what is found and put again

-- an option that isn't None is Some of a value
pub some_there : {X : Type 0} (o : Option X) → is_some o ≡ true → (x : X) × (o ≡ Some x)
some_there None h = let wrong : ◌≡◌ {A = Bool} false true = h in absurd (cc)
some_there (Some x) h = (x, refl)

-- an option that isn't Some is None
pub none_there : {X : Type 0} (o : Option X) → is_some o ≡ false → o ≡ None
none_there None h = refl
none_there (Some x) h = let wrong : ◌≡◌ {A = Bool} true false = h in absurd (cc)

-- a message that is held, put again, changes nothing
pub put_found : (u : ℕ) (x : Message) (xs : List Message) → Ascends uid_of xs → with_key uid_of u xs ≡ Some x → put_keyed uid_of x xs ≡ xs
put_found u x [] up e = absurd (cc)
put_found u x (y ∷ ys) up e =
    let key : x.uid ≡ u = found_key u (y ∷ ys) x e in
    elim (same_or_not y.uid u) [
      | inl same ↦
          let here : y ≡ x = some_same _ _ (sym (ap (λ b. if b then Some y else with_key uid_of u ys) (eq-eqb _ _ same)) ∙ e) in
          ap (λ b. if b then x ∷ (y ∷ ys) else (if eqb x.uid y.uid then x ∷ ys else y ∷ put_keyed uid_of x ys)) (le-ltb _ _ (omega (arith, key, same)))
          ∙ ap (λ b. if b then x ∷ ys else y ∷ put_keyed uid_of x ys) (eq-eqb _ _ (key ∙ sym same)) ∙ ap (λ (z : Message). z ∷ ys) (sym here)
      | inr apart ↦
          let rest : with_key uid_of u ys ≡ Some x = sym (ap (λ b. if b then Some y else with_key uid_of u ys) (ne_eqb _ _ apart)) ∙ e in
          let less : y.uid < u = found_above y.uid u ys x up.0 rest in
          ap (λ b. if b then x ∷ (y ∷ ys) else (if eqb x.uid y.uid then x ∷ ys else y ∷ put_keyed uid_of x ys)) (le-ltb _ _ (omega (arith, key, less)))
          ∙ ap (λ b. if b then x ∷ ys else y ∷ put_keyed uid_of x ys) (ne_eqb _ _ (λ f. omega (arith, key, less, f)))
          ∙ ap (λ zs. y ∷ zs) (put_found u x ys up.1 rest)
    ]

-- ---- changes within the vector

-- a message goes before one that is held
pub put_inside : (x : Message) (xs ys : List Message) (at : ℕ) → IsPlace uid_of x.uid xs at → at < length xs → ((d : Message) → x.uid ≢ uid_of (get_or xs at d))
    → put_keyed uid_of x (xs ++ ys) ≡ (take at xs ++ x ∷ drop at xs) ++ ys
put_inside x [] ys at place w free = absurd (omega arith)
put_inside x (z ∷ xs) ys zero place w free =
    let least : x.uid ≤ z.uid = place.from 0 z (omega arith) (omega arith) in
    let less : x.uid < z.uid = omega (arith, least, free z) in
    ap (λ b. if b then x ∷ (z ∷ (xs ++ ys)) else (if eqb x.uid z.uid then x ∷ (xs ++ ys) else z ∷ put_keyed uid_of x (xs ++ ys))) (lt-ltb _ _ less)
put_inside x (z ∷ xs) ys (suc at) place w free =
    let less : z.uid < x.uid = place.before 0 z (omega arith) in
    ap (λ b. if b then x ∷ (z ∷ (xs ++ ys)) else (if eqb x.uid z.uid then x ∷ (xs ++ ys) else z ∷ put_keyed uid_of x (xs ++ ys))) (le-ltb _ _ (omega (arith, less)))
    ∙ ap (λ b. if b then x ∷ (xs ++ ys) else z ∷ put_keyed uid_of x (xs ++ ys)) (ne_eqb _ _ (λ e. omega (arith, e, less)))
    ∙ ap (λ (zs : List Message). z ∷ zs) (put_inside x xs ys at (record {
      within = omega (arith, place.within);
      before = λ i d l. place.before (suc i) d (omega arith);
      from = λ i d l m. place.from (suc i) d (omega arith) (omega arith);
    }) (omega arith) free)

above_all : (k : ℕ) (xs ys : List Message) (x : Message) → Ascends uid_of (xs ++ ys) → with_key uid_of k xs ≡ Some x → AllAbove uid_of k ys
above_all k [] ys x up e = absurd (cc)
above_all k (z ∷ xs) ys x up e =
    elim (eqb z.uid k) as (λ b. eqb z.uid k ≡ b → (if b then Some z else with_key uid_of k xs) ≡ Some x → AllAbove uid_of k ys) [
      | true ↦ λ t f. subst (λ n. AllAbove uid_of n ys) (eqb-true _ _ t) (above_right z.uid xs ys up.0)
      | false ↦ λ t f. above_all k xs ys x up.1 f
    ] refl e

-- a message that the first part holds is taken out
pub cut_inside : (k : ℕ) (xs ys : List Message) (at : ℕ) → IsHeldAt uid_of k xs at → Ascends uid_of (xs ++ ys) → cut_keyed uid_of k (xs ++ ys) ≡ (take at xs ++ drop (suc at) xs)
    ++ ys
cut_inside k xs ys at held up =
    let item = item_at uid_of xs at held.within in
    let found : with_key uid_of k xs ≡ Some item.0 = sym (held_found uid_of k xs (ascends_left xs ys up) at held item.0 item.1) in
    filter-append (λ (m : Message). not (eqb m.uid k)) xs ys ∙ ap (λ (zs : List Message). zs ++ cut_keyed uid_of k ys) (cut_held uid_of k xs (ascends_left xs ys up) at held)
    ∙ ap (λ (zs : List Message). (take at xs ++ drop (suc at) xs) ++ zs) (cut_above uid_of k ys (above_all k xs ys item.0 up found))
