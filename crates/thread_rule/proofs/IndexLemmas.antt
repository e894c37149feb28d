-- What a change at one key, or at several, leaves of the index, and what is read of it at a key.
use Rattle.std.proofs.Common.{◌≡◌, ℕ, ◌<◌, Bool, true, false, ◌&&◌, ◌||◌, cond, eqb, eqb-true, eq-eqb, zero, suc, get_or, List, [], ◌∷◌, ◌++◌, length, set, refl, sym, ap, ◌∙◌, subst, append_assoc}
use Rattle.std.proofs.Common.{map, Result, Ok, Err, arith}
use Rattle.std.specs.Result.{OnErr}
use Rattle.std.specs.List.{list_any, filter, AllByRecursion}
use Rattle.std.specs.List.Sorted.{IsStrictlySortedBy}
use Rattle.std.specs.declared.cmp.Ordering.{Ordering}
use Rattle.std.specs.declared.cmp.Ordering.TheVariants.{Less, Equal, Greater}
use Rattle.std.specs.declared.ops.Bound.TheVariants.{Included, Unbounded}
use Rattle.std.specs.Ordering.{nat_cmp, is_eq, is_le, ordering_then, ordering_reverse}
use Rattle.std.specs.BTreeMap.{is_at}
use Rattle.std.specs.BTreeMap.Range.{range_contains}
use Rattle.std.specs.BTreeSet as sorted
use Rattle.std.specs.BTreeSet.{BTreeSet}
use Rattle.std.proofs.lemmas.Bool.{cond-true, cond-false}
use Rattle.std.proofs.lemmas.Cmp.{nat_cmp_total, tied_itself}
use Rattle.std.proofs.lemmas.List.{append-nil, map-append, map-set, length-map, get_or-map, get_or-set_same, get_or-set_other}
use Rattle.std.proofs.lemmas.List.Folds.{list_any-append}
use Rattle.std.proofs.lemmas.Map.Keys.{sorted_head, sorted_tail}
use Rattle.thread_rule.specs.Ids.{ids_in}
use Rattle.std.specs.declared.hash.DefaultHasher.{DefaultHasher}
use Rattle.thread_rule.specs.reading.Keys.{key_under, keys_under}
use Rattle.thread_rule.specs.reading.Index.{Entry, EntryLists, front, list_at, entry_cmp, numbers_at, numbers_up_to_other, emails_at, has_entry, has_key, SameIndex, SetsOne, SetsAll, SameApart}

-- what holds in any case holds after an error
pub on_err : {T E P : Type 0} (r : Result T E) → P → OnErr r P
on_err (Ok x) p = tt
on_err (Err e) p = p

-- a number is the one that is sought exactly where the two are equal
pub number_test : (a b : ℕ) → is_at (nat_cmp a) b ≡ eqb a b
number_test a b = grind arith

eqb_turned : (a b : ℕ) → eqb a b ≡ eqb b a
eqb_turned a b = grind arith

-- an entry is the one that is sought where its key and its number are
then_equal : (o p : Ordering) → is_eq (ordering_then o p) ≡ is_eq o && is_eq p
then_equal Less p = refl
then_equal Equal p = refl
then_equal Greater p = refl

-- an entry is the one that is sought exactly where its key and its number are those that are sought
pub entry_test : (at : ℕ) (email : ℕ) (e : Entry) → is_at (entry_cmp (at, email)) e ≡ eqb e.0 at && is_at (nat_cmp email) e.1
entry_test at email e =
    then_equal (nat_cmp at e.0) (nat_cmp email e.1)
    ∙ ap (λ (q : Bool). q && is_at (nat_cmp email) e.1) (number_test at e.0 ∙ eqb_turned at e.0)

-- ---- a change at one key

-- the entries of a tree after a change at one of them
pub tree_sets : (m n : BTreeSet Entry) (key : ℕ) (email : ℕ) (b : Bool) → sorted.UpdatesBy entry_cmp (entry_cmp (key, email)) m n b
    → (k : ℕ) (e : ℕ) → list_any (is_at (entry_cmp (k, e))) n.keys ≡ cond (eqb k key && eqb email e) b (list_any (is_at (entry_cmp (k, e))) m.keys)
tree_sets m n key email b h k e =
    h.0 (k, e)
    ∙ ap (λ (q : Bool). cond q b (list_any (is_at (entry_cmp (k, e))) m.keys))
    (entry_test key email (k, e) ∙ ap (λ (q : Bool). eqb k key && q) (number_test email e))

-- lists that are the same at each front but that of the key
pub record IsChangedAt (old new : EntryLists) (key : ℕ) (list : List Entry) : Type 0 where
  pub here : list_at new (front key) ≡ list
  pub others : (n : ℕ) → eqb n (front key) ≡ false → list_at new n ≡ list_at old n

-- a key of another front is another key
other_key : (k key : ℕ) → eqb (front k) (front key) ≡ false → eqb k key ≡ false
other_key k key e = by (eqb k key) refl
  where
    by : (q : Bool) → eqb k key ≡ q → eqb k key ≡ false
    by false is = is
    by true is = let same : eqb (front k) (front key) ≡ true = eq-eqb (front k) (front key) (ap front (eqb-true k key is)) in absurd cc

-- where the list of its front has the entry or not, and any other entry as before, one is set
pub sets_one : (old new : EntryLists) (key : ℕ) (email : ℕ) (list : List Entry) (b : Bool) → IsChangedAt old new key list
    → ((k : ℕ) (e : ℕ) → list_any (is_at (entry_cmp (k, e))) list
    ≡ cond (eqb k key && eqb email e) b (list_any (is_at (entry_cmp (k, e))) (list_at old (front key))))
    → SetsOne old new key email b
sets_one old new key email list b changed is k e = by (eqb (front k) (front key)) refl
  where
    Goal : Type 0
    Goal = has_entry new k e ≡ cond (eqb k key && eqb email e) b (has_entry old k e)

    by : (q : Bool) → eqb (front k) (front key) ≡ q → Goal
    by true same =
        let at : front k ≡ front key = eqb-true (front k) (front key) same in
        ap (λ (n : ℕ). list_any (is_at (entry_cmp (k, e))) (list_at new n)) at ∙ ap (list_any (is_at (entry_cmp (k, e)))) changed.here ∙ is k e
        ∙ ap (λ (n : ℕ). cond (eqb k key && eqb email e) b (list_any (is_at (entry_cmp (k, e))) (list_at old n))) (sym at)
    by false other =
        ap (list_any (is_at (entry_cmp (k, e)))) (changed.others (front k) other)
        ∙ sym (cond-false (eqb k key && eqb email e) b (has_entry old k e) (ap (λ (q : Bool). q && eqb email e) (other_key k key other)))

-- the same lists at each front are the same index
pub same_lists : (old new : EntryLists) → ((n : ℕ) → list_at new n ≡ list_at old n) → SameIndex old new
same_lists old new same key email = ap (list_any (is_at (entry_cmp (key, email)))) (same (front key))

-- a change behind another that changes no list
pub sets_behind : (k m n : EntryLists) (key : ℕ) (email : ℕ) (b : Bool) → ((p : ℕ) → list_at m p ≡ list_at k p) → SetsOne m n key email b → SetsOne k n key email b
sets_behind k m n key email b same sets id e =
    sets id e ∙ ap (λ (q : Bool). cond (eqb id key && eqb email e) b q) (same_lists k m same id e)

pub same_behind : (k m n : EntryLists) → ((p : ℕ) → list_at m p ≡ list_at k p) → SameIndex m n → SameIndex k n
same_behind k m n same h key email = h key email ∙ same_lists k m same key email

-- one list is another; f gives its entries
pub changed_at : {X : Type 0} (f : X → List Entry) (ls : List X) (p : ℕ) (w : X) (key : ℕ) → p ≡ front key → p < length ls
    → IsChangedAt (map f ls) (map f (set ls p w)) key (f w)
changed_at {X} f ls p w key e l =
    let whole : map f (set ls p w) ≡ set (map f ls) p (f w) = map-set f ls p w in
    let within : p < length (map f ls) = omega (arith, l, length-map ls f) in
    record {
      here = ap (λ (x : EntryLists). list_at x (front key)) whole ∙ ap (λ (n : ℕ). list_at (set (map f ls) p (f w)) n) (sym e) ∙ get_or-set_same (map f ls) p (f w) [] within;
      others = λ q other. ap (λ (x : EntryLists). list_at x q) whole ∙ get_or-set_other (map f ls) p q (f w) [] (λ same. differ q other (same ∙ e));
    }
  where
    differ : (q : ℕ) → eqb q (front key) ≡ false → q ≡ front key → ⊥
    differ q other same = let is : eqb q (front key) ≡ true = eq-eqb q (front key) same in absurd cc

-- and what it was is found there
pub list_there : {X : Type 0} (f : X → List Entry) (ls : List X) (p : ℕ) (v : X) → p < length ls → v ≡ get_or ls p v → f v ≡ list_at (map f ls) p
list_there f ls p v l is = ap f is ∙ sym (get_or-map f ls p v [] l)

-- an empty list more changes none
pub one_more : (ls : EntryLists) (p : ℕ) → list_at (ls ++ [] ∷ []) p ≡ list_at ls p
one_more [] zero = refl
one_more [] (suc p) = refl
one_more (l ∷ ls) zero = refl
one_more (l ∷ ls) (suc p) = one_more ls p

-- where the list of the front is as it was, the index is
unchanged : (old new : EntryLists) (key : ℕ) → IsChangedAt old new key (list_at old (front key)) → SameIndex old new
unchanged old new key changed = same_lists old new (λ n. by n (eqb n (front key)) refl)
  where
    by : (n : ℕ) (q : Bool) → eqb n (front key) ≡ q → list_at new n ≡ list_at old n
    by n true e = let at : n ≡ front key = eqb-true n (front key) e in ap (list_at new) at ∙ changed.here ∙ sym (ap (list_at old) at)
    by n false e = changed.others n e

-- one tree is another, with the entry or without it
pub tree_changed : (ts : List (BTreeSet Entry)) (p : ℕ) (v w : BTreeSet Entry) (key : ℕ) (email : ℕ) (b : Bool) → p ≡ front key → p < length ts → v ≡ get_or ts p v
    → sorted.UpdatesBy entry_cmp (entry_cmp (key, email)) v w b → SetsOne (map (λ t. t.keys) ts) (map (λ t. t.keys) (set ts p w)) key email b
tree_changed ts p v w key email b e l is h =
    let f : BTreeSet Entry → List Entry = λ t. t.keys in
    sets_one (map f ts) (map f (set ts p w)) key email w.keys b (changed_at f ts p w key e l)
    (λ k n. tree_sets v w key email b h k n
    ∙ ap (λ (es : List Entry). cond (eqb k key && eqb email n) b (list_any (is_at (entry_cmp (k, n))) es)) (list_there f ts p v l is ∙ ap (list_at (map f ts)) e))

-- one tree is another with the same entries
pub tree_kept : (ts : List (BTreeSet Entry)) (p : ℕ) (v w : BTreeSet Entry) (key : ℕ) → p ≡ front key → p < length ts → v ≡ get_or ts p v → sorted.IsUnchanged v w
    → SameIndex (map (λ t. t.keys) ts) (map (λ t. t.keys) (set ts p w))
tree_kept ts p v w key e l is h =
    let f : BTreeSet Entry → List Entry = λ t. t.keys in
    let same : w.keys ≡ list_at (map f ts) (front key) = h ∙ list_there f ts p v l is ∙ ap (list_at (map f ts)) e in
    unchanged (map f ts) (map f (set ts p w)) key (subst (IsChangedAt (map f ts) (map f (set ts p w)) key) same (changed_at f ts p w key e l))

-- ---- at several keys

both : (p r q v h : Bool) → cond (p && q) v (cond (r && q) v h) ≡ cond ((r || (p || false)) && q) v h
both true true true v h = refl
both true true false v h = refl
both true false true v h = refl
both true false false v h = refl
both false true true v h = refl
both false true false v h = refl
both false false true v h = refl
both false false false v h = refl

left_false : (r s q : Bool) → ((r || s) && q) ≡ false → (r && q) ≡ false
left_false true s q e = e
left_false false s q e = refl

-- an index that is as it was is changed at no key
pub sets_none : (m : EntryLists) (email : ℕ) (b : Bool) → SetsAll m m [] email b
sets_none m email b id e = refl

-- a change at some keys, and then the same at one key more, is a change at all of them
pub sets_more : (k m n : EntryLists) (xs : List ℕ) (x : ℕ) (email : ℕ) (b : Bool) → SetsAll k m xs email b → SetsOne m n x email b → SetsAll k n (xs ++ x ∷ []) email b
sets_more k m n xs x email b g h id e =
    h id e ∙ ap (λ (y : Bool). cond (eqb id x && eqb email e) b y) (g id e)
    ∙ both (eqb id x) (has_key xs id) (eqb email e) b (has_entry k id e)
    ∙ ap (λ (y : Bool). cond (y && eqb email e) b (has_entry k id e)) (sym (list_any-append (eqb id) xs (x ∷ [])))

-- of these ids the ones before the rest are done
pub record SetsSoFar (old new : EntryLists) (base : DefaultHasher) (ids : List (List ℕ)) (rest : List ℕ) (email : ℕ) (there : Bool) : Type 0 where
  pub done : List (List ℕ)
  pub whole : ids ≡ done ++ ids_in rest
  pub sets : SetsAll old new (keys_under base done) email there

-- none are done
pub none_set : (m : EntryLists) (base : DefaultHasher) (ids : List (List ℕ)) (rest : List ℕ) (email : ℕ) (b : Bool) → ids_in rest ≡ ids → SetsSoFar m m base ids rest email b
none_set m base ids rest email b e = record { done = []; whole = sym e; sets = sets_none m email b }

-- one turn of a loop over ids, at the key of each
pub keys_turn : (k m n : EntryLists) (base : DefaultHasher) (ids : List (List ℕ)) (rest id more : List ℕ) (key : ℕ) (email : ℕ) (b : Bool) → SetsSoFar k m base ids rest email b
    → ids_in rest ≡ id ∷ ids_in more → key ≡ key_under base id → SetsOne m n key email b → SetsSoFar k n base ids more email b
keys_turn k m n base ids rest id more key email b far e is one =
    let f : List ℕ → ℕ = key_under base in
    let P : List ℕ → Type 0 = λ xs. SetsAll k n xs email b in
    let Q : ℕ → Type 0 = λ x. SetsOne m n x email b in
    record {
      done = far.done ++ id ∷ [];
      whole = far.whole ∙ ap (λ (xs : List (List ℕ)). far.done ++ xs) e ∙ sym (append_assoc far.done (id ∷ []) (ids_in more));
      sets = subst P (sym (map-append f far.done (id ∷ []))) (sets_more k m n (map f far.done) (f id) email b far.sets (subst Q is one));
    }

-- all are done
pub all_set : (k m : EntryLists) (base : DefaultHasher) (ids : List (List ℕ)) (rest : List ℕ) (email : ℕ) (b : Bool) → SetsSoFar k m base ids rest email b → ids_in rest ≡ []
    → SetsAll k m (keys_under base ids) email b
all_set k m base ids rest email b far e =
    let P : List (List ℕ) → Type 0 = λ xs. SetsAll k m (keys_under base xs) email b in
    subst P (sym (far.whole ∙ ap (λ (xs : List (List ℕ)). far.done ++ xs) e ∙ append-nil far.done)) far.sets

-- where the index changed for an Email at some of its keys alone, all but this Email at its keys is as it was
pub apart_of : (k m n : EntryLists) (base : DefaultHasher) (ids : List (List ℕ)) (rest : List ℕ) (email : ℕ) (b : Bool) → SetsSoFar k m base ids rest email b → SameIndex m n
    → SameApart k n (keys_under base ids) email
apart_of k m n base ids rest email b far h key e f =
    let g : List ℕ → ℕ = key_under base in
    let xs = keys_under base far.done in
    let ys = keys_under base (ids_in rest) in
    let whole : has_key (keys_under base ids) key ≡ (has_key xs key || has_key ys key) =
    ap (list_any (eqb key)) (ap (map g) far.whole ∙ map-append g far.done (ids_in rest)) ∙ list_any-append (eqb key) xs ys in
    let none = left_false (has_key xs key) (has_key ys key) (eqb email e) (ap (λ (y : Bool). y && eqb email e) (sym whole) ∙ f) in
    h key e ∙ far.sets key e ∙ cond-false (has_key xs key && eqb email e) b (has_entry k key e) none

-- what was added in part is taken out again
pub undone : (k m n : EntryLists) (ids : List ℕ) (email : ℕ) → ((id : ℕ) → has_entry k id email ≡ false) → SameApart k m ids email → SetsAll m n ids email false
    → SameIndex k n
undone k m n ids email a g h id e = by (has_key ids id) (eqb email e) refl refl
  where
    by : (p q : Bool) → has_key ids id ≡ p → eqb email e ≡ q → has_entry n id e ≡ has_entry k id e
    by true true x y =
        let same = eqb-true email e y in
        h id e ∙ ap (λ (z : Bool). cond (z && eqb email e) false (has_entry m id e)) x ∙ ap (λ (z : Bool). cond z false (has_entry m id e)) y
        ∙ sym (a id) ∙ ap (λ (z : ℕ). has_entry k id z) same
    by true false x y =
        let f : (has_key ids id && eqb email e) ≡ false = ap (λ (z : Bool). z && eqb email e) x ∙ y in
        h id e ∙ cond-false (has_key ids id && eqb email e) false (has_entry m id e) f ∙ g id e f
    by false q x y =
        let f : (has_key ids id && eqb email e) ≡ false = ap (λ (z : Bool). z && eqb email e) x in
        h id e ∙ cond-false (has_key ids id && eqb email e) false (has_entry m id e) f ∙ g id e f

-- the index has an Email at a key where its number is listed there
listed_in : (id : ℕ) (email : ℕ) (es : List Entry) → list_any (is_at (entry_cmp (id, email))) es ≡ list_any (is_at (nat_cmp email)) (numbers_at id es)
listed_in id email [] = refl
listed_in id email (e ∷ es) = by (eqb e.0 id) refl (listed_in id email es)
  where
    rest : Bool
    rest = list_any (is_at (entry_cmp (id, email))) es

    by : (q : Bool) → eqb e.0 id ≡ q → rest ≡ list_any (is_at (nat_cmp email)) (numbers_at id es)
        → is_at (entry_cmp (id, email)) e || rest ≡ list_any (is_at (nat_cmp email)) (numbers_at id (e ∷ es))
    by true k more =
        ap (λ (q : Bool). q || rest) (entry_test id email e ∙ ap (λ (q : Bool). q && is_at (nat_cmp email) e.1) k)
        ∙ ap (λ (q : Bool). is_at (nat_cmp email) e.1 || q) more
        ∙ sym (ap (list_any (is_at (nat_cmp email))) (cond-true (eqb e.0 id) (e.1 ∷ numbers_at id es) (numbers_at id es) k))
    by false k more =
        ap (λ (q : Bool). q || rest) (entry_test id email e ∙ ap (λ (q : Bool). q && is_at (nat_cmp email) e.1) k)
        ∙ more
        ∙ sym (ap (list_any (is_at (nat_cmp email))) (cond-false (eqb e.0 id) (e.1 ∷ numbers_at id es) (numbers_at id es) k))

-- the index has an Email at a key exactly where the Email's number is listed among those at the key
pub has_listed : (index : EntryLists) (id : ℕ) (email : ℕ) → has_entry index id email ≡ list_any (is_at (nat_cmp email)) (emails_at index id)
has_listed index id email = listed_in id email (list_at index (front id))

-- the numbers at one key ascend
above_at : (key : ℕ) (e : Entry) (es : List Entry) → eqb e.0 key ≡ true → AllByRecursion (λ y. entry_cmp e y ≡ Less) es
    → AllByRecursion (λ n. nat_cmp e.1 n ≡ Less) (numbers_at key es)
above_at key e [] k a = tt
above_at key e (y ∷ es) k a = by (eqb y.0 key) refl (above_at key e es k a.1)
  where
    All : List ℕ → Type 0
    All ns = AllByRecursion (λ n. nat_cmp e.1 n ≡ Less) ns

    less : y.0 ≡ key → nat_cmp e.1 y.1 ≡ Less
    less same =
        let tie : nat_cmp e.0 y.0 ≡ Equal = ap (nat_cmp e.0) (same ∙ sym (eqb-true e.0 key k)) ∙ tied_itself nat_cmp_total e.0 in
        sym (ap (λ (o : Ordering). ordering_then o (nat_cmp e.1 y.1)) tie) ∙ a.0

    by : (q : Bool) → eqb y.0 key ≡ q → All (numbers_at key es) → All (numbers_at key (y ∷ es))
    by true l more = subst All (sym (cond-true (eqb y.0 key) (y.1 ∷ numbers_at key es) (numbers_at key es) l)) (less (eqb-true y.0 key l), more)
    by false l more = subst All (sym (cond-false (eqb y.0 key) (y.1 ∷ numbers_at key es) (numbers_at key es) l)) more

-- of entries in order, the numbers at one key ascend
pub numbers_ascend : (key : ℕ) (es : List Entry) → IsStrictlySortedBy entry_cmp es → IsStrictlySortedBy nat_cmp (numbers_at key es)
unfolding IsStrictlySortedBy
numbers_ascend key [] s = tt
numbers_ascend key (e ∷ es) s = by (eqb e.0 key) refl (numbers_ascend key es s.1)
  where
    by : (q : Bool) → eqb e.0 key ≡ q → IsStrictlySortedBy nat_cmp (numbers_at key es) → IsStrictlySortedBy nat_cmp (numbers_at key (e ∷ es))
    by true k more =
        subst (IsStrictlySortedBy nat_cmp) (sym (cond-true (eqb e.0 key) (e.1 ∷ numbers_at key es) (numbers_at key es) k)) (above_at key e es k s.0, more)
    by false k more = subst (IsStrictlySortedBy nat_cmp) (sym (cond-false (eqb e.0 key) (e.1 ∷ numbers_at key es) (numbers_at key es) k)) more

-- no entries are in order
pub none_ascend : (es : List Entry) → es ≡ [] → IsStrictlySortedBy entry_cmp es
unfolding IsStrictlySortedBy
none_ascend [] e = tt
none_ascend (x ∷ es) e = absurd cc

-- whether an entry is at the key's first place or after it
abbrev pub is_from : ℕ → Entry → Bool
is_from key e = range_contains entry_cmp (Included (key, 0)) Unbounded e

from_at : (key : ℕ) (e : Entry) → eqb e.0 key ≡ true → is_from key e ≡ true
from_at key e k =
    let tie : nat_cmp key e.0 ≡ Equal = ap (nat_cmp key) (eqb-true e.0 key k) ∙ tied_itself nat_cmp_total key in
    ap (λ (o : Ordering). is_le (ordering_then o (nat_cmp 0 e.1)) && true) tie ∙ least e.1
  where
    least : (n : ℕ) → is_le (nat_cmp 0 n) && true ≡ true
    least n = grind arith

-- after an entry of a later key none is of this key
reversed : (o p r : Ordering) → is_eq o ≡ false → is_le (ordering_then o p) && true ≡ true → ordering_then (ordering_reverse o) r ≡ Less → ⊥
reversed Less p r e f g = cc
reversed Equal p r e f g = cc
reversed Greater p r e f g = cc

later_key : (key : ℕ) (e y : Entry) → eqb e.0 key ≡ false → is_from key e ≡ true → entry_cmp e y ≡ Less → eqb y.0 key ≡ false
later_key key e y k f l = by (eqb y.0 key) refl
  where
    by : (q : Bool) → eqb y.0 key ≡ q → eqb y.0 key ≡ false
    by false h = h
    by true h =
        let turned : nat_cmp e.0 y.0 ≡ ordering_reverse (nat_cmp key e.0) =
        ap (nat_cmp e.0) (eqb-true y.0 key h) ∙ nat_cmp_total.antisymm e.0 key in
        absurd (reversed (nat_cmp key e.0) (nat_cmp 0 e.1) (nat_cmp e.1 y.1) (number_test key e.0 ∙ eqb_turned key e.0 ∙ k) f
        (sym (ap (λ (o : Ordering). ordering_then o (nat_cmp e.1 y.1)) turned) ∙ l))

none_later : (key : ℕ) (e : Entry) (es : List Entry) → eqb e.0 key ≡ false → is_from key e ≡ true → AllByRecursion (λ y. entry_cmp e y ≡ Less) es → numbers_at key es ≡ []
none_later key e [] k f a = refl
none_later key e (y ∷ es) k f a =
    cond-false (eqb y.0 key) (y.1 ∷ numbers_at key es) (numbers_at key es) (later_key key e y k f a.0) ∙ none_later key e es k f a.1

-- from the key's first place on, its entries come up to the first of another key
pub numbers_from : (key : ℕ) (es : List Entry) → IsStrictlySortedBy entry_cmp es → numbers_up_to_other key (filter (is_from key) es) ≡ numbers_at key es
numbers_from key [] s = refl
numbers_from key (e ∷ es) s = by (eqb e.0 key) refl (is_from key e) refl (numbers_from key es (sorted_tail entry_cmp e es s))
  where
    more : List Entry
    more = filter (is_from key) es

    by : (q : Bool) → eqb e.0 key ≡ q → (r : Bool) → is_from key e ≡ r → numbers_up_to_other key more ≡ numbers_at key es
        → numbers_up_to_other key (filter (is_from key) (e ∷ es)) ≡ numbers_at key (e ∷ es)
    by true k r f h =
        ap (numbers_up_to_other key) (cond-true (is_from key e) (e ∷ more) more (from_at key e k))
        ∙ cond-true (eqb e.0 key) (e.1 ∷ numbers_up_to_other key more) [] k
        ∙ ap (λ (ns : List ℕ). e.1 ∷ ns) h
        ∙ sym (cond-true (eqb e.0 key) (e.1 ∷ numbers_at key es) (numbers_at key es) k)
    by false k true f h =
        ap (numbers_up_to_other key) (cond-true (is_from key e) (e ∷ more) more f)
        ∙ cond-false (eqb e.0 key) (e.1 ∷ numbers_up_to_other key more) [] k
        ∙ sym (cond-false (eqb e.0 key) (e.1 ∷ numbers_at key es) (numbers_at key es) k ∙ none_later key e es k f (sorted_head entry_cmp e es s))
    by false k false f h =
        ap (numbers_up_to_other key) (cond-false (is_from key e) (e ∷ more) more f) ∙ h
        ∙ sym (cond-false (eqb e.0 key) (e.1 ∷ numbers_at key es) (numbers_at key es) k)
