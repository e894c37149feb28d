-- Names that ascend are the keywords of flags exactly where each is a keyword of one, and each such keyword is among them.
use Rattle.std.proofs.Common.{◌≡◌, ℕ, List, [], ◌∷◌, Bool, true, false, ◌&&◌, ◌||◌, cond, refl, sym, ap, ◌∙◌, subst, nat_cmp}
use Rattle.std.specs.declared.cmp.Ordering.{Ordering}
use Rattle.std.specs.declared.cmp.Ordering.TheVariants.{Less, Equal, Greater}
use Rattle.std.specs.Ordering.{match_ordering, is_lt, ordering_reverse}
use Rattle.std.specs.Bool.{Decides}
use Rattle.std.specs.Cmp.Lexicographic.{slice_cmp}
use Rattle.std.specs.List.{AllByRecursion}
use Rattle.std.specs.List.Sorted.{IsStrictlySortedBy}
use Rattle.std.specs.Str.{bytes_eq}
use Rattle.std.specs.BTreeSet.{insert_key}
use Rattle.std.proofs.lemmas.Bool.Decides.{same_from_decides}
use Rattle.std.proofs.lemmas.Cmp.{nat_list_cmp_total}
use Rattle.std.proofs.lemmas.Map.Keys.{sorted_head, sorted_tail}
use Rattle.std.proofs.lemmas.Map.Lookups.{exact_bytes}
use Rattle.std.proofs.lemmas.Slice.Eq.{bytes_eq-Decides, slice_eq-Decides}
use Rattle.mail_maps.specs.Keywords.{has_name, sorted_into}
use Rattle.mail_maps.specs.Serve.{same_names}
use Rattle.mail_maps.specs.reading.Compared.{ascend_from, ascend, are_among}
use Rattle.mail_maps.proofs.MemberLemmas.{all_above, into_sorted}

abbrev cmp : List ℕ → List ℕ → Ordering
cmp = slice_cmp nat_cmp

abbrev AllAbove : List ℕ → List (List ℕ) → Type 0
AllAbove x xs = AllByRecursion (λ y. cmp x y ≡ Less) xs

abbrev Sorted : List (List ℕ) → Type 0
Sorted xs = IsStrictlySortedBy cmp xs

-- ---- Bools

both : (a b : Bool) → (a && b) ≡ true → (a ≡ true) × (b ≡ true)
both true b e = (refl, e)
both false b e = absurd (let f : false ≡ true = e in cc)

and_both : (a b : Bool) → a ≡ true → b ≡ true → (a && b) ≡ true
and_both true b e f = f
and_both false b e f = e

same_bools : (a b : Bool) → (a ≡ true → b ≡ true) → (b ≡ true → a ≡ true) → a ≡ b
same_bools true b f g = sym (f refl)
same_bools false true f g = g refl
same_bools false false f g = refl

or_same : (b c : Bool) → (b || c) ≡ (b || (b || c))
or_same true c = refl
or_same false c = refl

or_turned : (a b c : Bool) → (a || (b || c)) ≡ (b || (a || c))
or_turned true true c = refl
or_turned true false c = refl
or_turned false b c = refl

or_group : (a b c : Bool) → ((a || b) || c) ≡ (b || (a || c))
or_group true true c = refl
or_group true false c = refl
or_group false b c = refl

less_is : (o : Ordering) → is_lt o ≡ true → o ≡ Less
less_is Less e = refl
less_is Equal e = absurd (let f : false ≡ true = e in cc)
less_is Greater e = absurd (let f : false ≡ true = e in cc)

-- ---- order

sorted_if : (x : List ℕ) (xs : List (List ℕ)) → ascend_from x xs ≡ true → Sorted (x ∷ xs)
unfolding IsStrictlySortedBy
sorted_if x [] e = (tt, tt)
sorted_if x (y ∷ ys) e =
    let l : cmp x y ≡ Less = less_is (cmp x y) (both (is_lt (cmp x y)) (ascend_from y ys) e).0 in
    let later : Sorted (y ∷ ys) = sorted_if y ys (both (is_lt (cmp x y)) (ascend_from y ys) e).1 in
    ((l, all_above cmp nat_list_cmp_total x y ys l later.0), later)

if_sorted : (x : List ℕ) (xs : List (List ℕ)) → Sorted (x ∷ xs) → ascend_from x xs ≡ true
unfolding IsStrictlySortedBy
if_sorted x [] s = refl
if_sorted x (y ∷ ys) s = and_both (is_lt (cmp x y)) (ascend_from y ys) (ap is_lt s.0.0) (if_sorted y ys s.1)

ascend_sorted : (xs : List (List ℕ)) → ascend xs ≡ true → Sorted xs
unfolding IsStrictlySortedBy
ascend_sorted [] e = tt
ascend_sorted (x ∷ xs) e = sorted_if x xs e

sorted_ascend : (xs : List (List ℕ)) → Sorted xs → ascend xs ≡ true
sorted_ascend [] s = refl
sorted_ascend (x ∷ xs) s = if_sorted x xs s

-- ---- a set

flipped : (x k : List ℕ) → cmp k x ≡ Greater → cmp x k ≡ Less
flipped x k e = nat_list_cmp_total.antisymm x k ∙ ap ordering_reverse e

has_put : (q : List ℕ) (xs : List (List ℕ)) (k : List ℕ) → has_name q (insert_key cmp xs k) ≡ (bytes_eq q k || has_name q xs)
has_put q [] k = refl
has_put q (x ∷ xs) k =
    elim (cmp k x) as (λ (o : Ordering). cmp k x ≡ o → has_name q (match_ordering o (k ∷ x ∷ xs) (x ∷ xs) (x ∷ insert_key cmp xs k))
    ≡ (bytes_eq q k || (bytes_eq q x || has_name q xs))) [
      | Less ↦ λ l. refl
      | Equal ↦ λ e. ap (λ (y : List ℕ). bytes_eq q y || has_name q xs) (sym (exact_bytes k x e)) ∙ or_same (bytes_eq q k) (has_name q xs)
          ∙ ap (λ (y : List ℕ). bytes_eq q k || (bytes_eq q y || has_name q xs)) (exact_bytes k x e)
      | Greater ↦ λ g. ap (λ (b : Bool). bytes_eq q x || b) (has_put q xs k) ∙ or_turned (bytes_eq q x) (bytes_eq q k) (has_name q xs)
    ] refl

-- names that are put in one after another are among them, beside those that were
pub has_all : (q : List ℕ) (before xs : List (List ℕ)) → has_name q (sorted_into cmp before xs) ≡ (has_name q before || has_name q xs)
has_all q before [] = or_false (has_name q before)
  where
    or_false : (b : Bool) → b ≡ (b || false)
    or_false true = refl
    or_false false = refl
has_all q before (x ∷ xs) =
    has_all q (insert_key cmp before x) xs ∙ ap (λ (b : Bool). b || has_name q xs) (has_put q before x) ∙ or_group (bytes_eq q x) (has_name q before) (has_name q xs)

-- ---- one list has a set of names in order

is_itself : (x : List ℕ) → bytes_eq x x ≡ true
is_itself x = (bytes_eq-Decides x x).1 refl

is_it : (x y : List ℕ) → bytes_eq x y ≡ true → x ≡ y
is_it x y e = (bytes_eq-Decides x y).0 e

not_itself : (x : List ℕ) → cmp x x ≡ Less → ⊥
not_itself x l = let f : Less ≡ Greater = sym l ∙ nat_list_cmp_total.antisymm x x ∙ ap ordering_reverse l in cc

none_above : (x : List ℕ) (xs : List (List ℕ)) → AllAbove x xs → has_name x xs ≡ false
none_above x [] a = refl
none_above x (y ∷ ys) a = by (bytes_eq x y) refl (none_above x ys a.1)
  where
    by : (b : Bool) → bytes_eq x y ≡ b → has_name x ys ≡ false → (b || has_name x ys) ≡ false
    by true e later = absurd (not_itself y (subst (λ (z : List ℕ). cmp z y ≡ Less) (is_it x y e) a.0))
    by false e later = later

-- the first of one list isn't below the first of the other
not_below : (x y : List ℕ) (xs ys : List (List ℕ)) → AllAbove y ys → has_name x (x ∷ xs) ≡ has_name x (y ∷ ys) → cmp x y ≡ Less → ⊥
not_below x y xs ys a same l =
    let there : true ≡ has_name x (y ∷ ys) = sym (ap (λ (b : Bool). b || has_name x xs) (is_itself x)) ∙ same in
    let none : has_name x (y ∷ ys) ≡ false = none_above x (y ∷ ys) (l, all_above cmp nat_list_cmp_total x y ys l a) in
    let f : true ≡ false = there ∙ none in cc

same_first : (x y : List ℕ) (xs ys : List (List ℕ)) → AllAbove x xs → AllAbove y ys → ((q : List ℕ) → has_name q (x ∷ xs) ≡ has_name q (y ∷ ys)) → x ≡ y
same_first x y xs ys a b same =
    elim (cmp x y) as (λ (o : Ordering). cmp x y ≡ o → x ≡ y) [
      | Less ↦ λ l. absurd (not_below x y xs ys b (same x) l)
      | Equal ↦ λ e. exact_bytes x y e
      | Greater ↦ λ g. absurd (not_below y x ys xs a (sym (same y)) (flipped y x g))
    ] refl

same_later : (x : List ℕ) (xs ys : List (List ℕ)) → AllAbove x xs → AllAbove x ys → ((q : List ℕ) → has_name q (x ∷ xs) ≡ has_name q (x ∷ ys))
    → (q : List ℕ) → has_name q xs ≡ has_name q ys
same_later x xs ys a b same q = by (bytes_eq q x) refl (same q)
  where
    by : (t : Bool) → bytes_eq q x ≡ t → (t || has_name q xs) ≡ (t || has_name q ys) → has_name q xs ≡ has_name q ys
    by true e f = ap (λ (z : List ℕ). has_name z xs) (is_it q x e) ∙ none_above x xs a ∙ sym (none_above x ys b) ∙ ap (λ (z : List ℕ). has_name z ys) (sym (is_it q x e))
    by false e f = f

same_sets : (xs ys : List (List ℕ)) → Sorted xs → Sorted ys → ((q : List ℕ) → has_name q xs ≡ has_name q ys) → xs ≡ ys
same_sets [] [] s t same = refl
same_sets [] (y ∷ ys) s t same = absurd (let f : false ≡ true = same y ∙ ap (λ (b : Bool). b || has_name y ys) (is_itself y) in cc)
same_sets (x ∷ xs) [] s t same = absurd (let f : true ≡ false = sym (ap (λ (b : Bool). b || has_name x xs) (is_itself x)) ∙ same x in cc)
same_sets (x ∷ xs) (y ∷ ys) s t same =
    let a : AllAbove x xs = sorted_head cmp x xs s in
    let b : AllAbove y ys = sorted_head cmp y ys t in
    let first : x ≡ y = same_first x y xs ys a b same in
    ap (λ (z : List ℕ). z ∷ xs) first
    ∙ ap (λ (zs : List (List ℕ)). y ∷ zs)
    (same_sets xs ys (sorted_tail cmp x xs s) (sorted_tail cmp y ys t)
    (same_later y xs ys (subst (λ (z : List ℕ). AllAbove z xs) first a) b (subst (λ (z : List ℕ). (q : List ℕ) → has_name q (z ∷ xs) ≡ has_name q (y ∷ ys)) first same)))

-- ---- the test

among : (others xs : List (List ℕ)) → are_among others xs ≡ true → (q : List ℕ) → has_name q xs ≡ true → has_name q others ≡ true
among others [] e q h = absurd (let f : false ≡ true = h in cc)
among others (x ∷ xs) e q h = by (bytes_eq q x) refl h (among others xs (both (has_name x others) (are_among others xs) e).1 q)
  where
    by : (b : Bool) → bytes_eq q x ≡ b → (b || has_name q xs) ≡ true → (has_name q xs ≡ true → has_name q others ≡ true) → has_name q others ≡ true
    by true is f later = ap (λ (z : List ℕ). has_name z others) (is_it q x is) ∙ (both (has_name x others) (are_among others xs) e).0
    by false is f later = later f

all_among : (others xs : List (List ℕ)) → ((q : List ℕ) → has_name q xs ≡ true → has_name q others ≡ true) → are_among others xs ≡ true
all_among others [] f = refl
all_among others (x ∷ xs) f =
    and_both (has_name x others) (are_among others xs) (f x (ap (λ (b : Bool). b || has_name x xs) (is_itself x)))
    (all_among others xs (λ q h. f q (or_later (bytes_eq q x) (has_name q xs) h)))
  where
    or_later : (a b : Bool) → b ≡ true → (a || b) ≡ true
    or_later true b e = refl
    or_later false b e = e

module _ (names found : List (List ℕ)) where
  abbrev sorted : List (List ℕ)
  sorted = sorted_into cmp [] found

  names_same : ((ascend names && are_among names found) && are_among found names) ≡ true → names ≡ sorted
  names_same e =
      let p = both (ascend names && are_among names found) (are_among found names) e in
      let o = both (ascend names) (are_among names found) p.0 in
      same_sets names sorted (ascend_sorted names o.0) (into_sorted cmp nat_list_cmp_total found)
      (λ q. same_bools (has_name q names) (has_name q found) (among found names p.1 q) (among names found o.1 q) ∙ sym (has_all q [] found))

  same_names_are : names ≡ sorted → ((ascend names && are_among names found) && are_among found names) ≡ true
  same_names_are e =
      let has : (q : List ℕ) → has_name q names ≡ has_name q found = λ q. ap (has_name q) e ∙ has_all q [] found in
      and_both (ascend names && are_among names found) (are_among found names)
      (and_both (ascend names) (are_among names found) (ap ascend e ∙ sorted_ascend sorted (into_sorted cmp nat_list_cmp_total found)) (all_among names found (λ q h. has q ∙ h)))
      (all_among found names (λ q h. sym (has q) ∙ h))

  -- the test of names that ascend, with both ways of being among others, is whether they are the set
  test_is : ((ascend names && are_among names found) && are_among found names) ≡ same_names names sorted
  test_is =
      same_from_decides ((ascend names && are_among names found) && are_among found names) (same_names names sorted) (names_same, same_names_are)
      (slice_eq-Decides bytes_eq-Decides names sorted (same_names names sorted) refl)

  -- the same of what three tests answered in turn
  pub all_hold : (last : Bool) → ascend names ≡ true → are_among names found ≡ true → last ≡ are_among found names → last ≡ same_names names sorted
  all_hold last a b is = is ∙ sym (ap (λ (t : Bool). (t && are_among names found) && are_among found names) a ∙ ap (λ (t : Bool). t && are_among found names) b) ∙ test_is

  pub second_fails : ascend names ≡ true → are_among names found ≡ false → false ≡ same_names names sorted
  second_fails a b = sym (ap (λ (t : Bool). (t && are_among names found) && are_among found names) a ∙ ap (λ (t : Bool). t && are_among found names) b) ∙ test_is

  pub first_fails : ascend names ≡ false → false ≡ same_names names sorted
  first_fails a = sym (ap (λ (t : Bool). (t && are_among names found) && are_among found names) a) ∙ test_is
