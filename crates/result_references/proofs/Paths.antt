-- Texts after their first octet, and items of arrays joined.
use Rattle.std.proofs.Common.{◌≡◌, ◌≢◌, ℕ, List, [], ◌∷◌, ◌++◌, Bool, true, false, ◌==◌, if◌then◌else◌, map, Option, Some, None, option_map, ◌<◌, ◌≤◌, ◌+◌, zero, suc, length}
use Rattle.std.proofs.Common.{get_or, drop, is_ok, Result, Ok, Err, OnOk, refl, sym, ap, ◌∙◌, arith, add-one, drop-cons}
use Rattle.std.proofs.lemmas.Bool.{eqb-true}
use Rattle.std.proofs.lemmas.Bool.Decides.{nat_tests}
use Rattle.std.specs.List.{slice_split}
use Rattle.std.specs.Borrow.{Bor}
use Rattle.std.specs.Prelude.{MatchOption}
use Rattle.serde_json.specs.Data.{Data, null, boolean, number, string, array, object, Items, no_items, item}
use Rattle.serde_json.specs.Find.{as_array}
use Rattle.serde_json.specs.View.{view, items_view}
use Rattle.serde_json.specs.declared.value.Value.{Value}
use Rattle.result_references.specs.References.{after_first, segments_of, items_append, joined}

after_first-at : (c : ℕ) (rest : List ℕ) → after_first c (c ∷ rest) ≡ Some rest
after_first-at c rest = go (c == c) refl (grind (arith, nat_tests))
  where
    go : (t : Bool) → (c == c) ≡ t → t ≡ true → after_first c (c ∷ rest) ≡ Some rest
    go t e f = rw (e, f)

-- the clause of `strip_prefix` at an octet
pub after_first-from : (c : ℕ) (bs : List ℕ) (r : Option (Bor (List ℕ)))
    → MatchOption r ((rest : List ℕ) → bs ≢ c ∷ rest) (λ x. bs ≡ c ∷ x.now) → option_map (λ s. s.now) r ≡ after_first c bs
after_first-from c [] None h = refl
after_first-from c [] (Some x) h = cc
after_first-from c (b ∷ bs) None h = go (b == c) refl
  where
    go : (t : Bool) → (b == c) ≡ t → None ≡ after_first c (b ∷ bs)
    go true e = absurd (h bs (ap (λ n. n ∷ bs) (eqb-true b c e)))
    go false e = rw e
after_first-from c (b ∷ bs) (Some x) h = sym (ap (after_first c) h ∙ after_first-at c x.now)

-- the segments of a path that isn't empty are the tokens after the `/` at its front, each with a `/` before it
pub segments-after : (path : List ℕ) → path ≢ [] → segments_of path ≡ option_map (λ rest. map (λ token. 47 ∷ token) (slice_split (λ b. b == 47) rest)) (after_first 47 path)
segments-after [] some = absurd (some refl)
segments-after (b ∷ bs) some = refl

-- items that are appended in three parts are the same whichever two are appended first
pub items_append-assoc : (a b c : Items) → items_append (items_append a b) c ≡ items_append a (items_append b c)
items_append-assoc no_items b c = refl
items_append-assoc (item d a) b c = ap (item d) (items_append-assoc a b c)

-- items with none appended are the same
pub items_append-none : (a : Items) → items_append a no_items ≡ a
items_append-none no_items = refl
items_append-none (item d a) = ap (item d) (items_append-none a)

joined-front : (d : Data) (rest : Items) → items_append (joined d no_items) rest ≡ joined d rest
joined-front null rest = refl
joined-front (boolean b) rest = refl
joined-front (number n) rest = refl
joined-front (string s) rest = refl
joined-front (array ds) rest = ap (λ (es : Items). items_append es rest) (items_append-none ds)
joined-front (object ms) rest = refl

-- one more joined at the end is one more before the rest
pub join-more : (found : Items) (d : Data) (rest : Items) → items_append (items_append found (joined d no_items)) rest ≡ items_append found (joined d rest)
join-more found d rest = items_append-assoc found (joined d no_items) rest ∙ ap (items_append found) (joined-front d rest)

-- the items of two lists of values in turn are those of the one, and then those of the other
pub items_view-append : (a b : List Value) → items_view (a ++ b) ≡ items_append (items_view a) (items_view b)
items_view-append [] b = refl
items_view-append (v ∷ a) b = ap (item (view v)) (items_view-append a b)

-- what `append` of two lists gives
pub appended : {E : Type 0} (r : Result (Unit {0}) E) (a b new : List Value) → new ≡ (if is_ok r then a ++ b else a)
    → OnOk r (items_view new ≡ items_append (items_view a) (items_view b))
appended (Err e) a b new is = tt
appended (Ok done) a b new is = ap items_view is ∙ items_view-append a b

-- an array is joined as its items
pub joined-array : (d : Data) (es rest : Items) → as_array d ≡ Some es → joined d rest ≡ items_append es rest
joined-array null es rest is = cc
joined-array (boolean b) es rest is = cc
joined-array (number n) es rest is = cc
joined-array (string s) es rest is = cc
joined-array (array ds) es rest is = let same : ds ≡ es = cc in ap (λ (fs : Items). items_append fs rest) same
joined-array (object ms) es rest is = cc

-- a value that is no array is joined as one item
pub joined-one : (d : Data) (rest : Items) → as_array d ≡ None → joined d rest ≡ item d rest
joined-one null rest is = refl
joined-one (boolean b) rest is = refl
joined-one (number n) rest is = refl
joined-one (string s) rest is = refl
joined-one (array ds) rest is = cc
joined-one (object ms) rest is = refl

-- whether a value is joined to the items that follow or to those found before, the whole is the same
pub step-more : (found : Items) (d : Data) (more : Option Items)
    → option_map (items_append found) (option_map (joined d) more) ≡ option_map (items_append (items_append found (joined d no_items))) more
step-more found d None = refl
step-more found d (Some rest) = ap Some (sym (join-more found d rest))

-- the items from a place on are the one there and those after it
pub drop-item : (vs : List Value) (i : ℕ) (v : Value) → i < length vs → v ≡ get_or vs i v → items_view (drop i vs) ≡ item (view v) (items_view (drop (i + 1) vs))
drop-item vs i v less is = rw (add-one, drop-cons vs i v) (ap (λ (w : Value). item (view w) (items_view (drop (suc i) vs))) (sym is))

-- from the end on there are no values
pub none-left : (vs : List Value) (i : ℕ) → length vs ≤ i → drop i vs ≡ []
none-left [] zero less = refl
none-left [] (suc i) less = refl
none-left (v ∷ vs) zero less = absurd (omega arith)
none-left (v ∷ vs) (suc i) less = none-left vs i (omega arith)
