-- Where two maps differ at some ids alone, the touches between them are at these ids.
use Rattle.std.proofs.Common.{◌≡◌, ℕ, List, [], ◌∷◌, ◌++◌, Bool, true, false, not, ◌&&◌, ◌||◌, cond, nat_eq, map, filter, refl, sym, ap, ◌∙◌, arith, nat_cmp, is_eq, is_some}
use Rattle.std.proofs.Common.{Option, Some, None, if◌then◌else◌}
use Rattle.std.specs.declared.cmp.Ordering.{Ordering}
use Rattle.std.specs.declared.cmp.Ordering.TheVariants.{Less, Equal, Greater}
use Rattle.std.specs.Ordering.{ordering_reverse}
use Rattle.std.specs.BTreeMap.{is_at}
use Rattle.std.specs.BTreeSet.{BTreeSet, contains}
use Rattle.std.specs.List.{AllByRecursion, list_any}
use Rattle.std.specs.List.Sorted.{IsStrictlySortedBy}
use Rattle.std.specs.Map.{keys_of}
use Rattle.std.specs.Option.{option_or}
use Rattle.std.proofs.lemmas.Cmp.{nat_cmp_total}
use Rattle.std.proofs.lemmas.Grind.{common_steps}
use Rattle.std.proofs.lemmas.List.Kept.{IsStrictlySortedBy-filter}
use Rattle.std.proofs.lemmas.Map.Keys.{sorted_head, sorted_tail}
use Rattle.change_list.specs.Advance.{Tests, row_at, counts_if, differs, is_gone, is_changed, advance_entries}
use Rattle.change_list.specs.declared.entries.Entry.{Entry}
use Rattle.change_list.specs.declared.entries.Kind.TheVariants.{Changed}
use Rattle.served_maps.specs.Among.{then_at}
use Rattle.served_maps.specs.reading.AmongSteps.{goes, tested, is_other, change_at, removal_at, addition_at, value_put}

-- ---- numbers in order

-- numbers that compare equal are one
pub equal_is : (a b : ℕ) → nat_cmp a b ≡ Equal → a ≡ b
equal_is a b e = grind arith

-- a number is at its equal alone
pub found_is : (q k : ℕ) → is_at (nat_cmp q) k ≡ true → q ≡ k
found_is q k e = grind (arith, common_steps)

-- a number is at itself
pub is_here : (k : ℕ) → is_at (nat_cmp k) k ≡ true
is_here k = grind (arith, common_steps)

-- an entry stands at a number where it has that number
pub key_test : (q k : ℕ) → is_at (nat_cmp q) k ≡ nat_eq k q
key_test q k = grind (arith, common_steps)

-- numbers compared the other way round
pub turned : (a b : ℕ) (o : Ordering) → nat_cmp a b ≡ o → nat_cmp b a ≡ ordering_reverse o
turned a b o e = nat_cmp_total.antisymm b a ∙ ap ordering_reverse e

-- whether the number is among these
abbrev has : List ℕ → ℕ → Bool
has ks q = list_any (is_at (nat_cmp q)) ks

none_above : (k : ℕ) (ks : List ℕ) → AllByRecursion (λ y. nat_cmp k y ≡ Less) ks → has ks k ≡ false
none_above k [] all = refl
none_above k (y ∷ ks) all = ap (λ (o : Ordering). is_eq o || has ks k) all.0 ∙ none_above k ks all.1

all_above : (k x : ℕ) (ys : List ℕ) → nat_cmp k x ≡ Less → AllByRecursion (λ y. nat_cmp x y ≡ Less) ys → AllByRecursion (λ y. nat_cmp k y ≡ Less) ys
all_above k x [] less all = tt
all_above k x (y ∷ ys) less all = (nat_cmp_total.trans k x y less all.0, all_above k x ys less all.1)

none_below : (k x : ℕ) (xs : List ℕ) → nat_cmp k x ≡ Less → IsStrictlySortedBy nat_cmp (x ∷ xs) → has (x ∷ xs) k ≡ false
none_below k x xs less s = none_above k (x ∷ xs) (less, all_above k x xs less (sorted_head nat_cmp x xs s))

first_in : (x : ℕ) (xs : List ℕ) → has (x ∷ xs) x ≡ true
first_in x xs = ap (λ (b : Bool). b || has xs x) (is_here x)

never : (b : Bool) → b ≡ false → b ≡ true → ⊥
never b f t = let g : false ≡ true = sym f ∙ t in cc

-- numbers in order are determined by which they are
same_numbers : (a b : List ℕ) → IsStrictlySortedBy nat_cmp a → IsStrictlySortedBy nat_cmp b → ((q : ℕ) → has a q ≡ has b q) → a ≡ b
same_numbers [] [] s t same = refl
same_numbers [] (y ∷ ys) s t same = absurd (never (has (y ∷ ys) y) (sym (same y)) (first_in y ys))
same_numbers (x ∷ xs) [] s t same = absurd (never (has (x ∷ xs) x) (same x) (first_in x xs))
same_numbers (x ∷ xs) (y ∷ ys) s t same = by (nat_cmp x y) refl (same_numbers xs ys (sorted_tail nat_cmp x xs s) (sorted_tail nat_cmp y ys t))
  where
    later : x ≡ y → (q : ℕ) → has xs q ≡ has ys q
    later e q =
        elim (is_at (nat_cmp q) x) as (λ (b : Bool). is_at (nat_cmp q) x ≡ b → has xs q ≡ has ys q) [
          | true ↦ λ here.
              let k : q ≡ x = found_is q x here in
              ap (has xs) k ∙ none_above x xs (sorted_head nat_cmp x xs s) ∙ sym (ap (has ys) (k ∙ e) ∙ none_above y ys (sorted_head nat_cmp y ys t))
          | false ↦ λ other.
              sym (ap (λ (b : Bool). b || has xs q) other) ∙ same q ∙ ap (λ (b : Bool). b || has ys q) (ap (is_at (nat_cmp q)) (sym e) ∙ other)
        ] refl

    by : (o : Ordering) → nat_cmp x y ≡ o → (((q : ℕ) → has xs q ≡ has ys q) → xs ≡ ys) → x ∷ xs ≡ y ∷ ys
    by Less e rest = absurd (never (has (x ∷ xs) x) (same x ∙ none_below x y ys e t) (first_in x xs))
    by Greater e rest = absurd (never (has (y ∷ ys) y) (sym (same y) ∙ none_below y x xs (turned x y Greater e) s) (first_in y ys))
    by Equal e rest =
        let k : x ≡ y = equal_is x y e in
        ap (λ (n : ℕ). n ∷ xs) k ∙ ap (λ (ns : List ℕ). y ∷ ns) (rest (later k))

and_false : (b : Bool) → (b && false) ≡ false
and_false true = refl
and_false false = refl

-- which of these pass a test
filter_has : (p : ℕ → Bool) (ks : List ℕ) (q : ℕ) → has (filter p ks) q ≡ (has ks q && p q)
filter_has p [] q = refl
filter_has p (k ∷ ks) q = by (is_at (nat_cmp q) k) (p k) refl refl (filter_has p ks q)
  where
    by : (a b : Bool) → is_at (nat_cmp q) k ≡ a → p k ≡ b → has (filter p ks) q ≡ (has ks q && p q) → has (cond b (k ∷ filter p ks) (filter p ks)) q ≡ ((a || has ks q) && p q)
    by true true here passes rest = ap (λ (c : Bool). c || has (filter p ks) q) here ∙ sym (ap p (found_is q k here) ∙ passes)
    by true false here fails rest =
        let none : p q ≡ false = ap p (found_is q k here) ∙ fails in
        rest ∙ ap (λ (c : Bool). has ks q && c) none ∙ and_false (has ks q) ∙ sym none
    by false true other passes rest = ap (λ (c : Bool). c || has (filter p ks) q) other ∙ rest
    by false false other fails rest = rest

-- ---- rows in order

below_is_not : (a b : ℕ) → nat_cmp a b ≡ Less → is_at (nat_cmp b) a ≡ false
below_is_not a b e = ap is_eq (turned a b Less e)

module _ {R : Type 0} where
  -- no row is found below the first
  pub no_row : (k : ℕ) (es : List (ℕ × R)) → AllByRecursion (λ y. nat_cmp k y ≡ Less) (keys_of es) → row_at es k ≡ None
  no_row k [] all = refl
  no_row k (e ∷ es) all = ap (λ (o : Ordering). cond (is_eq o) (Some e.1) (row_at es k)) all.0 ∙ no_row k es all.1

  -- each of these rows is found by its number
  abbrev pub AllIn : List (ℕ × R) → List (ℕ × R) → Type 0
  AllIn rows [] = Unit {0}
  AllIn rows (e ∷ es) = (row_at rows e.0 ≡ Some e.1) × AllIn rows es

  found_later : (e : ℕ × R) (es xs : List (ℕ × R)) → AllByRecursion (λ y. nat_cmp e.0 y ≡ Less) (keys_of xs) → AllIn es xs → AllIn (e ∷ es) xs
  found_later e es [] h a = tt
  found_later e es (x ∷ xs) h a = (ap (λ (b : Bool). cond b (Some e.1) (row_at es x.0)) (below_is_not e.0 x.0 h.0) ∙ a.0, found_later e es xs h.1 a.1)

  -- each row of rows in order is found by its number
  pub all_in : (es : List (ℕ × R)) → IsStrictlySortedBy nat_cmp (keys_of es) → AllIn es es
  all_in [] h = tt
  all_in (e ∷ es) h = (
    ap (λ (b : Bool). cond b (Some e.1) (row_at es e.0)) (is_here e.0),
    found_later e es es (sorted_head nat_cmp e.0 (keys_of es) h) (all_in es (sorted_tail nat_cmp e.0 (keys_of es) h)),
  )

  -- whether what a number has passes a test
  abbrev passes : (ℕ × R → Bool) → ℕ → Option R → Bool
  passes P q None = false
  passes P q (Some v) = P (q, v)

  -- which numbers the rows have that pass it
  kept_has : (P : ℕ × R → Bool) (es : List (ℕ × R)) → IsStrictlySortedBy nat_cmp (keys_of es) → (q : ℕ) → has (keys_of (filter P es)) q ≡ passes P q (row_at es q)
  kept_has P [] s q = refl
  kept_has P (e ∷ es) s q = by (is_at (nat_cmp q) e.0) (P e) refl refl (kept_has P es (sorted_tail nat_cmp e.0 (keys_of es) s) q)
    where
      by : (a b : Bool) → is_at (nat_cmp q) e.0 ≡ a → P e ≡ b → has (keys_of (filter P es)) q ≡ passes P q (row_at es q)
          → has (keys_of (cond b (e ∷ filter P es) (filter P es))) q ≡ passes P q (cond a (Some e.1) (row_at es q))
      by true true here kept rest =
          ap (λ (c : Bool). c || has (keys_of (filter P es)) q) here ∙ sym (ap (λ (n : ℕ). P (n, e.1)) (found_is q e.0 here) ∙ kept)
      by true false here dropped rest =
          rest ∙ ap (passes P q) (ap (row_at es) (found_is q e.0 here) ∙ no_row e.0 es (sorted_head nat_cmp e.0 (keys_of es) s))
          ∙ sym (ap (λ (n : ℕ). P (n, e.1)) (found_is q e.0 here) ∙ dropped)
      by false true other kept rest = ap (λ (c : Bool). c || has (keys_of (filter P es)) q) other ∙ rest
      by false false other dropped rest = rest

  all_kept : (Q : ℕ → Type 0) (P : ℕ × R → Bool) (es : List (ℕ × R)) → AllByRecursion Q (keys_of es) → AllByRecursion Q (keys_of (filter P es))
  all_kept Q P [] all = tt
  all_kept Q P (e ∷ es) all =
      elim (P e) as (λ (b : Bool). AllByRecursion Q (keys_of (cond b (e ∷ filter P es) (filter P es)))) [ true ↦ (all.0, all_kept Q P es all.1) | false ↦ all_kept Q P es all.1 ]

  -- rows that are kept stay in order
  kept_sorted : (P : ℕ × R → Bool) (es : List (ℕ × R)) → IsStrictlySortedBy nat_cmp (keys_of es) → IsStrictlySortedBy nat_cmp (keys_of (filter P es))
  unfolding IsStrictlySortedBy
  kept_sorted P [] s = tt
  kept_sorted P (e ∷ es) s =
      elim (P e) as (λ (b : Bool). IsStrictlySortedBy nat_cmp (keys_of (cond b (e ∷ filter P es) (filter P es)))) [
        | true ↦ (all_kept (λ y. nat_cmp e.0 y ≡ Less) P es s.0, kept_sorted P es s.1)
        | false ↦ kept_sorted P es s.1
      ]

  -- entries by numbers alone
  by_number : (f : ℕ → Entry) (es : List (ℕ × R)) → map (λ (e : ℕ × R). f e.0) es ≡ map f (keys_of es)
  by_number f [] = refl
  by_number f (e ∷ es) = ap (λ (r : List Entry). f e.0 ∷ r) (by_number f es)

-- ---- parts of a list

joined : (a a' b b' d d' : List Entry) → a ≡ a' → b ≡ b' → d ≡ d' → a ++ (b ++ d) ≡ a' ++ (b' ++ d')
joined a a' b b' d d' p q r = ap (λ (xs : List Entry). xs ++ (b ++ d)) p ∙ ap (λ (xs : List Entry). a' ++ (xs ++ d)) q ∙ ap (λ (xs : List Entry). a' ++ (b' ++ xs)) r

-- what is made of parts is made of what they are
pub made_of : (made a a' b b' d d' : List Entry) → made ≡ a ++ (b ++ d) → a ≡ a' → b ≡ b' → d ≡ d' → made ≡ a' ++ (b' ++ d')
made_of made a a' b b' d d' e p q r = e ∙ joined a a' b b' d d' p q r

-- ---- the touches

module _ {R : Type 0} (tests : Tests R) (same : (v : R) → tests.same v v ≡ true) (ids : BTreeSet ℕ) (old fresh new : List (ℕ × R))
    (looked : (q : ℕ) → row_at new q ≡ then_at ids old fresh q) where
  -- what one of the ids has, and what another number has
  at_id : (q : ℕ) → contains nat_cmp ids q ≡ true → row_at new q ≡ row_at fresh q
  at_id q is = looked q ∙ ap (λ (b : Bool). cond b (row_at fresh q) (row_at old q)) is

  at_other : (q : ℕ) → contains nat_cmp ids q ≡ false → row_at new q ≡ row_at old q
  at_other q is = looked q ∙ ap (λ (b : Bool). cond b (row_at fresh q) (row_at old q)) is

  removed_at : (q : ℕ) (b : Bool) → contains nat_cmp ids q ≡ b → (o : Option R) → row_at old q ≡ o → (b && (is_some o && not (is_some (row_at fresh q)))) ≡ passes (is_gone new) q o
  removed_at q b is None e = and_false b
  removed_at q true is (Some v) e = sym (ap (λ (w : Option R). not (is_some w)) (at_id q is))
  removed_at q false is (Some v) e = sym (ap (λ (w : Option R). not (is_some w)) (at_other q is ∙ e))

  added_by : (q : ℕ) (f : Option R) → (is_some f && not (is_some (row_at old q))) ≡ passes (is_gone old) q f
  added_by q None = refl
  added_by q (Some v) = refl

  none_added : (q : ℕ) (o : Option R) → row_at old q ≡ o → false ≡ passes (is_gone old) q o
  none_added q None e = refl
  none_added q (Some v) e = sym (ap (λ (w : Option R). not (is_some w)) e)

  added_at : (q : ℕ) (b : Bool) → contains nat_cmp ids q ≡ b → (b && goes fresh old q) ≡ passes (is_gone old) q (row_at new q)
  added_at q true is = ap (λ (w : Option R). is_some w && not (is_some (row_at old q))) (sym (at_id q is)) ∙ added_by q (row_at new q)
  added_at q false is = none_added q (row_at old q) refl ∙ ap (passes (is_gone old) q) (sym (at_other q is))

  changed_by : (q : ℕ) (f : Option R) → tested (differs tests.same) (row_at old q) f ≡ passes (is_changed tests.same old) q f
  changed_by q None = refl
  changed_by q (Some v) = refl

  none_changed : (q : ℕ) (o : Option R) → row_at old q ≡ o → false ≡ passes (is_changed tests.same old) q o
  none_changed q None e = refl
  none_changed q (Some v) e = sym (ap (λ (w : Option R). differs tests.same w v) e ∙ ap not (same v))

  changed_at : (q : ℕ) (b : Bool) → contains nat_cmp ids q ≡ b → (b && is_other tests.same old fresh q) ≡ passes (is_changed tests.same old) q (row_at new q)
  changed_at q true is = ap (tested (differs tests.same) (row_at old q)) (sym (at_id q is)) ∙ changed_by q (row_at new q)
  changed_at q false is = none_changed q (row_at old q) refl ∙ ap (passes (is_changed tests.same old) q) (sym (at_other q is))

  -- a row that is changed is fresh
  is_fresh : (e : ℕ × R) → is_changed tests.same old e ≡ true → row_at new e.0 ≡ Some e.1 → row_at fresh e.0 ≡ Some e.1
  is_fresh e is found = by (contains nat_cmp ids e.0) refl
    where
      by : (b : Bool) → contains nat_cmp ids e.0 ≡ b → row_at fresh e.0 ≡ Some e.1
      by true there = sym (at_id e.0 there) ∙ found
      by false elsewhere =
          absurd (never (is_changed tests.same old e) (ap (λ (w : Option R). differs tests.same w e.1) (sym (at_other e.0 elsewhere) ∙ found) ∙ ap not (same e.1)) is)

  abbrev change_of : ℕ × R → Entry
  change_of e = record { id = e.0; kind = Changed; counts_only = counts_if tests.counts (row_at old e.0) e.1 }

  abbrev change_to : ℕ → Option R → Entry
  change_to q w = record { id = q; kind = Changed; counts_only = tested (counts_if tests.counts) (row_at old q) w }

  changes_by : (es : List (ℕ × R)) → AllIn new es → map change_of (filter (is_changed tests.same old) es) ≡ map (change_at tests.counts old fresh)
      (keys_of (filter (is_changed tests.same old) es))
  changes_by [] found = refl
  changes_by (e ∷ es) found = by (is_changed tests.same old e) refl (changes_by es found.1)
    where
      rest : List (ℕ × R)
      rest = filter (is_changed tests.same old) es

      by : (b : Bool) → is_changed tests.same old e ≡ b → map change_of rest ≡ map (change_at tests.counts old fresh) (keys_of rest)
          → map change_of (cond b (e ∷ rest) rest) ≡ map (change_at tests.counts old fresh) (keys_of (cond b (e ∷ rest) rest))
      by true is later =
          ap (λ (w : Option R). change_to e.0 w ∷ map change_of rest) (sym (is_fresh e is found.0))
          ∙ ap (λ (r : List Entry). change_at tests.counts old fresh e.0 ∷ r) later
      by false is later = later

  -- the touches at the ids are those from the one map to the other
  pub steps_are : IsStrictlySortedBy nat_cmp ids.keys → IsStrictlySortedBy nat_cmp (keys_of old) → IsStrictlySortedBy nat_cmp (keys_of new)
      → map removal_at (filter (goes old fresh) ids.keys) ++ (map (change_at tests.counts old fresh) (filter (is_other tests.same old fresh) ids.keys)
      ++ map addition_at (filter (goes fresh old) ids.keys)) ≡ advance_entries tests old new
  steps_are sorted old_sorted new_sorted =
      let removals : filter (goes old fresh) ids.keys ≡ keys_of (filter (is_gone new) old) =
      same_numbers (filter (goes old fresh) ids.keys) (keys_of (filter (is_gone new) old)) (IsStrictlySortedBy-filter nat_cmp (goes old fresh) ids.keys sorted)
      (kept_sorted (is_gone new) old old_sorted)
      (λ q. filter_has (goes old fresh) ids.keys q ∙ removed_at q (contains nat_cmp ids q) refl (row_at old q) refl ∙ sym (kept_has (is_gone new) old old_sorted q)) in
      let changes : filter (is_other tests.same old fresh) ids.keys ≡ keys_of (filter (is_changed tests.same old) new) =
      same_numbers (filter (is_other tests.same old fresh) ids.keys) (keys_of (filter (is_changed tests.same old) new))
      (IsStrictlySortedBy-filter nat_cmp (is_other tests.same old fresh) ids.keys sorted) (kept_sorted (is_changed tests.same old) new new_sorted)
      (λ q. filter_has (is_other tests.same old fresh) ids.keys q ∙ changed_at q (contains nat_cmp ids q) refl ∙ sym (kept_has (is_changed tests.same old) new new_sorted q)) in
      let additions : filter (goes fresh old) ids.keys ≡ keys_of (filter (is_gone old) new) =
      same_numbers (filter (goes fresh old) ids.keys) (keys_of (filter (is_gone old) new)) (IsStrictlySortedBy-filter nat_cmp (goes fresh old) ids.keys sorted)
      (kept_sorted (is_gone old) new new_sorted)
      (λ q. filter_has (goes fresh old) ids.keys q ∙ added_at q (contains nat_cmp ids q) refl ∙ sym (kept_has (is_gone old) new new_sorted q)) in
      joined _ _ _ _ _ _
      (ap (map removal_at) removals ∙ sym (by_number removal_at (filter (is_gone new) old)))
      (ap (map (change_at tests.counts old fresh)) changes ∙ sym (changes_by new (all_in new new_sorted)))
      (ap (map addition_at) additions ∙ sym (by_number addition_at (filter (is_gone old) new)))

-- ---- the next map

mark_test : (a b : ℕ) → is_at (nat_cmp a) b ≡ nat_eq a b
mark_test a b = grind (arith, common_steps)

module _ {R : Type 0} where
  or_none : (o : Option R) → option_or o None ≡ o
  or_none None = refl
  or_none (Some v) = refl

  -- of rows in order that are put in, what an id has is its row
  put_is : (es : List (ℕ × R)) → IsStrictlySortedBy nat_cmp (keys_of es) → (was : Option R) (q : ℕ) → value_put was es q ≡ option_or (row_at es q) was
  put_is [] s was q = refl
  put_is (e ∷ es) s was q =
      put_is es (sorted_tail nat_cmp e.0 (keys_of es) s) (if nat_eq e.0 q then Some e.1 else was) q
      ∙ by (is_at (nat_cmp q) e.0) refl
    where
      by : (b : Bool) → is_at (nat_cmp q) e.0 ≡ b → option_or (row_at es q) (if nat_eq e.0 q then Some e.1 else was) ≡ option_or
          (cond (is_at (nat_cmp q) e.0) (Some e.1) (row_at es q)) was
      by true here =
          ap (λ (o : Option R). option_or o (if nat_eq e.0 q then Some e.1 else was))
          (ap (row_at es) (found_is q e.0 here) ∙ no_row e.0 es (sorted_head nat_cmp e.0 (keys_of es) s))
          ∙ ap (λ (t : Bool). if t then Some e.1 else was) (sym (key_test q e.0) ∙ here)
          ∙ sym (ap (λ (t : Bool). option_or (cond t (Some e.1) (row_at es q)) was) here)
      by false other =
          ap (λ (t : Bool). option_or (row_at es q) (if t then Some e.1 else was)) (sym (key_test q e.0) ∙ other)
          ∙ sym (ap (λ (t : Bool). option_or (cond t (Some e.1) (row_at es q)) was) other)

  -- the rows with what is fresh at the ids are those that are looked for
  pub updated_at : (ids : BTreeSet ℕ) (old fresh : List (ℕ × R)) → IsStrictlySortedBy nat_cmp (keys_of fresh) → ((q : ℕ) → contains nat_cmp ids q ≡ false → row_at fresh q ≡ None)
      → (q : ℕ) (cleared now : Option R) → cleared ≡ cond (contains nat_cmp ids q) None (row_at old q) → now ≡ value_put cleared fresh q → now ≡ then_at ids old fresh q
  updated_at ids old fresh sorted within q cleared now cleared_is now_is = now_is ∙ ap (λ (o : Option R). value_put o fresh q) cleared_is ∙ put_is fresh sorted _ q ∙ by
      (contains nat_cmp ids q) refl
    where
      by : (b : Bool) → contains nat_cmp ids q ≡ b → option_or (row_at fresh q) (cond (contains nat_cmp ids q) None (row_at old q)) ≡ then_at ids old fresh q
      by true is =
          ap (λ (t : Bool). option_or (row_at fresh q) (cond t None (row_at old q))) is ∙ or_none (row_at fresh q) ∙ sym
          (ap (λ (t : Bool). cond t (row_at fresh q) (row_at old q)) is)
      by false is =
          ap (λ (o : Option R). option_or o (cond (contains nat_cmp ids q) None (row_at old q))) (within q is)
          ∙ ap (λ (t : Bool). cond t None (row_at old q)) is ∙ sym (ap (λ (t : Bool). cond t (row_at fresh q) (row_at old q)) is)

  -- ---- loops

  -- one id more is taken out
  pub cleared_more : (q id : ℕ) (left rest : List ℕ) (old new all : Option R) → left ≡ id ∷ rest → new ≡ cond (is_at (nat_cmp id) q) None old
      → cond (has left q) None old ≡ all → cond (has rest q) None new ≡ all
  cleared_more q id left rest old new all left_is made was =
      ap (λ (o : Option R). cond (has rest q) None o) (made ∙ ap (λ (b : Bool). cond b None old) (mark_test id q ∙ sym (key_test q id)))
      ∙ twice (is_at (nat_cmp q) id) (has rest q) old
      ∙ sym (ap (λ (ks : List ℕ). cond (has ks q) None old) left_is) ∙ was
    where
      twice : (a b : Bool) (o : Option R) → cond b None (cond a None o) ≡ cond (a || b) None o
      twice true true o = refl
      twice true false o = refl
      twice false b o = refl

  -- one row more is put in
  pub put_more : (q : ℕ) (e : ℕ × R) (left rest : List (ℕ × R)) (old new all : Option R) → left ≡ e ∷ rest → new ≡ cond (is_at (nat_cmp e.0) q) (Some e.1) old
      → value_put old left q ≡ all → value_put new rest q ≡ all
  put_more q e left rest old new all left_is made was =
      ap (λ (o : Option R). value_put o rest q) (made ∙ ap (λ (b : Bool). cond b (Some e.1) old) (mark_test e.0 q))
      ∙ sym (ap (λ (es : List (ℕ × R)). value_put old es q) left_is) ∙ was

  -- no row is left
  pub put_ended : (q : ℕ) (left : List (ℕ × R)) (now all : Option R) → left ≡ [] → value_put now left q ≡ all → now ≡ all
  put_ended q left now all left_is was = sym (ap (λ (es : List (ℕ × R)). value_put now es q) left_is) ∙ was
