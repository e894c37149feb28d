-- Rows in order: what is found in them, and rows that are added after them.
use Rattle.std.proofs.Common.{◌≡◌, ◌≢◌, ℕ, ◌+◌, ◌<◌, ◌≤◌, List, [], ◌∷◌, ◌++◌, Bool, true, false, cond, refl, sym, ap, ◌∙◌, arith, nat_cmp, Some, None}
use Rattle.std.specs.declared.cmp.Ordering.{Ordering}
use Rattle.std.specs.declared.cmp.Ordering.TheVariants.{Less, Greater}
use Rattle.std.specs.Ordering.{match_ordering}
use Rattle.std.specs.Option.{option_or}
use Rattle.std.specs.List.{AllByRecursion}
use Rattle.std.specs.List.Sorted.{IsStrictlySortedBy}
use Rattle.std.specs.Map.{keys_of}
use Rattle.std.specs.BTreeMap.{is_at, insert_entry}
use Rattle.std.proofs.lemmas.Map.Keys.{sorted_head, sorted_tail}
use Rattle.std.proofs.lemmas.Grind.{common_steps}
use Rattle.change_list.specs.Advance.{row_at, AreRows}
pub use Rattle.served_maps.proofs.AmongLemmas.{is_here, found_is, AllIn, all_in, no_row as none_above}

-- no number is at a higher one
pub above_is_not : (a b : ℕ) → a < b → is_at (nat_cmp a) b ≡ false
above_is_not a b h = grind (arith, common_steps)

-- no number is at a lower one
pub below_is_not : (a b : ℕ) → a < b → is_at (nat_cmp b) a ≡ false
below_is_not a b h = grind (arith, common_steps)

-- a number that compares less is below
pub less_is_below : (a b : ℕ) → nat_cmp a b ≡ Less → a < b
less_is_below a b e = grind arith

-- a number below compares less
pub below_is_less : (a b : ℕ) → a < b → nat_cmp a b ≡ Less
below_is_less a b e = grind (arith, common_steps)

-- a number above compares greater
pub is_greater : (a b : ℕ) → a < b → nat_cmp b a ≡ Greater
is_greater a b h = grind (arith, common_steps)

module _ {R : Type 0} where
  -- each number is below this one
  abbrev pub Under : ℕ → List (ℕ × R) → Type 0
  Under next [] = Unit {0}
  Under next (e ∷ es) = (e.0 < next) × Under next es

  -- each number is this one or above it
  abbrev pub From : ℕ → List (ℕ × R) → Type 0
  From first [] = Unit {0}
  From first (e ∷ es) = (first ≤ e.0) × From first es

  -- rows in order are one each number
  pub rows_sorted : (es : List (ℕ × R)) → IsStrictlySortedBy nat_cmp (keys_of es) → AreRows es
  rows_sorted [] h = tt
  rows_sorted (e ∷ es) h = (none_above e.0 es (sorted_head nat_cmp e.0 (keys_of es) h), rows_sorted es (sorted_tail nat_cmp e.0 (keys_of es) h))

  -- no row is found from the number on under which all are
  pub none_over : (next q : ℕ) (es : List (ℕ × R)) → Under next es → next ≤ q → row_at es q ≡ None
  none_over next q [] u h = refl
  none_over next q (e ∷ es) u h = ap (λ (b : Bool). cond b (Some e.1) (row_at es q)) (below_is_not e.0 q (omega (arith, u.0, h))) ∙ none_over next q es u.1 h

  -- no row is found before the first number
  pub none_before : (first q : ℕ) (es : List (ℕ × R)) → From first es → q < first → row_at es q ≡ None
  none_before first q [] f h = refl
  none_before first q (e ∷ es) f h = ap (λ (b : Bool). cond b (Some e.1) (row_at es q)) (above_is_not q e.0 (omega (arith, f.0, h))) ∙ none_before first q es f.1 h

  -- what is found in one list after another
  pub row_at-append : (xs ys : List (ℕ × R)) (q : ℕ) → row_at (xs ++ ys) q ≡ option_or (row_at xs q) (row_at ys q)
  row_at-append [] ys q = refl
  row_at-append (x ∷ xs) ys q =
      elim (is_at (nat_cmp q) x.0) as (λ (b : Bool). cond b (Some x.1) (row_at (xs ++ ys) q) ≡ option_or (cond b (Some x.1) (row_at xs q)) (row_at ys q)) [
        | true ↦ refl
        | false ↦ row_at-append xs ys q
      ]

  -- a row of a higher number goes to the end
  pub insert_last : (es : List (ℕ × R)) (k : ℕ) (v : R) → Under k es → insert_entry nat_cmp es k v ≡ es ++ (k, v) ∷ []
  insert_last [] k v u = refl
  insert_last (e ∷ es) k v u =
      ap (λ (o : Ordering). match_ordering o ((k, v) ∷ e ∷ es) ((e.0, v) ∷ es) (e ∷ insert_entry nat_cmp es k v)) (is_greater e.0 k u.0)
      ∙ ap (λ (r : List (ℕ × R)). e ∷ r) (insert_last es k v u.1)

  -- with the row after them, rows are under the next number
  pub under_more : (es : List (ℕ × R)) (k : ℕ) (v : R) → Under k es → Under (k + 1) (es ++ (k, v) ∷ [])
  under_more [] k v u = (omega arith, tt)
  under_more (e ∷ es) k v u = (omega (arith, u.0), under_more es k v u.1)

  -- rows from the next number on are above the number
  pub all_less : (k : ℕ) (es : List (ℕ × R)) → From (k + 1) es → AllByRecursion (λ y. nat_cmp k y ≡ Less) (keys_of es)
  all_less k [] f = tt
  all_less k (e ∷ es) f = (below_is_less k e.0 (omega (arith, f.0)), all_less k es f.1)

  less_last : (j k : ℕ) (v : R) (es : List (ℕ × R)) → j < k → AllByRecursion (λ y. nat_cmp j y ≡ Less) (keys_of es)
      → AllByRecursion (λ y. nat_cmp j y ≡ Less) (keys_of (es ++ (k, v) ∷ []))
  less_last j k v [] l h = (below_is_less j k l, tt)
  less_last j k v (e ∷ es) l h = (h.0, less_last j k v es l h.1)

  -- with a row of a higher number after them, rows are in order
  pub sorted_last : (es : List (ℕ × R)) (k : ℕ) (v : R) → IsStrictlySortedBy nat_cmp (keys_of es) → Under k es → IsStrictlySortedBy nat_cmp (keys_of (es ++ (k, v) ∷ []))
  unfolding IsStrictlySortedBy
  sorted_last [] k v h u = (tt, tt)
  sorted_last (e ∷ es) k v h u = (less_last e.0 k v es u.0 h.0, sorted_last es k v h.1 u.1)

  -- each row that is found is one of those below
  pub under_from : (next : ℕ) (rows es : List (ℕ × R)) → AllIn rows es → ((q : ℕ) → row_at rows q ≢ None → q < next) → Under next es
  under_from next rows [] a b = tt
  under_from next rows (e ∷ es) a b = (b e.0 (λ none. let f : Some e.1 ≡ None = sym a.0 ∙ none in cc), under_from next rows es a.1 b)

  -- no row is found beyond the next number
  pub found_under : (next : ℕ) (es : List (ℕ × R)) → Under next es → (q : ℕ) → row_at es q ≢ None → q < next
  found_under next [] u q some = absurd (some refl)
  found_under next (e ∷ es) u q some =
      elim (is_at (nat_cmp q) e.0) as (λ (b : Bool). is_at (nat_cmp q) e.0 ≡ b → cond b (Some e.1) (row_at es q) ≢ None → q < next) [
        | true ↦ λ here s. let k : q ≡ e.0 = found_is q e.0 here in let l = u.0 in omega (arith, k, l)
        | false ↦ λ other s. found_under next es u.1 q s
      ] refl some
