-- Threads by their numbers, in order.
use Rattle.std.proofs.Common.{◌≡◌, ℕ, ℤ, List, [], ◌∷◌, Bool, true, false, cond, nat_eq, map, filter, refl, sym, ap, ◌∙◌, subst, nat_cmp, Some, None}
use Rattle.std.proofs.lemmas.Cmp.{nat_cmp_total}
use Rattle.std.specs.declared.cmp.Ordering.{Ordering}
use Rattle.std.specs.declared.cmp.Ordering.TheVariants.{Less, Equal, Greater}
use Rattle.std.specs.Ordering.{match_ordering}
use Rattle.std.specs.List.Sorted.{IsStrictlySortedBy}
use Rattle.std.specs.Map.{keys_of}
use Rattle.std.specs.BTreeMap.{is_at}
use Rattle.std.specs.BTreeSet.{insert_key}
use Rattle.std.proofs.lemmas.Map.Keys.{sorted_head, sorted_tail}
use Rattle.change_list.specs.Advance.{row_at}
use Rattle.served_maps.proofs.AmongLemmas.{equal_is, found_is, is_here, no_row, turned}
pub use Rattle.served_maps.proofs.AmongLemmas.{key_test}
use Rattle.mail_maps.specs.declared.row.EmailRow.{EmailRow}
use Rattle.mail_maps.specs.Keywords.{sorted_into}
use Rattle.mail_maps.specs.Rows.{Rows, in_thread}
use Rattle.mail_maps.specs.Threads.{pairs_in, emails_in, thread_numbers, threads_of, where_any, thread_at}
use Rattle.mail_maps.proofs.InOrder.{keys_of-keyed}
use Rattle.mail_maps.proofs.MemberLemmas.{all_above, into_sorted}

-- ---- which numbers have a Thread

-- whether the number is in the list
abbrev pub has : List ℕ → ℕ → Bool
has [] q = false
has (x ∷ xs) q = cond (nat_eq x q) true (has xs q)

true_twice : (a b : Bool) → cond a true b ≡ cond a true (cond a true b)
true_twice true b = refl
true_twice false b = refl

swap : (a b c : Bool) → cond a true (cond b true c) ≡ cond b true (cond a true c)
swap true true c = refl
swap true false c = refl
swap false true c = refl
swap false false c = refl

either_way : (a b c : Bool) → cond (cond a true b) true c ≡ cond b true (cond a true c)
either_way true true c = refl
either_way true false c = refl
either_way false true c = refl
either_way false false c = refl

inserted : (xs : List ℕ) (k q : ℕ) → has (insert_key nat_cmp xs k) q ≡ cond (nat_eq k q) true (has xs q)
inserted [] k q = refl
inserted (x ∷ xs) k q = by (nat_cmp k x) refl (inserted xs k q)
  where
    by : (o : Ordering) → nat_cmp k x ≡ o → has (insert_key nat_cmp xs k) q ≡ cond (nat_eq k q) true (has xs q)
        → has (match_ordering o (k ∷ x ∷ xs) (x ∷ xs) (x ∷ insert_key nat_cmp xs k)) q ≡ cond (nat_eq k q) true (cond (nat_eq x q) true (has xs q))
    by Less e rest = refl
    by Equal e rest = true_twice (nat_eq x q) (has xs q) ∙ ap (λ (y : ℕ). cond (nat_eq y q) true (cond (nat_eq x q) true (has xs q))) (sym (equal_is k x e))
    by Greater e rest = ap (λ (b : Bool). cond (nat_eq x q) true b) rest ∙ swap (nat_eq x q) (nat_eq k q) (has xs q)

-- numbers put into a sorted list are there beside those that were
pub sorted_has : (before xs : List ℕ) (q : ℕ) → has (sorted_into nat_cmp before xs) q ≡ cond (has before q) true (has xs q)
sorted_has before [] q = elim (has before q) as (λ (b : Bool). b ≡ cond b true false) [ true ↦ refl | false ↦ refl ]
sorted_has before (x ∷ xs) q =
    sorted_has (insert_key nat_cmp before x) xs q ∙ ap (λ (b : Bool). cond b true (has xs q)) (inserted before x q) ∙ either_way (nat_eq x q) (has before q) (has xs q)

keyed_at : (F : ℕ → List ℕ) (ks : List ℕ) (q : ℕ) → row_at (map {B = ℕ × List ℕ} (λ t. (t, F t)) ks) q ≡ cond (has ks q) (Some (F q)) None
keyed_at F [] q = refl
keyed_at F (k ∷ ks) q = by (is_at (nat_cmp q) k) refl (keyed_at F ks q)
  where
    by : (b : Bool) → is_at (nat_cmp q) k ≡ b → row_at (map {B = ℕ × List ℕ} (λ t. (t, F t)) ks) q ≡ cond (has ks q) (Some (F q)) None
        → cond b (Some (F k)) (row_at (map {B = ℕ × List ℕ} (λ t. (t, F t)) ks) q) ≡ cond (cond (nat_eq k q) true (has ks q)) (Some (F q)) None
    by true here rest =
        ap (λ (n : ℕ). Some (F n)) (sym (found_is q k here))
        ∙ ap (λ (b : Bool). cond (cond b true (has ks q)) (Some (F q)) None) (sym here ∙ key_test q k)
    by false other rest = rest ∙ ap (λ (b : Bool). cond (cond b true (has ks q)) (Some (F q)) None) (sym other ∙ key_test q k)

any_pair : (rows : Rows) (q : ℕ) (v : List ℕ) → cond (has (map (λ (e : ℕ × EmailRow). e.1.thread) rows) q) (Some v) None ≡ where_any (pairs_in rows q) v
any_pair [] q v = refl
any_pair (e ∷ es) q v =
    elim (nat_eq e.1.thread q) as (λ (b : Bool). cond (cond b true (has (map (λ (d : ℕ × EmailRow). d.1.thread) es) q)) (Some v) None
    ≡ where_any (map {B = ℤ × ℕ} (λ (d : ℕ × EmailRow). (d.1.received, d.0)) (cond b (e ∷ filter (in_thread q) es) (filter (in_thread q) es))) v) [
      | true ↦ refl
      | false ↦ any_pair es q v
    ]

-- the Thread of a number is found where an Email is in it
pub threads_at : (rows : Rows) (t : ℕ) → row_at (threads_of rows) t ≡ thread_at rows t
threads_at rows t =
    keyed_at (emails_in rows) (thread_numbers rows) t
    ∙ ap (λ (b : Bool). cond b (Some (emails_in rows t)) None) (sorted_has [] (map (λ (e : ℕ × EmailRow). e.1.thread) rows) t)
    ∙ any_pair rows t (emails_in rows t)

-- ---- their order

-- Threads are in the order of their numbers
pub threads_sorted : (rows : Rows) → IsStrictlySortedBy nat_cmp (keys_of (threads_of rows))
threads_sorted rows =
    let S : List ℕ → Type 0 = λ ks. IsStrictlySortedBy nat_cmp ks in
    subst S (sym (keys_of-keyed (emails_in rows) (thread_numbers rows))) (into_sorted nat_cmp nat_cmp_total (map (λ (e : ℕ × EmailRow). e.1.thread) rows))

-- ---- rows in order, by what is found in them

module _ {V : Type 0} where
  first_at : (e : ℕ × V) (es : List (ℕ × V)) → row_at (e ∷ es) e.0 ≡ Some e.1
  first_at e es = ap (λ (b : Bool). cond b (Some e.1) (row_at es e.0)) (is_here e.0)

  -- below the first one none is found
  none_below : (k : ℕ) (e : ℕ × V) (es : List (ℕ × V)) → nat_cmp k e.0 ≡ Less → IsStrictlySortedBy nat_cmp (keys_of (e ∷ es)) → row_at (e ∷ es) k ≡ None
  none_below k e es less s = no_row k (e ∷ es) (less, all_above nat_cmp nat_cmp_total k e.0 (keys_of es) less (sorted_head nat_cmp e.0 (keys_of es) s))

  row_same : (j k : ℕ) (v w : V) → j ≡ k → Some v ≡ Some w → ◌≡◌ {A = ℕ × V} (j, v) (k, w)
  row_same j k v w e f = cc

  -- rows in order are those that are found in them
  pub sorted_same : (a b : List (ℕ × V)) → IsStrictlySortedBy nat_cmp (keys_of a) → IsStrictlySortedBy nat_cmp (keys_of b) → ((q : ℕ) → row_at a q ≡ row_at b q) → a ≡ b
  sorted_same [] [] s t same = refl
  sorted_same [] (y ∷ ys) s t same = absurd (let f : None ≡ Some y.1 = same y.0 ∙ first_at y ys in cc)
  sorted_same (x ∷ xs) [] s t same = absurd (let f : None ≡ Some x.1 = sym (same x.0) ∙ first_at x xs in cc)
  sorted_same (x ∷ xs) (y ∷ ys) s t same = by (nat_cmp x.0 y.0) refl (sorted_same xs ys (sorted_tail nat_cmp x.0 (keys_of xs) s) (sorted_tail nat_cmp y.0 (keys_of ys) t))
    where
      later : x.0 ≡ y.0 → (q : ℕ) → row_at xs q ≡ row_at ys q
      later e q =
          elim (is_at (nat_cmp q) x.0) as (λ (b : Bool). is_at (nat_cmp q) x.0 ≡ b → row_at xs q ≡ row_at ys q) [
            | true ↦ λ here.
                let k : q ≡ x.0 = found_is q x.0 here in
                ap (row_at xs) k ∙ no_row x.0 xs (sorted_head nat_cmp x.0 (keys_of xs) s)
                ∙ sym (ap (row_at ys) (k ∙ e) ∙ no_row y.0 ys (sorted_head nat_cmp y.0 (keys_of ys) t))
            | false ↦ λ other.
                sym (ap (λ (b : Bool). cond b (Some x.1) (row_at xs q)) other) ∙ same q
                ∙ ap (λ (b : Bool). cond b (Some y.1) (row_at ys q)) (ap (is_at (nat_cmp q)) (sym e) ∙ other)
          ] refl

      by : (o : Ordering) → nat_cmp x.0 y.0 ≡ o → (((q : ℕ) → row_at xs q ≡ row_at ys q) → xs ≡ ys) → x ∷ xs ≡ y ∷ ys
      by Less e rest = absurd (let f : None ≡ Some x.1 = sym (same x.0 ∙ none_below x.0 y ys e t) ∙ first_at x xs in cc)
      by Greater e rest = absurd (let f : None ≡ Some y.1 = sym (none_below y.0 x xs (turned x.0 y.0 Greater e) s) ∙ same y.0 ∙ first_at y ys in cc)
      by Equal e rest =
          let k : x.0 ≡ y.0 = equal_is x.0 y.0 e in
          let v : Some x.1 ≡ Some y.1 = sym (first_at x xs) ∙ same x.0 ∙ ap (row_at (y ∷ ys)) k ∙ first_at y ys in
          ap (λ (r : ℕ × V). r ∷ xs) (row_same x.0 y.0 x.1 y.1 k v) ∙ ap (λ (r : List (ℕ × V)). y ∷ r) (rest (later k))
