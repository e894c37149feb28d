-- A Thread in which no Email comes or goes stays as it is, so Threads that are touched alone are gathered anew.
use Rattle.std.proofs.Common.{◌≡◌, ℕ, ℤ, List, [], ◌∷◌, ◌++◌, Bool, true, false, not, ◌&&◌, ◌||◌, cond, nat_eq, map, filter, refl, sym, ap, ◌∙◌, subst, nat_cmp, Option, Some}
use Rattle.std.proofs.Common.{None, is_some, eq-eqb, arith, length, suc}
use Rattle.std.specs.BTreeMap.{is_at}
use Rattle.std.specs.BTreeSet.{BTreeSet, contains}
use Rattle.std.specs.List.{list_any}
use Rattle.std.specs.List.Sorted.{IsStrictlySortedBy}
use Rattle.std.specs.Map.{keys_of}
use Rattle.std.specs.Option.{option_map}
use Rattle.std.proofs.lemmas.List.{append-nil}
use Rattle.std.proofs.lemmas.List.Elements.{filter-append}
use Rattle.std.proofs.lemmas.List.Folds.{list_any-append}
use Rattle.change_list.specs.Advance.{row_at, advance_entries}
use Rattle.change_list.specs.declared.entries.Entry.{Entry}
use Rattle.served_maps.specs.Past.{tests_of}
use Rattle.told_folder.specs.declared.message.NumberedFolder.{NumberedFolder}
use Rattle.mail_maps.specs.declared.row.EmailRow.{EmailRow}
use Rattle.mail_maps.specs.Rows.{Rows, in_thread}
use Rattle.mail_maps.specs.Keywords.{sorted_into}
use Rattle.mail_maps.specs.Threads.{pair_cmp, pairs_in, emails_in, threads_of, where_any, thread_at}
use Rattle.mail_maps.specs.Serve.{thread_of, thread_tests, same_thread, never}
use Rattle.mail_maps.specs.Visible.{Placed, shown}
use Rattle.mail_maps.proofs.MemberLemmas.{any_email}
use Rattle.mail_maps.proofs.ThreadLemmas.{key_test, threads_at, threads_sorted, sorted_same}
use Rattle.mail_rows.specs.NumberedRows.{NumberedRows}
use Rattle.mail_rows.specs.Remaining.{updated, put_remaining, remaining}
use Rattle.mail_rows.specs.Taking.{TakesMail, left, arrivals}
use Rattle.mail_rows.specs.RowTouches.{email_touches}
use Rattle.mail_rows.specs.reading.RowPass.{gone_of, gone_in, is_hidden, changes_in, touch_of_addition, touch_of_removal}
use Rattle.mail_rows.specs.declared.remaining.RemovedEmail.{RemovedEmail}
use Rattle.mail_rows.proofs.Exact.{exact_thread}
use Rattle.mail_rows.proofs.RowLemmas.{AllIn, all_in}
use Rattle.mail_rows.proofs.TakingLemmas.{added, rows_added, from_added}
use Rattle.mail_rows.proofs.TouchLemmas.{touches_are}
use Rattle.mail_state.specs.reading.ThreadSteps.{removes, is_in_thread, adds_to, has_lost, loses, is_touched, OthersStay, StepsThreads}
use Rattle.mail_state.proofs.EmailLemmas.{InOrder, taken_in_order}
use Rattle.mail_state.proofs.NoTouches.{no_touches}

-- ---- truth values

neither : (a b : Bool) → (a || b) ≡ false → (a ≡ false) × (b ≡ false)
neither true b e = absurd (let f : true ≡ false = e in cc)
neither false b e = (refl, e)

none_of : {X : Type 0} (f : X → Bool) (xs ys : List X) → list_any f (xs ++ ys) ≡ false → (list_any f xs ≡ false) × (list_any f ys ≡ false)
none_of f xs ys e = neither (list_any f xs) (list_any f ys) (sym (list_any-append f xs ys) ∙ e)

any_same : {X : Type 0} (f g : X → Bool) → ((x : X) → f x ≡ g x) → (xs : List X) → list_any f xs ≡ list_any g xs
any_same f g same [] = refl
any_same f g same (x ∷ xs) = ap (λ (b : Bool). b || list_any f xs) (same x) ∙ ap (λ (b : Bool). g x || b) (any_same f g same xs)

or_with : (a b : Bool) → b ≡ true → (a || b) ≡ true
or_with true b e = refl
or_with false b e = e

or_none : (b : Bool) → b ≡ (b || false)
or_none true = refl
or_none false = refl

abbrev number_of : ℤ × ℕ → ℕ
number_of p = p.1

-- ---- what is said of all Threads is said of one

one_of : (f : List ℕ → Bool) (threads : List (ℕ × List ℕ)) (t : ℕ) (v : List ℕ) → list_any (λ (d : ℕ × List ℕ). nat_eq d.0 t && f d.1) threads ≡ false → row_at threads t ≡ Some v
    → f v ≡ false
one_of f [] t v none is = absurd (let g : None ≡ Some v = is in cc)
one_of f (d ∷ threads) t v none is =
    let parts = neither (nat_eq d.0 t && f d.1) (list_any (λ (x : ℕ × List ℕ). nat_eq x.0 t && f x.1) threads) none in
    elim (is_at (nat_cmp t) d.0) as (λ (b : Bool). is_at (nat_cmp t) d.0 ≡ b → cond b (Some d.1) (row_at threads t) ≡ Some v → f v ≡ false) [
      | true ↦ λ here e.
          let same : nat_eq d.0 t ≡ true = sym (key_test t d.0) ∙ here in
          let value : d.1 ≡ v = let g : Some d.1 ≡ Some v = e in cc in
          sym (ap f value) ∙ sym (ap (λ (b : Bool). b && f d.1) same) ∙ parts.0
      | false ↦ λ other e. one_of f threads t v parts.1 e
    ] refl is

-- ---- no Email of the Thread goes

-- each hidden row of these passes the test
abbrev AllRemoved : List NumberedFolder → (ℕ → Bool) → Rows → Type 0
AllRemoved hs f [] = Unit {0}
AllRemoved hs f (e ∷ es) = (is_hidden hs e ≡ true → f e.0 ≡ true) × AllRemoved hs f es

abbrev removed_in : List NumberedFolder → Rows → List Entry
removed_in hs rows = map touch_of_removal (gone_in hs rows)

removed_self : (n : ℕ) (es : List Entry) (m : ℕ) → n ≡ m → (nat_eq n m && true) || list_any (removes m) es ≡ true
removed_self n es m e = ap (λ (b : Bool). (b && true) || list_any (removes m) es) (eq-eqb n m e)

all_removed : (hs : List NumberedFolder) (f : ℕ → Bool) (rows : Rows) → ((n : ℕ) → list_any (removes n) (removed_in hs rows) ≡ true → f n ≡ true) → AllRemoved hs f rows
all_removed hs f [] covers = tt
all_removed hs f (e ∷ es) covers =
    let rest : List RemovedEmail = map gone_of (filter (is_hidden hs) es) in (
      (λ hidden. covers e.0 (ap (λ (b : Bool). list_any (removes e.0) (map touch_of_removal (map gone_of (cond b (e ∷ filter (is_hidden hs) es) (filter (is_hidden hs) es)))))
          hidden
          ∙ removed_self e.0 (map touch_of_removal rest) e.0 refl)),
      all_removed hs f es (λ n later. covers n (elim (is_hidden hs e) as (λ (b : Bool).
          list_any (removes n) (map touch_of_removal (map gone_of (cond b (e ∷ filter (is_hidden hs) es) (filter (is_hidden hs) es)))) ≡ true) [
            | true ↦ or_with (removes n (touch_of_removal (gone_of e))) (list_any (removes n) (map touch_of_removal rest)) later
            | false ↦ later
          ])),
    )

-- ---- so the Thread has the Emails that it had

abbrev pair_of : ℕ × EmailRow → ℤ × ℕ
pair_of e = (e.1.received, e.0)

module _ (hs : List NumberedFolder) (f : ℕ → Bool) (t : ℕ) where
  same_with : (e : ℕ × EmailRow) (p : Placed) (es : Rows) → pairs_in (remaining hs es) t ≡ pairs_in es t → pairs_in ((e.0, updated e.1 p) ∷ remaining hs es) t ≡ pairs_in (e ∷ es) t
  same_with e p es rest =
      elim (nat_eq e.1.thread t) as (λ (b : Bool). map pair_of (cond b ((e.0, updated e.1 p) ∷ filter (in_thread t) (remaining hs es)) (filter (in_thread t) (remaining hs es)))
      ≡ map pair_of (cond b (e ∷ filter (in_thread t) es) (filter (in_thread t) es))) [
        | true ↦ ap (λ (ps : List (ℤ × ℕ)). pair_of e ∷ ps) rest
        | false ↦ rest
      ]

  abbrev any_of : Rows → Bool
  any_of rows = list_any (λ (p : ℤ × ℕ). f p.1) (pairs_in rows t)

  -- of rows of which none passes the test, the later ones don't either
  none_later : (e : ℕ × EmailRow) (es : Rows) → any_of (e ∷ es) ≡ false → any_of es ≡ false
  none_later e es none =
      elim (nat_eq e.1.thread t) as (λ (b : Bool). list_any (λ (p : ℤ × ℕ). f p.1) (map pair_of (cond b (e ∷ filter (in_thread t) es) (filter (in_thread t) es))) ≡ false
      → any_of es ≡ false) [
        | true ↦ λ n. (neither (f e.0) (any_of es) n).1
        | false ↦ λ n. n
      ] none

  -- a row that passes it isn't in the Thread
  not_there : (e : ℕ × EmailRow) (es : Rows) → f e.0 ≡ true → any_of (e ∷ es) ≡ false → pairs_in es t ≡ pairs_in (e ∷ es) t
  not_there e es passes none =
      elim (nat_eq e.1.thread t) as (λ (b : Bool). list_any (λ (p : ℤ × ℕ). f p.1) (map pair_of (cond b (e ∷ filter (in_thread t) es) (filter (in_thread t) es))) ≡ false
      → pairs_in es t ≡ map pair_of (cond b (e ∷ filter (in_thread t) es) (filter (in_thread t) es))) [
        | true ↦ λ n. absurd (let g : true ≡ false = sym passes ∙ (neither (f e.0) (any_of es) n).0 in cc)
        | false ↦ λ n. refl
      ] none

  pairs_stay : (rows : Rows) → AllRemoved hs f rows → any_of rows ≡ false → pairs_in (remaining hs rows) t ≡ pairs_in rows t
  pairs_stay [] removed none = refl
  pairs_stay (e ∷ es) removed none = by (shown hs e.1.mark) refl (pairs_stay es removed.1 (none_later e es none))
    where
      by : (o : Option Placed) → shown hs e.1.mark ≡ o → pairs_in (remaining hs es) t ≡ pairs_in es t
          → pairs_in (put_remaining e.0 (option_map (updated e.1) o) (remaining hs es)) t ≡ pairs_in (e ∷ es) t
      by None hidden rest = rest ∙ not_there e es (removed.0 (ap (λ (o : Option Placed). not (is_some o)) hidden)) none
      by (Some p) is rest = same_with e p es rest

-- ---- no Email comes into it

in_second : (rows xs ys : Rows) → AllIn rows (xs ++ ys) → AllIn rows ys
in_second rows [] ys a = a
in_second rows (x ∷ xs) ys a = in_second rows xs ys a.1

none_joins : (rows : Rows) (t : ℕ) (es : Rows) → AllIn rows es → list_any (adds_to rows t) (map touch_of_addition (keys_of es)) ≡ false → pairs_in es t ≡ []
none_joins rows t [] found none = refl
none_joins rows t (e ∷ es) found none =
    let rest : List Entry = map touch_of_addition (keys_of es) in
    let parts = neither (adds_to rows t (touch_of_addition e.0)) (list_any (adds_to rows t) rest) none in
    let other : nat_eq e.1.thread t && true ≡ false = sym (ap (λ (o : Option EmailRow). is_in_thread t o && true) found.0) ∙ parts.0 in
    elim (nat_eq e.1.thread t) as (λ (b : Bool). b && true ≡ false → map pair_of (cond b (e ∷ filter (in_thread t) es) (filter (in_thread t) es)) ≡ []) [
      | true ↦ λ n. absurd (let g : true ≡ false = n in cc)
      | false ↦ λ n. none_joins rows t es found.1 parts.1
    ] other

-- ---- the whole

map_joined : (xs ys : Rows) → map pair_of (xs ++ ys) ≡ map pair_of xs ++ map pair_of ys
map_joined [] ys = refl
map_joined (x ∷ xs) ys = ap (λ (ps : List (ℤ × ℕ)). pair_of x ∷ ps) (map_joined xs ys)

pairs_joined : (a b : Rows) (t : ℕ) → pairs_in (a ++ b) t ≡ pairs_in a t ++ pairs_in b t
pairs_joined a b t = ap (map pair_of) (filter-append (in_thread t) a b) ∙ map_joined (filter (in_thread t) a) (filter (in_thread t) b)

-- equal pairs give equal Threads
same_thread_at : (a b : Rows) (t : ℕ) → pairs_in a t ≡ pairs_in b t → thread_at a t ≡ thread_at b t
same_thread_at a b t e = ap (λ (ps : List (ℤ × ℕ)). where_any ps (map number_of (sorted_into pair_cmp [] ps))) e

-- where no Thread of this number loses an Email, none of its Emails goes
none_lost : (f : ℕ → Bool) (rows : Rows) (t : ℕ) → list_any (λ (d : ℕ × List ℕ). nat_eq d.0 t && list_any f d.1) (threads_of rows) ≡ false
    → list_any (λ (p : ℤ × ℕ). f p.1) (pairs_in rows t) ≡ false
none_lost f rows t none = by (pairs_in rows t) refl
  where
    by : (ps : List (ℤ × ℕ)) → pairs_in rows t ≡ ps → list_any (λ (p : ℤ × ℕ). f p.1) (pairs_in rows t) ≡ false
    by [] e = ap (list_any (λ (p : ℤ × ℕ). f p.1)) e
    by (p ∷ ps) e =
        sym (any_email f rows t)
        ∙ one_of (list_any f) (threads_of rows) t (emails_in rows t) none (threads_at rows t ∙ ap (λ (xs : List (ℤ × ℕ)). where_any xs (emails_in rows t)) e)

-- the Threads that aren't touched stay as they were
pub others_stay : (n : NumberedRows) (hs : List NumberedFolder) (after : NumberedRows) → InOrder n → InOrder after → TakesMail n hs after
    → OthersStay (threads_of n.rows) after.rows (email_touches n.rows after.rows)
others_stay n hs after o then takes t none =
    let more : Rows = added (left n hs) (arrivals n hs) takes.envelopes in
    let rows : after.rows ≡ remaining hs n.rows ++ more = ap (λ (x : NumberedRows). x.rows) takes.after_is ∙ rows_added (left n hs) (arrivals n hs) takes.envelopes in
    let all : List Entry = removed_in hs n.rows ++ (changes_in hs n.rows ++ map touch_of_addition (keys_of more)) in
    let touches : email_touches n.rows after.rows ≡ all =
    ap (email_touches n.rows) rows ∙ touches_are hs n.rows more n.next o.sorted o.under (from_added (left n hs) (arrivals n hs) takes.envelopes) in
    let halves = neither (list_any (adds_to after.rows t) (email_touches n.rows after.rows)) (list_any (loses (email_touches n.rows after.rows) t) (threads_of n.rows)) none in
    let joins = none_of (adds_to after.rows t) (removed_in hs n.rows) (changes_in hs n.rows ++ map touch_of_addition (keys_of more))
    (sym (ap (list_any (adds_to after.rows t)) touches) ∙ halves.0) in
    let none_added = (none_of (adds_to after.rows t) (changes_in hs n.rows) (map touch_of_addition (keys_of more)) joins.1).1 in
    let found : AllIn after.rows more =
    let P : Rows → Type 0 = λ xs. AllIn after.rows xs in in_second after.rows (remaining hs n.rows) more (subst P rows (all_in after.rows then.sorted)) in
    let f : ℕ → Bool = λ k. list_any (removes k) (email_touches n.rows after.rows) in
    let removed : AllRemoved hs f n.rows = all_removed hs f n.rows (λ k is. ap (list_any (removes k)) touches
    ∙ list_any-append (removes k) (removed_in hs n.rows) (changes_in hs n.rows ++ map touch_of_addition (keys_of more))
    ∙ ap (λ (b : Bool). b || list_any (removes k) (changes_in hs n.rows ++ map touch_of_addition (keys_of more))) is) in
    let lost : list_any (λ (p : ℤ × ℕ). f p.1) (pairs_in n.rows t) ≡ false = none_lost f n.rows t halves.1 in
    let pairs : pairs_in after.rows t ≡ pairs_in n.rows t =
    ap (λ (xs : Rows). pairs_in xs t) rows ∙ pairs_joined (remaining hs n.rows) more t
    ∙ ap (λ (ps : List (ℤ × ℕ)). pairs_in (remaining hs n.rows) t ++ ps) (none_joins after.rows t more found none_added)
    ∙ append-nil (pairs_in (remaining hs n.rows) t) ∙ pairs_stay hs f t n.rows removed lost in
    threads_at after.rows t ∙ same_thread_at after.rows n.rows t pairs ∙ sym (threads_at n.rows t)

-- ---- the step

-- the Threads that have lost one of these Emails are those that lose one by the touches
pub losses_are : (gone : BTreeSet ℕ) (touches : List Entry) (threads : List (ℕ × List ℕ)) (t : ℕ) → ((n : ℕ) → contains nat_cmp gone n ≡ list_any (removes n) touches)
    → list_any (has_lost gone t) threads ≡ list_any (loses touches t) threads
losses_are gone touches threads t are =
    any_same (has_lost gone t) (loses touches t)
    (λ d. ap (λ (b : Bool). nat_eq d.0 t && b) (any_same (λ n. contains nat_cmp gone n) (λ n. list_any (removes n) touches) are d.1)) threads

-- what is gathered anew and what stays are the Threads of the rows
pub steps_threads : (old fresh threads : List (ℕ × List ℕ)) (rows : Rows) (touches steps : List Entry) (among : BTreeSet ℕ)
    → ((t : ℕ) → contains nat_cmp among t ≡ is_touched old rows touches t)
    → ((t : ℕ) → row_at fresh t ≡ cond (contains nat_cmp among t) (thread_at rows t) None)
    → (((t : ℕ) → contains nat_cmp among t ≡ false → row_at fresh t ≡ None) → (t : ℕ) → row_at threads t ≡ cond (contains nat_cmp among t) (row_at fresh t) (row_at old t))
    → ((new : List (ℕ × List ℕ)) → IsStrictlySortedBy nat_cmp (keys_of new)
    → ((t : ℕ) → row_at new t ≡ cond (contains nat_cmp among t) (row_at fresh t) (row_at old t)) → ((v : List ℕ) → same_thread v v ≡ true)
    → steps ≡ advance_entries (record { same = same_thread; counts = never }) old new)
    → IsStrictlySortedBy nat_cmp (keys_of threads) → OthersStay old rows touches → StepsThreads old rows threads steps
steps_threads old fresh threads rows touches steps among covers fresh_are updated_are steps_are sorted stay =
    let within : (t : ℕ) → contains nat_cmp among t ≡ false → row_at fresh t ≡ None = λ t is. fresh_are t ∙ ap (λ (b : Bool). cond b (thread_at rows t) None) is in
    let looked : (t : ℕ) → row_at (threads_of rows) t ≡ cond (contains nat_cmp among t) (row_at fresh t) (row_at old t) =
    λ t. elim (contains nat_cmp among t) as (λ (b : Bool). contains nat_cmp among t ≡ b → row_at (threads_of rows) t ≡ cond b (row_at fresh t) (row_at old t)) [
      | true ↦ λ is. threads_at rows t ∙ sym (fresh_are t ∙ ap (λ (b : Bool). cond b (thread_at rows t) None) is)
      | false ↦ λ is. stay t (sym (covers t) ∙ is)
    ] refl in
    let same : threads ≡ threads_of rows = sorted_same threads (threads_of rows) sorted (threads_sorted rows) (λ t. updated_are within t ∙ sym (looked t)) in
    record {
      threads = same;
      touches = steps_are (threads_of rows) (threads_sorted rows) looked (λ v. (exact_thread v v).1 refl) ∙ ap (advance_entries (tests_of thread_of thread_tests) old) (sym same);
    }

-- ---- where nothing is touched

none_there : (ids : BTreeSet ℕ) → length ids.keys ≡ 0 → (q : ℕ) → contains nat_cmp ids q ≡ false
none_there ids none q = ap (λ (ks : List ℕ). list_any (is_at (nat_cmp q)) ks) (no_keys ids.keys none)
  where
    no_keys : (ks : List ℕ) → length ks ≡ 0 → ks ≡ []
    no_keys [] e = refl
    no_keys (k ∷ ks) e = absurd (let f : suc (length ks) ≡ 0 = e in omega (arith, f))

none_passes : {X : Type 0} (f : X → Bool) → ((x : X) → f x ≡ false) → (xs : List X) → list_any f xs ≡ false
none_passes f fails [] = refl
none_passes f fails (x ∷ xs) = ap (λ (b : Bool). b || list_any f xs) (fails x) ∙ none_passes f fails xs

and_false : (b : Bool) → (b && false) ≡ false
and_false true = refl
and_false false = refl

-- where no Email goes, no Thread has lost one
pub none_left : (gone : BTreeSet ℕ) (threads : List (ℕ × List ℕ)) (t : ℕ) (b : Bool) → length gone.keys ≡ 0 → b ≡ (b || list_any (has_lost gone t) threads)
none_left gone threads t b none =
    or_none b ∙ ap (λ (c : Bool). b || c)
    (sym (none_passes (has_lost gone t)
    (λ d. ap (λ (c : Bool). nat_eq d.0 t && c) (none_passes (λ n. contains nat_cmp gone n) (none_there gone none) d.1) ∙ and_false (nat_eq d.0 t)) threads))

-- where no Thread is touched, they stay
pub threads_stay : (old : List (ℕ × List ℕ)) (rows : Rows) (touches steps : List Entry) (among : BTreeSet ℕ)
    → ((t : ℕ) → contains nat_cmp among t ≡ is_touched old rows touches t) → length among.keys ≡ 0 → IsStrictlySortedBy nat_cmp (keys_of old) → steps ≡ []
    → OthersStay old rows touches → StepsThreads old rows old steps
threads_stay old rows touches steps among covers none sorted empty stay = record {
  threads = sorted_same old (threads_of rows) sorted (threads_sorted rows) (λ t. sym (stay t (sym (covers t) ∙ none_there among none t)));
  touches = empty ∙ sym (no_touches (tests_of thread_of thread_tests) (λ v. (exact_thread v v).1 refl) old (all_in old sorted));
}

-- after a step, the Threads that no Email joins or leaves are those of before
pub others_follow : (n : NumberedRows) (hs : List NumberedFolder) (after : NumberedRows) (before : List (ℕ × List ℕ)) (rows : Rows) (touches : List Entry) → InOrder n → TakesMail n hs after
    → before ≡ threads_of n.rows → rows ≡ after.rows → touches ≡ email_touches n.rows after.rows → OthersStay before rows touches
others_follow n hs after before rows touches o takes was rows_are touches_are =
    let T : List (ℕ × List ℕ) → Type 0 = λ ts. OthersStay ts after.rows (email_touches n.rows after.rows) in
    let E : List Entry → Type 0 = λ es. OthersStay before after.rows es in
    let R : Rows → Type 0 = λ xs. OthersStay before xs touches in
    subst R (sym rows_are) (subst E (sym touches_are) (subst T (sym was) (others_stay n hs after o (taken_in_order n hs after o takes) takes)))
