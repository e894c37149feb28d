-- Threads as mail changes: no Thread comes back that is gone, and each is below the next number.
use Rattle.std.proofs.Common.{
  ◌≡◌,
  ◌≢◌,
  ℕ,
  ◌+◌,
  ◌<◌,
  ◌≤◌,
  List,
  [],
  ◌∷◌,
  ◌++◌,
  Bool,
  true,
  false,
  cond,
  nat_eq,
  map,
  refl,
  sym,
  ap,
  ◌∙◌,
  subst,
  arith,
  nat_cmp,
  Option,
  Some,
  None,
  is_some,
  eqb-true,
  eq-eqb,
}
use Rattle.std.specs.declared.cmp.Ordering.{Ordering}
use Rattle.std.specs.declared.cmp.Ordering.TheVariants.{Less, Equal, Greater}
use Rattle.std.specs.Ordering.{match_ordering}
use Rattle.std.specs.BTreeSet.{insert_key}
use Rattle.std.specs.BTreeMap.{is_at}
use Rattle.std.specs.Option.{option_map, unwrap_or}
use Rattle.change_list.specs.Advance.{row_at, AreRows}
use Rattle.thread_rule.specs.Threads.{Members}
use Rattle.served_maps.specs.Past.{Past, served, AreFresh, IsEverBelow, place_now}
use Rattle.told_folder.specs.declared.message.NumberedFolder.{NumberedFolder}
use Rattle.mail_maps.specs.declared.row.EmailRow.{EmailRow}
use Rattle.mail_maps.specs.declared.envelope.Envelope.{Envelope}
use Rattle.mail_maps.specs.Rows.{Rows}
use Rattle.mail_maps.specs.Keywords.{sorted_into}
use Rattle.mail_maps.specs.Threads.{thread_numbers, threads_of, emails_in}
use Rattle.mail_maps.specs.Serve.{thread_of}
use Rattle.mail_maps.specs.Visible.{Placed, shown}
use Rattle.mail_maps.proofs.ThreadLemmas.{has, key_test, sorted_has}
use Rattle.mail_rows.specs.NumberedRows.{NumberedRows}
use Rattle.mail_rows.specs.Remaining.{updated, put_remaining, remaining}
use Rattle.mail_rows.specs.Joining.{row_member, members_of, shares, first_shared, thread_in, thread_for}
use Rattle.mail_rows.specs.Taking.{TakesMail, taken, left, arrivals, with_row, with_rows, new_row}
use Rattle.mail_rows.proofs.RowLemmas.{above_is_not}
use Rattle.mail_state.specs.History.{MailHistory, served_threads}
use Rattle.mail_state.specs.Sound.{IsSound}
use Rattle.mail_state.proofs.EmailLemmas.{never_there}

row_has : {V : Type 0} (f : ℕ → V) (xs : List ℕ) (q : ℕ) → is_some (row_at (map {B = ℕ × V} (λ t. (t, f t)) xs) q) ≡ has xs q
row_has f [] q = refl
row_has {V} f (x ∷ xs) q =
    ap (λ (b : Bool). is_some (cond b (Some (f x)) (row_at (map {B = ℕ × V} (λ t. (t, f t)) xs) q))) (key_test q x)
    ∙ elim (nat_eq x q) as (λ (b : Bool). is_some (cond b (Some (f x)) (row_at (map {B = ℕ × V} (λ t. (t, f t)) xs) q)) ≡ cond b true (has xs q))
    [ true ↦ refl | false ↦ row_has f xs q ]

-- serving keeps which numbers are there
pub served_has : {R V : Type 0} (s : R → V) (rows : List (ℕ × R)) (q : ℕ) → is_some (row_at (served s rows) q) ≡ is_some (row_at rows q)
served_has s [] q = refl
served_has s (e ∷ es) q =
    elim (is_at (nat_cmp q) e.0) as (λ b. is_some (cond b (Some (s e.1)) (row_at (served s es) q)) ≡ is_some (cond b (Some e.1) (row_at es q)))
    [ true ↦ refl | false ↦ served_has s es q ]

-- whether an Email is in the Thread
abbrev pub has_thread : Rows → ℕ → Bool
has_thread [] q = false
has_thread (e ∷ es) q = cond (nat_eq e.1.thread q) true (has_thread es q)

mapped_has : (rows : Rows) (q : ℕ) → has (map (λ (e : ℕ × EmailRow). e.1.thread) rows) q ≡ has_thread rows q
mapped_has [] q = refl
mapped_has (e ∷ es) q = ap (λ (b : Bool). cond (nat_eq e.1.thread q) true b) (mapped_has es q)

-- a Thread is served where an Email is in it
pub threads_have : (rows : Rows) (q : ℕ) → is_some (row_at (served_threads rows) q) ≡ has_thread rows q
threads_have rows q =
    served_has thread_of (threads_of rows) q ∙ row_has (emails_in rows) (thread_numbers rows) q
    ∙ sorted_has [] (map (λ (e : ℕ × EmailRow). e.1.thread) rows) q ∙ mapped_has rows q

put_has : (number : ℕ) (row : EmailRow) (to : Option Placed) (more rest : Rows) (q : ℕ) → (has_thread rest q ≡ false → has_thread more q ≡ false)
    → has_thread ((number, row) ∷ rest) q ≡ false → has_thread (put_remaining number (option_map (updated row) to) more) q ≡ false
put_has number row None more rest q f e =
    f (elim (nat_eq row.thread q) as (λ (b : Bool). cond b true (has_thread rest q) ≡ false → has_thread rest q ≡ false)
    [ true ↦ λ g. absurd (let k : true ≡ false = g in cc) | false ↦ λ g. g ] e)
put_has number row (Some p) more rest q f e =
    elim (nat_eq row.thread q) as (λ (b : Bool). cond b true (has_thread rest q) ≡ false → cond b true (has_thread more q) ≡ false) [ true ↦ λ g. g | false ↦ f ] e

-- what remains is in no Thread in which nothing was
pub remaining_has : (hs : List NumberedFolder) (rows : Rows) (q : ℕ) → has_thread rows q ≡ false → has_thread (remaining hs rows) q ≡ false
remaining_has hs [] q e = refl
remaining_has hs (r ∷ rows) q e = put_has r.0 r.1 (shown hs r.1.mark) (remaining hs rows) rows q (remaining_has hs rows q) e

-- a Thread that is joined is there
first_there : (base id : List ℕ) (rows : Rows) (t : ℕ) → first_shared base id (members_of rows) ≡ Some t → has_thread rows t ≡ true
first_there base id [] t e = absurd (let f : None ≡ Some t = e in cc)
first_there base id (r ∷ rows) t e =
    elim (shares base id (row_member r.1)) as (λ (b : Bool). cond b (Some r.1.thread) (first_shared base id (members_of rows)) ≡ Some t
    → cond (nat_eq r.1.thread t) true (has_thread rows t) ≡ true) [
      | true ↦ λ f. ap (λ (b : Bool). cond b true (has_thread rows t)) (eq-eqb r.1.thread t (let g : Some r.1.thread ≡ Some t = f in cc))
      | false ↦ λ f. ap (λ (b : Bool). cond (nat_eq r.1.thread t) true b) (first_there base id rows t f)
          ∙ elim (nat_eq r.1.thread t) as (λ (b : Bool). cond b true true ≡ true) [ true ↦ refl | false ↦ refl ]
    ] e

thread_there : (rows : Rows) (base : List ℕ) (number : ℕ) (ids : List (List ℕ)) → has_thread rows (thread_in (members_of rows) base number ids) ≡ false
    → thread_in (members_of rows) base number ids ≡ number
thread_there rows base number [] e = refl
thread_there rows base number (id ∷ ids) e = by (first_shared base id (members_of rows)) refl (thread_there rows base number ids) e
  where
    by : (o : Option ℕ) → first_shared base id (members_of rows) ≡ o
        → (has_thread rows (thread_in (members_of rows) base number ids) ≡ false → thread_in (members_of rows) base number ids ≡ number)
        → has_thread rows (unwrap_or o (thread_in (members_of rows) base number ids)) ≡ false → unwrap_or o (thread_in (members_of rows) base number ids) ≡ number
    by None is g f = g f
    by (Some t) is k f = absurd (let g : true ≡ false = sym (first_there base id rows t is) ∙ f in cc)

appended_has : (rows : Rows) (number : ℕ) (row : EmailRow) (q : ℕ) → has_thread rows q ≡ false → has_thread (rows ++ (number, row) ∷ []) q ≡ nat_eq row.thread q
appended_has [] number row q e = elim (nat_eq row.thread q) as (λ (b : Bool). cond b true false ≡ b) [ true ↦ refl | false ↦ refl ]
appended_has (r ∷ rows) number row q e =
    elim (nat_eq r.1.thread q) as (λ (b : Bool). cond b true (has_thread rows q) ≡ false → cond b true (has_thread (rows ++ (number, row) ∷ []) q) ≡ nat_eq row.thread q) [
      | true ↦ λ g. absurd (let k : true ≡ false = g in cc)
      | false ↦ λ g. appended_has rows number row q g
    ] e

-- ---- new Threads have new numbers

all_threads : (n : NumberedRows) (ps : List Placed) (es : List Envelope) (q : ℕ) → has_thread n.rows q ≡ false → has_thread (with_rows n ps es).rows q ≡ true → n.next ≤ q
all_threads n [] es q no_one some = absurd (let k : false ≡ true = sym no_one ∙ some in cc)
all_threads n (p ∷ ps) [] q no_one some = absurd (let k : false ≡ true = sym no_one ∙ some in cc)
all_threads n (p ∷ ps) (e ∷ es) q no_one some =
    let row : EmailRow = new_row n p e in
    let there : has_thread (with_row n p e).rows q ≡ nat_eq row.thread q = appended_has n.rows n.next row q no_one in
    elim (nat_eq row.thread q) as (λ (b : Bool). nat_eq row.thread q ≡ b → n.next ≤ q) [
      | true ↦ λ is.
          let same : row.thread ≡ q = eqb-true row.thread q is in
          let own : row.thread ≡ n.next = thread_there n.rows e.base n.next e.ids (ap (has_thread n.rows) same ∙ no_one) in
          let k : n.next ≡ q = sym own ∙ same in omega (arith, k)
      | false ↦ λ is. let k : n.next + 1 ≤ q = all_threads (with_row n p e) ps es q (there ∙ is) some in omega (arith, k)
    ] refl

none_is : {V : Type 0} (o : Option V) → o ≡ None → is_some o ≡ false
none_is o e = ap is_some e

-- what is not None is Some
pub some_is : {V : Type 0} (o : Option V) → o ≢ None → is_some o ≡ true
some_is None e = absurd (e refl)
some_is (Some v) e = refl

-- what is Some is not None
pub some_not : {V : Type 0} (o : Option V) → is_some o ≡ true → o ≢ None
some_not None e f = let g : false ≡ true = e in cc
some_not (Some v) e f = cc

-- an advance brings back no Thread that is gone
pub threads_are_fresh : (h : MailHistory) (hs : List NumberedFolder) (n : NumberedRows) → IsSound h → TakesMail h.numbered hs n → AreFresh h.threads (served_threads n.rows)
threads_are_fresh h hs n sound takes q place gone comes =
    let old : has_thread h.numbered.rows q ≡ false =
    sym (threads_have h.numbered.rows q) ∙ ap (λ (rows : List (ℕ × List ℕ)). is_some (row_at rows q)) (sym sound.threads_now) ∙ none_is (row_at h.threads.now q) gone in
    let new : has_thread (taken h.numbered hs takes.envelopes).rows q ≡ true =
    ap (λ (k : NumberedRows). has_thread k.rows q) (sym takes.after_is) ∙ sym (threads_have n.rows q) ∙ some_is (row_at (served_threads n.rows) q) comes in
    let over : h.numbered.next ≤ q = all_threads (left h.numbered hs) (arrivals h.numbered hs) takes.envelopes q (remaining_has hs h.numbered.rows q old) new in
    never_there h.threads h.numbered.next q place sound.threads_below over

-- ---- each Thread is below the next number

abbrev pub ThreadsBelow : NumberedRows → Type 0
ThreadsBelow n = (q : ℕ) → has_thread n.rows q ≡ true → q < n.next

new_below : (n : NumberedRows) (e : Envelope) → ThreadsBelow n → thread_for n e < n.next + 1
new_below n e below =
    elim (has_thread n.rows (thread_for n e)) as (λ (b : Bool). has_thread n.rows (thread_for n e) ≡ b → thread_for n e < n.next + 1) [
      | true ↦ λ is. let k : thread_for n e < n.next = below (thread_for n e) is in omega (arith, k)
      | false ↦ λ is. let k : thread_for n e ≡ n.next = thread_there n.rows e.base n.next e.ids is in omega (arith, k)
    ] refl

one_below : (n : NumberedRows) (p : Placed) (e : Envelope) → ThreadsBelow n → ThreadsBelow (with_row n p e)
one_below n p e below q some =
    elim (has_thread n.rows q) as (λ (b : Bool). has_thread n.rows q ≡ b → q < n.next + 1) [
      | true ↦ λ is. let k : q < n.next = below q is in omega (arith, k)
      | false ↦ λ is.
          let same : nat_eq (thread_for n e) q ≡ true = sym (appended_has n.rows n.next (new_row n p e) q is) ∙ some in
          let at : thread_for n e ≡ q = eqb-true (thread_for n e) q same in
          let k = new_below n e below in omega (arith, k, at)
    ] refl

all_below : (n : NumberedRows) (ps : List Placed) (es : List Envelope) → ThreadsBelow n → ThreadsBelow (with_rows n ps es)
all_below n [] es below = below
all_below n (p ∷ ps) [] below = below
all_below n (p ∷ ps) (e ∷ es) below = all_below (with_row n p e) ps es (one_below n p e below)

left_below : (n : NumberedRows) (hs : List NumberedFolder) → ThreadsBelow n → ThreadsBelow (left n hs)
left_below n hs below q some =
    elim (has_thread n.rows q) as (λ (b : Bool). has_thread n.rows q ≡ b → q < n.next) [
      | true ↦ λ is. below q is
      | false ↦ λ is. absurd (let f : false ≡ true = sym (remaining_has hs n.rows q is) ∙ some in cc)
    ] refl

threads_below_now : (h : MailHistory) → IsSound h → ThreadsBelow h.numbered
threads_below_now h sound q some =
    sound.threads_below (place_now h.threads) q (λ e. some_not (row_at (served_threads h.numbered.rows) q) (threads_have h.numbered.rows q ∙ some)
    (ap (λ (x : List (ℕ × List ℕ)). row_at x q) (sym sound.threads_now) ∙ sound.threads.last q ∙ e))

-- after a step each Thread is below the next number
pub threads_below_then : (h : MailHistory) (hs : List NumberedFolder) (n : NumberedRows) → IsSound h → TakesMail h.numbered hs n → ThreadsBelow n
threads_below_then h hs n sound takes =
    let P : NumberedRows → Type 0 = λ x. ThreadsBelow x in
    subst P (sym takes.after_is) (all_below (left h.numbered hs) (arrivals h.numbered hs) takes.envelopes (left_below h.numbered hs (threads_below_now h sound)))

-- ---- each Thread has one row

abbrev Above : ℕ → List ℕ → Type 0
Above k [] = Unit {0}
Above k (x ∷ xs) = (k < x) × Above k xs

abbrev Ascending : List ℕ → Type 0
Ascending [] = Unit {0}
Ascending (x ∷ xs) = Above x xs × Ascending xs

less : (a b : ℕ) → nat_cmp a b ≡ Less → a < b
less a b e = grind arith

greater : (a b : ℕ) → nat_cmp a b ≡ Greater → b < a
greater a b e = grind arith

lower : (j k : ℕ) (xs : List ℕ) → j < k → Above k xs → Above j xs
lower j k [] l a = tt
lower j k (x ∷ xs) l a = (omega (arith, l, a.0), lower j k xs l a.1)

still_above : (j k : ℕ) (xs : List ℕ) → j < k → Above j xs → Above j (insert_key nat_cmp xs k)
still_above j k [] l a = (l, tt)
still_above j k (x ∷ xs) l a = by (nat_cmp k x) (still_above j k xs l a.1)
  where
    by : (r : Ordering) → Above j (insert_key nat_cmp xs k) → Above j (match_ordering r (k ∷ x ∷ xs) (x ∷ xs) (x ∷ insert_key nat_cmp xs k))
    by Less g = (l, a)
    by Equal g = a
    by Greater g = (a.0, g)

still_ascending : (k : ℕ) (xs : List ℕ) → Ascending xs → Ascending (insert_key nat_cmp xs k)
still_ascending k [] a = (tt, tt)
still_ascending k (x ∷ xs) a = by (nat_cmp k x) refl (still_ascending k xs a.1)
  where
    by : (r : Ordering) → nat_cmp k x ≡ r → Ascending (insert_key nat_cmp xs k) → Ascending (match_ordering r (k ∷ x ∷ xs) (x ∷ xs) (x ∷ insert_key nat_cmp xs k))
    by Less e g = let l = less k x e in ((l, lower k x xs l a.0), a)
    by Equal e g = a
    by Greater e g = (still_above x k xs (greater k x e) a.0, g)

sorted_ascending : (before xs : List ℕ) → Ascending before → Ascending (sorted_into nat_cmp before xs)
sorted_ascending before [] a = a
sorted_ascending before (x ∷ xs) a = sorted_ascending (insert_key nat_cmp before x) xs (still_ascending x before a)

module _ {V : Type 0} (f : ℕ → V) where
  abbrev rows_by : List ℕ → List (ℕ × V)
  rows_by xs = served (λ (v : V). v) (map {B = ℕ × V} (λ t. (t, f t)) xs)

  none_above : (k : ℕ) (xs : List ℕ) → Above k xs → row_at (rows_by xs) k ≡ None
  none_above k [] a = refl
  none_above k (x ∷ xs) a = ap (λ (b : Bool). cond b (Some (f x)) (row_at (rows_by xs) k)) (above_is_not k x a.0) ∙ none_above k xs a.1

  ascending_rows : (xs : List ℕ) → Ascending xs → AreRows (rows_by xs)
  ascending_rows [] a = tt
  ascending_rows (x ∷ xs) a = (none_above x xs a.0, ascending_rows xs a.1)

-- each Thread has one row
pub thread_rows : (rows : Rows) → AreRows (served_threads rows)
thread_rows rows = ascending_rows (emails_in rows) (thread_numbers rows) (sorted_ascending [] (map (λ (e : ℕ × EmailRow). e.1.thread) rows) tt)
