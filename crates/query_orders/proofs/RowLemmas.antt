-- Rows that are sorted by one comparator more, and values of rows in their order.
use Rattle.std.proofs.Common.{◌≡◌, ◌↔◌, ℕ, ◌+◌, ◌-◌, ◌<◌, ◌≤◌, List, [], ◌∷◌, length, get_or, drop, map, Bool, Contains, IsPermutation, nat_cmp}
use Rattle.std.proofs.Common.{refl, sym, ap, subst, ◌∙◌, arith, Bor}
use Rattle.std.specs.declared.cmp.Ordering.{Ordering}
use Rattle.std.specs.Ordering.{ordering_then}
use Rattle.std.specs.Cmp.{IsTotalOrder}
use Rattle.std.specs.List.{AllByRecursion}
use Rattle.std.specs.List.Sorted.{IsStrictlySortedBy}
use Rattle.std.specs.declared.cmp.Ordering.TheVariants.{Equal, Less}
use Rattle.std.proofs.lemmas.Cmp.{nat_cmp_total, on_total, tied_itself}
use Rattle.std.proofs.lemmas.List.{drop_more}
use Rattle.std.proofs.lemmas.List.Elements.{All-contains, All-from_recursion}
use Rattle.std.proofs.lemmas.List.Sorted.{Contains-permutation, IsPermutation-map, IsPermutation-sym, IsPermutation-trans}
use Rattle.std.proofs.lemmas.Simd.{map-map}
use Rattle.mail_maps.specs.Serve.{Email, ServedMailbox, mailbox_of}
use Rattle.query_conditions.specs.Entries.{email_at, emails_at}
use Rattle.query_conditions.specs.declared.entry.EmailEntry.{EmailEntry}
use Rattle.query_lists.specs.Ordered.{AscendByNumber, row_cmp}
use Rattle.query_orders.specs.Directions.{directed}
use Rattle.query_orders.specs.Emails.{cmp_by_property, email_cmp}
use Rattle.query_orders.specs.Entries.{mailboxes_at}
use Rattle.query_orders.specs.Mailboxes.{mailbox_cmp}
use Rattle.query_orders.specs.Texts.{text_cmp}
use Rattle.query_orders.specs.declared.comparators.EmailComparator.{EmailComparator}
use Rattle.query_orders.specs.declared.comparators.MailboxComparator.{MailboxComparator}
use Rattle.query_orders.specs.declared.entry.MailboxEntry.{MailboxEntry}
use Rattle.query_orders.specs.Listed.{IsListed}
use Rattle.query_orders.specs.reading.Keys.{IsOneToOne, IsStableSort, by_key}
use Rattle.query_orders.specs.reading.Rows.{emails_by, emails_in_order}
use Rattle.query_orders.proofs.OrderLaws.{directed_total, property_total, mailbox_total}
use Rattle.query_orders.proofs.SortLemmas.{sorted_before, sorted_mapped, then_assoc, then_sorted}

-- from the place before on
front_more : {C : Type 0} (cs : List C) (left : ℕ) (c : C) → 0 < left → left ≤ length cs → drop (left - 1) cs ≡ get_or cs (left - 1) c ∷ drop left cs
front_more cs left c some within =
    let one_more : left - 1 + 1 ≡ left = omega (arith, some) in
    drop_more cs (left - 1) c (omega (arith, some, within)) ∙ ap (λ (n : ℕ). get_or cs (left - 1) c ∷ drop n cs) one_more

-- ---- Emails

pub emails_by_number : (emails : List (ℕ × Email)) (rows : List EmailEntry) → AscendByNumber (emails_at rows) → IsStrictlySortedBy (emails_in_order emails []) rows
emails_by_number emails rows up =
    sorted_before (λ (e : EmailEntry). let p : ℕ × Email = (e.number, email_at e) in p) (row_cmp (email_cmp emails [])) rows
    (sorted_before (λ (e : ℕ × Email). e.0) nat_cmp (emails_at rows) up)

pub emails_next : (emails : List (ℕ × Email)) (c : EmailComparator) (cs : List EmailComparator) (old new : List EmailEntry)
    → IsStrictlySortedBy (emails_in_order emails cs) old → IsStableSort (emails_by emails c) old new → IsStrictlySortedBy (emails_in_order emails (c ∷ cs)) new
emails_next emails c cs old new was sort =
    let total : IsTotalOrder (emails_by emails c) = on_total email_at (directed_total (cmp_by_property emails c.property) (property_total emails c.property) c.is_ascending) in
    subst (λ R. IsStrictlySortedBy R new)
    (λ i a b. sym (then_assoc (emails_by emails c a b) (email_cmp emails cs (email_at a) (email_at b)) (nat_cmp a.number b.number)) i)
    (then_sorted (emails_by emails c) (emails_in_order emails cs) total old new was sort)

pub emails_more : (emails : List (ℕ × Email)) (cs : List (Bor EmailComparator)) (left : ℕ) (c : Bor EmailComparator) (old new : List EmailEntry)
    → 0 < left → left ≤ length cs → c ≡ get_or cs (left - 1) c
    → IsStrictlySortedBy (emails_in_order emails (map (λ (d : Bor EmailComparator). d.now) (drop left cs))) old → IsStableSort (emails_by emails c.now) old new
    → IsStrictlySortedBy (emails_in_order emails (map (λ (d : Bor EmailComparator). d.now) (drop (left - 1) cs))) new
emails_more emails cs left c old new some within is was sort =
    subst (λ (rest : List (Bor EmailComparator)). IsStrictlySortedBy (emails_in_order emails (map (λ (d : Bor EmailComparator). d.now) rest)) new)
    (sym (front_more cs left c some within ∙ ap (λ (d : Bor EmailComparator). d ∷ drop left cs) (sym is)))
    (emails_next emails c.now (map (λ (d : Bor EmailComparator). d.now) (drop left cs)) old new was sort)

-- an order that tells apart as another does is that one
pub same_order : {V : Type 0} (one other : V → V → Ordering) (rows : List (ℕ × V)) → ((a b : V) → one a b ≡ other a b)
    → IsStrictlySortedBy (row_cmp one) rows → IsStrictlySortedBy (row_cmp other) rows
same_order one other rows same = subst (λ R. IsStrictlySortedBy R rows) (λ i x y. ordering_then (same x.1 y.1 i) (nat_cmp x.0 y.0))

pub emails_sorted : (emails : List (ℕ × Email)) (cs : List EmailComparator) (rows : List EmailEntry)
    → IsStrictlySortedBy (emails_in_order emails cs) rows → IsStrictlySortedBy (row_cmp (email_cmp emails cs)) (emails_at rows)
emails_sorted emails cs rows h = sorted_mapped (λ (e : EmailEntry). let p : ℕ × Email = (e.number, email_at e) in p) (row_cmp (email_cmp emails cs)) rows h

-- ---- Mailboxes

-- by an order that tells none apart
pub none_apart : (cs : List MailboxComparator) (rows : List MailboxEntry) → ((a b : ServedMailbox) → mailbox_cmp cs a b ≡ Equal)
    → AscendByNumber (mailboxes_at rows) → IsStrictlySortedBy (row_cmp (mailbox_cmp cs)) (mailboxes_at rows)
none_apart cs rows tie up =
    same_order (λ (a b : ServedMailbox). Equal) (mailbox_cmp cs) (mailboxes_at rows) (λ a b. sym (tie a b))
    (sorted_before (λ (b : ℕ × ServedMailbox). b.0) nat_cmp (mailboxes_at rows) up)

-- by an order that is the names', in a direction
pub sorted_by_name : (cs : List MailboxComparator) (is_ascending : Bool) (old new : List MailboxEntry)
    → ((a b : ServedMailbox) → directed is_ascending (text_cmp a.name b.name) ≡ mailbox_cmp cs a b)
    → AscendByNumber (mailboxes_at old) → IsStableSort (by_key is_ascending text_cmp (λ (b : MailboxEntry). b.row.now.name)) old new
    → IsStrictlySortedBy (row_cmp (mailbox_cmp cs)) (mailboxes_at new)
sorted_by_name cs is_ascending old new same up sort =
    let numbered : MailboxEntry → ℕ × ServedMailbox = λ b. (b.number, mailbox_of b.row.now) in
    let first : MailboxEntry → MailboxEntry → Ordering = λ a b. mailbox_cmp cs (mailbox_of a.row.now) (mailbox_of b.row.now) in
    let next : MailboxEntry → MailboxEntry → Ordering = λ a b. nat_cmp a.number b.number in
    let total : IsTotalOrder first = on_total (λ (b : MailboxEntry). mailbox_of b.row.now) (mailbox_total cs) in
    let was : IsStrictlySortedBy next old =
    sorted_before numbered (λ x y. nat_cmp x.0 y.0) old (sorted_before (λ (b : ℕ × ServedMailbox). b.0) nat_cmp (mailboxes_at old) up) in
    sorted_mapped numbered (row_cmp (mailbox_cmp cs)) new
    (then_sorted first next total old new was
    (subst (λ R. IsStableSort R old new) (λ i a b. same (mailbox_of a.row.now) (mailbox_of b.row.now) i) sort))

-- ---- values of Emails

module _ {X : Type 0} (f : X → ℕ) where
  both : {P Q R : X → Type 0} (xs : List X) → ((x : X) → P x → Q x → R x) → AllByRecursion P xs → AllByRecursion Q xs → AllByRecursion R xs
  both [] h p q = tt
  both (x ∷ xs) h p q = (h x p.0 q.0, both xs h p.1 q.1)

  one_less : (m n : ℕ) → nat_cmp m n ≡ Less → m ≡ n → {A : Type 0} → A
  one_less m n less same = absurd (let tied : Equal ≡ Less = sym (tied_itself nat_cmp_total n) ∙ subst (λ (k : ℕ). nat_cmp k n ≡ Less) same less in cc)

  apart : (xs : List X) → IsStrictlySortedBy (λ (a b : X). nat_cmp (f a) (f b)) xs → AllByRecursion (λ a. AllByRecursion (λ b. f a ≡ f b → a ≡ b) xs) xs
  unfolding IsStrictlySortedBy
  apart [] h = tt
  apart (x ∷ xs) h = (
    (λ e. refl, both xs (λ b less l e. one_less (f x) (f b) less e) h.0 h.0),
    both xs (λ a less others. (λ e. one_less (f x) (f a) less (sym e), others)) h.0 (apart xs h.1),
  )

  -- rows in strictly ascending number have different numbers
  pub numbers_apart : (xs : List X) → IsStrictlySortedBy (λ (a b : X). nat_cmp (f a) (f b)) xs → IsOneToOne f xs
  numbers_apart xs h a b has_a has_b =
      All-contains (λ (y : X). f a ≡ f y → a ≡ y) xs b
      (All-from_recursion (λ (y : X). f a ≡ f y → a ≡ y) xs
      (All-contains (λ (z : X). AllByRecursion (λ y. f z ≡ f y → z ≡ y) xs) xs a (All-from_recursion (λ (z : X). AllByRecursion (λ y. f z ≡ f y → z ≡ y) xs) xs (apart xs h)) has_a)) has_b

abbrev shown : EmailEntry → ℕ × Email
shown e = (e.number, email_at e)

-- what tells Emails apart does so wherever they stand
pub still_apart : {V : Type 0} (of : EmailEntry → V) (number : V → ℕ) (old new : List EmailEntry) → ((e : EmailEntry) → number (of e) ≡ e.number)
    → AscendByNumber (emails_at old) → IsPermutation old new → IsOneToOne of new
still_apart of number old new is up moved a b has_a has_b same =
    let back = IsPermutation-sym old new moved in
    numbers_apart (λ (e : EmailEntry). e.number) old (sorted_before shown (λ x y. nat_cmp x.0 y.0) old (sorted_before (λ (e : ℕ × Email). e.0) nat_cmp (emails_at old) up))
    a b (Contains-permutation new old a back has_a) (Contains-permutation new old b back has_b) (sym (is a) ∙ ap number same ∙ is b)

pub values_moved : {V : Type 0} (of : EmailEntry → V) (given : ℕ × Email → V) (old new : List EmailEntry) → ((e : EmailEntry) → of e ≡ given (shown e)) → IsPermutation old new
    → IsPermutation (map given (emails_at old)) (map of new)
values_moved of given old new is moved =
    subst (λ vs. IsPermutation vs (map of new)) ((λ i. map (λ (e : EmailEntry). is e i) old) ∙ sym (map-map given shown old)) (IsPermutation-map of old new moved)

-- values of Emails in order, which stand in another order
pub listed_emails : {V : Type 0} (emails : List (ℕ × Email)) (kept cs : List EmailComparator) (of : EmailEntry → V) (given : ℕ × Email → V) (old new : List EmailEntry) (values : List V)
    → ((e : EmailEntry) → of e ≡ given (shown e)) → ((a b : Email) → email_cmp emails kept a b ≡ email_cmp emails cs a b) → IsPermutation old new
    → IsListed (emails_in_order emails kept) of new values → IsListed (row_cmp (email_cmp emails cs)) given (emails_at old) values
listed_emails emails kept cs of given old new values is same moved listed = record {
  sorted = emails_at listed.sorted;
  permutes = IsPermutation-map shown old listed.sorted (IsPermutation-trans old new listed.sorted moved listed.permutes);
  ascends = same_order (email_cmp emails kept) (email_cmp emails cs) (emails_at listed.sorted) same (emails_sorted emails kept listed.sorted listed.ascends);
  are = listed.are ∙ (λ i. map (λ (e : EmailEntry). is e i) listed.sorted) ∙ sym (map-map given shown listed.sorted);
}

-- how values of Emails are listed that stand in order by all comparators but the first
abbrev pub ListsAll : {V : Type 0} → List (ℕ × Email) → List (Bor EmailComparator) → List EmailEntry → List V → List V → Type 0
ListsAll {V} emails kept rows values sorted =
    (of : EmailEntry → V) → values ≡ map of rows → IsOneToOne of rows
    → IsStrictlySortedBy (emails_in_order emails (map (λ (c : Bor EmailComparator). c.now) (drop 1 kept))) rows
    → IsListed (emails_in_order emails (map (λ (c : Bor EmailComparator). c.now) kept)) of rows sorted

pub listed_at_last : {V : Type 0} (emails : List (ℕ × Email)) (kept : List (Bor EmailComparator)) (cs : List EmailComparator)
    (of : EmailEntry → V) (given : ℕ × Email → V) (number : V → ℕ) (old new : List EmailEntry) (values sorted : List V)
    → ((e : EmailEntry) → of e ≡ given (shown e)) → ((e : EmailEntry) → number (of e) ≡ e.number)
    → ((a b : Email) → email_cmp emails (map (λ (c : Bor EmailComparator). c.now) kept) a b ≡ email_cmp emails cs a b)
    → AscendByNumber (emails_at old) → IsPermutation old new → IsStrictlySortedBy (emails_in_order emails (map (λ (c : Bor EmailComparator). c.now) (drop 1 kept))) new
    → values ≡ map of new → ListsAll emails kept new values sorted → IsListed (row_cmp (email_cmp emails cs)) given (emails_at old) sorted
listed_at_last emails kept cs of given number old new values sorted is numbered same up moved was are lists =
    listed_emails emails (map (λ (c : Bor EmailComparator). c.now) kept) cs of given old new sorted is same moved
    (lists of are (still_apart of number old new numbered up moved) was)

-- values of rows in another order are the same
pub same_values : {X Y : Type 0} (f : X → Y) (old new : List X) → IsPermutation old new → (y : Y) → Contains (map f new) y ↔ Contains (map f old) y
same_values f old new moved y =
    let mapped : IsPermutation (map f old) (map f new) = IsPermutation-map f old new moved in
    (Contains-permutation (map f new) (map f old) y (IsPermutation-sym (map f old) (map f new) mapped), Contains-permutation (map f old) (map f new) y mapped)
