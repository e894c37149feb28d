-- A comparator whose property stands earlier decides nothing.
use Rattle.std.proofs.Common.{◌≡◌, inl, inr, ℕ, zero, suc, ◌+◌, ◌<◌, List, [], ◌∷◌, ◌++◌, length, get_or, drop, map, Bool, true, false, not, ◌||◌, Vec, Global, Bor, nat_cmp, is_eq, refl, sym, ap, subst, ◌∙◌, append_assoc}
use Rattle.std.specs.BTreeSet.{insert_key}
use Rattle.std.specs.BTreeMap.{is_at}
use Rattle.std.specs.Cmp.Lexicographic.{slice_cmp}
use Rattle.std.specs.List.{AllByRecursion, list_any}
use Rattle.std.specs.declared.cmp.Ordering.{Ordering}
use Rattle.std.specs.declared.cmp.Ordering.TheVariants.{Less, Equal, Greater}
use Rattle.std.specs.Ordering.{match_ordering, ordering_reverse, ordering_then}
use Rattle.std.proofs.lemmas.List.{drop_more, map_push}
use Rattle.std.proofs.lemmas.Map.Text.{is_eq-slice_cmp}
use Rattle.std.proofs.lemmas.Slice.Eq.{bytes_eq-Decides}
use Rattle.mail_maps.specs.Serve.{Email, ServedMailbox}
use Rattle.query_orders.specs.Directions.{directed}
use Rattle.query_orders.specs.Emails.{cmp_by_property, email_cmp}
use Rattle.query_orders.specs.Mailboxes.{mailbox_cmp, mailbox_cmp_by}
use Rattle.query_orders.specs.Texts.{text_cmp}
use Rattle.query_orders.specs.declared.comparators.EmailComparator.{EmailComparator}
use Rattle.query_orders.specs.declared.comparators.EmailSort.{EmailSort}
use Rattle.query_orders.specs.declared.comparators.EmailSort.TheVariants as sort
use Rattle.query_orders.specs.declared.comparators.MailboxComparator.{MailboxComparator}
use Rattle.query_orders.specs.declared.comparators.MailboxSort.{MailboxSort}
use Rattle.query_orders.specs.declared.comparators.MailboxSort.TheVariants.{Name, SortOrder}
use Rattle.query_orders.specs.reading.PropertyKeys.{HasProperty, property_key}
use Rattle.query_orders.proofs.SortLemmas.{then_assoc}

-- ---- octets tell properties apart

sort_of_tag : ℕ → List ℕ → EmailSort
sort_of_tag zero k = sort.ReceivedAt
sort_of_tag (suc zero) k = sort.Size
sort_of_tag (suc (suc zero)) k = sort.From
sort_of_tag (suc (suc (suc zero))) k = sort.To
sort_of_tag (suc (suc (suc (suc zero)))) k = sort.Subject
sort_of_tag (suc (suc (suc (suc (suc zero))))) k = sort.SentAt
sort_of_tag (suc (suc (suc (suc (suc (suc zero)))))) k = sort.HasKeyword k
sort_of_tag (suc (suc (suc (suc (suc (suc (suc zero))))))) k = sort.AllInThreadHaveKeyword k
sort_of_tag (suc (suc (suc (suc (suc (suc (suc (suc n)))))))) k = sort.SomeInThreadHaveKeyword k

sort_of : List ℕ → EmailSort
sort_of [] = sort.ReceivedAt
sort_of (n ∷ k) = sort_of_tag n k

read_back : (s : EmailSort) → sort_of (property_key s) ≡ s
unfolding sort_of sort_of_tag
read_back sort.ReceivedAt = refl
read_back sort.Size = refl
read_back sort.From = refl
read_back sort.To = refl
read_back sort.Subject = refl
read_back sort.SentAt = refl
read_back (sort.HasKeyword k) = refl
read_back (sort.AllInThreadHaveKeyword k) = refl
read_back (sort.SomeInThreadHaveKeyword k) = refl

one_property : (s t : EmailSort) → property_key s ≡ property_key t → s ≡ t
one_property s t same = sym (read_back s) ∙ ap sort_of same ∙ read_back t

-- ---- what stands earlier decides

both_equal : (a b : Ordering) → ordering_then a b ≡ Equal → (a ≡ Equal) × (b ≡ Equal)
both_equal Less b e = absurd (cc)
both_equal Equal b e = (refl, e)
both_equal Greater b e = absurd (cc)

either_way : (ascending other : Bool) (o : Ordering) → directed ascending o ≡ Equal → directed other o ≡ Equal
either_way true true o e = e
either_way false false o e = e
either_way true false o e = ap ordering_reverse e
either_way false true Less e = absurd (cc)
either_way false true Equal e = refl
either_way false true Greater e = absurd (cc)

module _ (emails : List (ℕ × Email)) (a b : Email) where
  ties_too : (kept : List EmailComparator) (c : EmailComparator) → HasProperty (property_key c.property) kept → email_cmp emails kept a b ≡ Equal
      → directed c.is_ascending (cmp_by_property emails c.property a b) ≡ Equal
  ties_too [] c h e = absurd h
  ties_too (d ∷ kept) c (inr h) e = ties_too kept c h (both_equal _ _ e).1
  ties_too (d ∷ kept) c (inl same) e =
      either_way d.is_ascending c.is_ascending (cmp_by_property emails c.property a b)
      (subst (λ (s : EmailSort). directed d.is_ascending (cmp_by_property emails s a b) ≡ Equal) (one_property d.property c.property same) (both_equal _ _ e).0)

  one_after_another : (kept rest : List EmailComparator) → email_cmp emails (kept ++ rest) a b ≡ ordering_then (email_cmp emails kept a b) (email_cmp emails rest a b)
  one_after_another [] rest = refl
  one_after_another (d ∷ kept) rest =
      ap (ordering_then (directed d.is_ascending (cmp_by_property emails d.property a b))) (one_after_another kept rest)
      ∙ sym (then_assoc (directed d.is_ascending (cmp_by_property emails d.property a b)) (email_cmp emails kept a b) (email_cmp emails rest a b))

  without : (o p r : Ordering) → (o ≡ Equal → p ≡ Equal) → ordering_then o (ordering_then p r) ≡ ordering_then o r
  without Less p r tie = refl
  without Equal p r tie = ap (λ (q : Ordering). ordering_then q r) (tie refl)
  without Greater p r tie = refl

  passed_over : (kept rest : List EmailComparator) (c : EmailComparator) → HasProperty (property_key c.property) kept
      → email_cmp emails (kept ++ c ∷ rest) a b ≡ email_cmp emails (kept ++ rest) a b
  passed_over kept rest c h =
      one_after_another kept (c ∷ rest)
      ∙ without (email_cmp emails kept a b) (directed c.is_ascending (cmp_by_property emails c.property a b)) (email_cmp emails rest a b) (ties_too kept c h)
      ∙ sym (one_after_another kept rest)

-- ---- what is seen

has_more : (key : List ℕ) (kept more : List EmailComparator) → HasProperty key kept → HasProperty key (kept ++ more)
has_more key [] more h = absurd h
has_more key (c ∷ kept) more (inl same) = inl same
has_more key (c ∷ kept) more (inr h) = inr (has_more key kept more h)

has_last : (key : List ℕ) (kept : List EmailComparator) (c : EmailComparator) → property_key c.property ≡ key → HasProperty key (kept ++ c ∷ [])
has_last key [] c same = inl same
has_last key (d ∷ kept) c same = inr (has_last key kept c same)

by_items : Vec ℕ Global → Vec ℕ Global → Ordering
by_items x y = slice_cmp nat_cmp x.items y.items

same_octets : (x y : List ℕ) → is_eq (slice_cmp nat_cmp x y) ≡ true → x ≡ y
same_octets x y e = (bytes_eq-Decides x y).0 (sym (is_eq-slice_cmp x y) ∙ e)

abbrev AreSeen : List EmailComparator → List (Vec ℕ Global) → Type 0
AreSeen kept ks = AllByRecursion (λ (k : Vec ℕ Global). HasProperty k.items kept) ks

seen_more : (kept more : List EmailComparator) (ks : List (Vec ℕ Global)) → AreSeen kept ks → AreSeen (kept ++ more) ks
seen_more kept more [] all = tt
seen_more kept more (k ∷ ks) all = (has_more k.items kept more all.0, seen_more kept more ks all.1)

seen_put : (kept : List EmailComparator) (ks : List (Vec ℕ Global)) (k : Vec ℕ Global) → HasProperty k.items kept → AreSeen kept ks
    → AreSeen kept (insert_key (λ x y. slice_cmp nat_cmp x.items y.items) ks k)
seen_put kept [] k h all = (h, tt)
seen_put kept (x ∷ ks) k h all = by (slice_cmp nat_cmp k.items x.items) (seen_put kept ks k h all.1)
  where
    by : (o : Ordering) → AreSeen kept (insert_key (λ x y. slice_cmp nat_cmp x.items y.items) ks k)
        → AreSeen kept (match_ordering o (k ∷ x ∷ ks) (x ∷ ks) (x ∷ insert_key (λ x y. slice_cmp nat_cmp x.items y.items) ks k))
    by Less more = (h, all)
    by Equal more = all
    by Greater more = (all.0, more)

-- a key that is there is a property's
seen_there : (kept : List EmailComparator) (ks : List (Vec ℕ Global)) (k : Vec ℕ Global) → AreSeen kept ks
    → list_any (is_at (λ y. slice_cmp nat_cmp k.items y.items)) ks ≡ true → HasProperty k.items kept
seen_there kept [] k all e = absurd (let f : false ≡ true = e in cc)
seen_there kept (x ∷ ks) k all e = by (is_eq (slice_cmp nat_cmp k.items x.items)) refl e (seen_there kept ks k all.1)
  where
    by : (b : Bool) → is_eq (slice_cmp nat_cmp k.items x.items) ≡ b → (b || list_any (is_at (λ y. slice_cmp nat_cmp k.items y.items)) ks) ≡ true
        → (list_any (is_at (λ y. slice_cmp nat_cmp k.items y.items)) ks ≡ true → HasProperty k.items kept) → HasProperty k.items kept
    by true here f more = subst (λ (octets : List ℕ). HasProperty octets kept) (sym (same_octets k.items x.items here)) all.0
    by false here f more = more f

-- ---- one comparator more

module _ (kept : List (Bor EmailComparator)) (c : Bor EmailComparator) where
  abbrev shown : List (Bor EmailComparator) → List EmailComparator
  shown cs = map (λ (d : Bor EmailComparator). d.now) cs

  -- a new one is kept
  pub kept_same : (emails : List (ℕ × Email)) (rest : List EmailComparator) (a b : Email)
      → email_cmp emails (shown (kept ++ c ∷ []) ++ rest) a b ≡ email_cmp emails (shown kept ++ c.now ∷ rest) a b
  kept_same emails rest a b =
      ap (λ (cs : List EmailComparator). email_cmp emails cs a b)
      (ap (λ (cs : List EmailComparator). cs ++ rest) (map_push (λ (d : Bor EmailComparator). d.now) kept c) ∙ append_assoc (shown kept) (c.now ∷ []) rest)

  pub kept_seen : (ks : List (Vec ℕ Global)) (k : Vec ℕ Global) → k.items ≡ property_key c.now.property → AreSeen (shown kept) ks
      → AreSeen (shown (kept ++ c ∷ [])) (insert_key (λ x y. slice_cmp nat_cmp x.items y.items) ks k)
  kept_seen ks k is all =
      subst (λ (cs : List EmailComparator). AreSeen cs (insert_key (λ x y. slice_cmp nat_cmp x.items y.items) ks k)) (sym (map_push (λ (d : Bor EmailComparator). d.now) kept c))
      (seen_put (shown kept ++ c.now ∷ []) ks k (has_last k.items (shown kept) c.now (sym is)) (seen_more (shown kept) (c.now ∷ []) ks all))

  -- another is passed over
  pub left_same : (ks : List (Vec ℕ Global)) (k : Vec ℕ Global) → k.items ≡ property_key c.now.property → AreSeen (shown kept) ks
      → list_any (is_at (λ y. slice_cmp nat_cmp k.items y.items)) ks ≡ true
      → (emails : List (ℕ × Email)) (rest : List EmailComparator) (a b : Email) → email_cmp emails (shown kept ++ rest) a b ≡ email_cmp emails (shown kept ++ c.now ∷ rest) a b
  left_same ks k is all there emails rest a b =
      sym (passed_over emails a b (shown kept) rest c.now (subst (λ (octets : List ℕ). HasProperty octets (shown kept)) is (seen_there (shown kept) ks k all there)))

  pub left_seen : (ks : List (Vec ℕ Global)) (k : Vec ℕ Global) → AreSeen (shown kept) ks → list_any (is_at (λ y. slice_cmp nat_cmp k.items y.items)) ks ≡ true
      → AreSeen (shown kept) (insert_key (λ x y. slice_cmp nat_cmp x.items y.items) ks k)
  left_seen ks k all there = seen_put (shown kept) ks k (seen_there (shown kept) ks k all there) all

-- what isn't new is there
pub not_new : (new there : Bool) → new ≡ not there → new ≡ false → there ≡ true
not_new new true is old = refl
not_new new false is old = let e : true ≡ false = sym is ∙ old in cc

-- ---- Mailboxes

decides_alone : (o rest : Ordering) → (o ≡ Equal → rest ≡ Equal) → ordering_then o rest ≡ o
decides_alone Less rest tie = refl
decides_alone Equal rest tie = tie refl
decides_alone Greater rest tie = refl

module _ (a b : ServedMailbox) where
  ties_by : (s : MailboxSort) → text_cmp a.name b.name ≡ Equal → mailbox_cmp_by s a b ≡ Equal
  ties_by Name e = e
  ties_by SortOrder e = refl

  -- Mailboxes with one name are told apart by no comparator
  none_decides : (cs : List MailboxComparator) → text_cmp a.name b.name ≡ Equal → mailbox_cmp cs a b ≡ Equal
  none_decides [] e = refl
  none_decides (c ∷ cs) e =
      ap (λ (o : Ordering). ordering_then o (mailbox_cmp cs a b)) (either_way true c.is_ascending (mailbox_cmp_by c.property a b) (ties_by c.property e))
      ∙ none_decides cs e

  abbrev by_first : MailboxComparator → List MailboxComparator → MailboxSort → Ordering
  by_first c cs s = ordering_then (directed c.is_ascending (mailbox_cmp_by s a b)) (mailbox_cmp cs a b)

  name_decides : (c : MailboxComparator) (cs : List MailboxComparator) → c.property ≡ Name → directed c.is_ascending (text_cmp a.name b.name) ≡ mailbox_cmp (c ∷ cs) a b
  name_decides c cs is =
      sym (ap (by_first c cs) is
      ∙ decides_alone (directed c.is_ascending (text_cmp a.name b.name)) (mailbox_cmp cs a b)
      (λ e. none_decides cs (either_way c.is_ascending true (text_cmp a.name b.name) e)))

  sort_order_passed : (c : MailboxComparator) (cs : List MailboxComparator) → c.property ≡ SortOrder → mailbox_cmp cs a b ≡ mailbox_cmp (c ∷ cs) a b
  sort_order_passed c cs is =
      sym (ap (by_first c cs) is ∙ ap (λ (o : Ordering). ordering_then o (mailbox_cmp cs a b)) (either_way true c.is_ascending Equal refl))

  module _ (cs : List MailboxComparator) (i : ℕ) (d : MailboxComparator) (within : i < length cs) where
    from_here : mailbox_cmp (get_or cs i d ∷ drop (i + 1) cs) a b ≡ mailbox_cmp (drop i cs) a b
    from_here = sym (ap (λ (ds : List MailboxComparator). mailbox_cmp ds a b) (drop_more cs i d within))

    pub decided_here : (get_or cs i d).property ≡ Name → directed (get_or cs i d).is_ascending (text_cmp a.name b.name) ≡ mailbox_cmp (drop i cs) a b
    decided_here is = name_decides (get_or cs i d) (drop (i + 1) cs) is ∙ from_here

    pub passed_here : (get_or cs i d).property ≡ SortOrder → mailbox_cmp (drop (i + 1) cs) a b ≡ mailbox_cmp (drop i cs) a b
    passed_here is = sort_order_passed (get_or cs i d) (drop (i + 1) cs) is ∙ from_here
