-- Mailboxes whose counts are set in place are those that are counted, and touched where these are others.
use Rattle.std.proofs.Common.{◌≡◌, ℕ, ◌+◌, ◌<◌, List, [], ◌∷◌, ◌++◌, Bool, true, false, not, ◌&&◌, ◌||◌, cond, nat_eq, map, filter, drop, length, get_or, refl, sym, ap, ◌∙◌, subst}
use Rattle.std.proofs.Common.{nat_cmp, arith, add-one, suc, is_some, Option, Some, None, eqb-true}
use Rattle.std.specs.BTreeMap.{is_at}
use Rattle.std.specs.List.{list_any}
use Rattle.std.specs.List.Sorted.{IsStrictlySortedBy}
use Rattle.std.specs.Map.{keys_of}
use Rattle.std.specs.Option.{option_map}
use Rattle.std.proofs.Math.Seq.{drop-cons}
use Rattle.std.proofs.lemmas.Grind.{common_steps}
use Rattle.std.proofs.lemmas.List.{append-nil}
use Rattle.change_list.specs.Advance.{row_at, advance_entries, counts_if, differs, is_changed, is_gone}
use Rattle.change_list.specs.declared.entries.Entry.{Entry}
use Rattle.change_list.specs.declared.entries.Kind.TheVariants.{Added, Changed, Removed}
use Rattle.served_maps.specs.Past.{tests_of}
use Rattle.mail_maps.specs.declared.row.MailboxRow.{MailboxRow}
use Rattle.mail_maps.specs.declared.tally.FolderCounts.{FolderCounts}
use Rattle.mail_maps.specs.Serve.{ServedMailbox, counts_of, mailbox_of, mailbox_tests, same_but_counts, same_counts, same_mailbox}
use Rattle.mail_maps.proofs.ThreadLemmas.{sorted_same}
use Rattle.mail_rows.proofs.Exact.{exact_mailbox}
use Rattle.mail_rows.proofs.RowLemmas.{AllIn, all_in, found_is, is_here}
use Rattle.mail_state.specs.reading.Recounts.{with_counts, recounted, all_recounted, is_recounted, touch_of_counts, recounts, row_recounted, rows_recounted}

number_test : (k q : ℕ) → is_at (nat_cmp k) q ≡ nat_eq k q
number_test k q = grind (arith, common_steps)

turned_test : (k q : ℕ) → is_at (nat_cmp q) k ≡ nat_eq k q
turned_test k q = grind (arith, common_steps)

-- ---- one Mailbox

-- the Mailbox of the number is written
pub box_written : (boxes : ℕ → Option MailboxRow) (c : FolderCounts) (number : ℕ) (row : MailboxRow) (q : ℕ) (new : Option MailboxRow) → Some row ≡ boxes number
    → new ≡ cond (is_at (nat_cmp number) q) (Some (with_counts c row)) (boxes q) → new ≡ row_recounted c number q (boxes q)
box_written boxes c number row q new there put =
    put ∙ ap (λ (b : Bool). cond b (Some (with_counts c row)) (boxes q)) (number_test number q) ∙ by (nat_eq number q) refl
  where
    by : (b : Bool) → nat_eq number q ≡ b → cond b (Some (with_counts c row)) (boxes q) ≡ cond b (option_map (with_counts c) (boxes q)) (boxes q)
    by true same = ap (option_map (with_counts c)) (there ∙ ap boxes (eqb-true number q same))
    by false other = refl

-- there is no Mailbox of the number
pub box_absent : (boxes : ℕ → Option MailboxRow) (c : FolderCounts) (number q : ℕ) → None ≡ boxes number → boxes q ≡ row_recounted c number q (boxes q)
box_absent boxes c number q none = by (nat_eq number q) refl
  where
    by : (b : Bool) → nat_eq number q ≡ b → boxes q ≡ cond b (option_map (with_counts c) (boxes q)) (boxes q)
    by true same =
        let here : None ≡ boxes q = none ∙ ap boxes (eqb-true number q same) in
        sym here ∙ ap (option_map (with_counts c)) here
    by false other = refl

next_left : (es : List Entry) (i : ℕ) (e : Entry) → i < length es → e ≡ get_or es i e → drop i es ≡ e ∷ drop (i + 1) es
next_left es i e within is = rw add-one (drop-cons es i e within ∙ ap (λ (x : Entry). x ∷ drop (suc i) es) (sym is))

-- one touch more
pub box_taken : (F : ℕ → FolderCounts) (es : List Entry) (i : ℕ) (e : Entry) (q : ℕ) (c : FolderCounts) (old new r : Option MailboxRow) → i < length es → e ≡ get_or es i e
    → c ≡ F e.id → new ≡ row_recounted c e.id q old → rows_recounted F (drop i es) q old ≡ r → rows_recounted F (drop (i + 1) es) q new ≡ r
box_taken F es i e q c old new r within is told made all =
    ap (rows_recounted F (drop (i + 1) es) q) (made ∙ ap (λ (f : FolderCounts). row_recounted f e.id q old) told)
    ∙ sym (ap (λ (xs : List Entry). rows_recounted F xs q old) (next_left es i e within is)) ∙ all

-- ---- all Mailboxes

second : (a b : Bool) → (a || b) ≡ false → b ≡ false
second true b e = absurd (let f : true ≡ false = e in cc)
second false b e = e

either : {X : Type 0} (b : Bool) (x : X) → cond b x x ≡ x
either true x = refl
either false x = refl

module _ (F : ℕ → FolderCounts) (q : ℕ) where
  twice : (o : Option MailboxRow) → option_map (with_counts (F q)) (option_map (with_counts (F q)) o) ≡ option_map (with_counts (F q)) o
  twice None = refl
  twice (Some row) = refl

  -- the Mailbox gets its counts where one of the touches is its
  set_where : (es : List Entry) (o : Option MailboxRow)
      → rows_recounted F es q o ≡ cond (list_any (λ e. nat_eq e.id q) es) (option_map (with_counts (F q)) o) o
  set_where [] o = refl
  set_where (e ∷ es) o = by (nat_eq e.id q) refl (set_where es)
    where
      by : (b : Bool) → nat_eq e.id q ≡ b
          → ((p : Option MailboxRow) → rows_recounted F es q p ≡ cond (list_any (λ d. nat_eq d.id q) es) (option_map (with_counts (F q)) p) p)
          → rows_recounted F es q (cond b (option_map (with_counts (F e.id)) o) o)
          ≡ cond (b || list_any (λ d. nat_eq d.id q) es) (option_map (with_counts (F q)) o) o
      by true same later =
          ap (λ (k : ℕ). rows_recounted F es q (option_map (with_counts (F k)) o)) (eqb-true e.id q same)
          ∙ later (option_map (with_counts (F q)) o)
          ∙ elim (list_any (λ d. nat_eq d.id q) es) as (λ (b : Bool). cond b (option_map (with_counts (F q)) (option_map (with_counts (F q)) o)) (option_map (with_counts (F q)) o)
          ≡ option_map (with_counts (F q)) o) [ true ↦ twice o | false ↦ refl ]
      by false other later = later o

  -- what is found among all with their counts
  found_in : (boxes : List (ℕ × MailboxRow)) → row_at (all_recounted F boxes) q ≡ option_map (with_counts (F q)) (row_at boxes q)
  found_in [] = refl
  found_in (e ∷ es) = by (is_at (nat_cmp q) e.0) refl (found_in es)
    where
      by : (b : Bool) → is_at (nat_cmp q) e.0 ≡ b → row_at (all_recounted F es) q ≡ option_map (with_counts (F q)) (row_at es q)
          → cond b (Some (with_counts (F e.0) e.1)) (row_at (all_recounted F es) q) ≡ option_map (with_counts (F q)) (cond b (Some e.1) (row_at es q))
      by true here later = ap (λ (k : ℕ). Some (with_counts (F k) e.1)) (sym (found_is q e.0 here))
      by false other later = later

  -- the touches where the first Mailbox has its counts, or has others
  abbrev listed_where : Bool → ℕ × MailboxRow → List (ℕ × MailboxRow) → Bool
  listed_where same e es = list_any (λ d. nat_eq d.id q) (map touch_of_counts (cond (not same) (e ∷ filter (is_recounted F) es) (filter (is_recounted F) es)))

  own_counts : (e : ℕ × MailboxRow) (es : List (ℕ × MailboxRow)) (b : Bool) → listed_where b e es ≡ false → nat_eq e.0 q ≡ true → b ≡ true
  own_counts e es true none here = refl
  own_counts e es false none here =
      absurd (let f : true ≡ false = sym (ap (λ (t : Bool). t || list_any (λ d. nat_eq d.id q) (map touch_of_counts (filter (is_recounted F) es))) here) ∙ none in cc)

  none_later : (e : ℕ × MailboxRow) (es : List (ℕ × MailboxRow)) (b : Bool) → listed_where b e es ≡ false → list_any (λ d. nat_eq d.id q) (recounts F es) ≡ false
  none_later e es true none = none
  none_later e es false none = second (nat_eq e.0 q) (list_any (λ d. nat_eq d.id q) (recounts F es)) none

  -- a Mailbox that isn't touched has its counts
  untouched : (boxes : List (ℕ × MailboxRow)) (row : MailboxRow) → row_at boxes q ≡ Some row → list_any (λ e. nat_eq e.id q) (recounts F boxes) ≡ false
      → same_counts (counts_of row) (F q) ≡ true
  untouched [] row there none = absurd (let f : None ≡ Some row = there in cc)
  untouched (e ∷ es) row there none =
      at (is_at (nat_cmp q) e.0) refl there (λ found. untouched es row found (none_later e es (same_counts (counts_of e.1) (F e.0)) none))
    where
      at : (b : Bool) → is_at (nat_cmp q) e.0 ≡ b → cond b (Some e.1) (row_at es q) ≡ Some row → (row_at es q ≡ Some row → same_counts (counts_of row) (F q) ≡ true)
          → same_counts (counts_of row) (F q) ≡ true
      at true here f later =
          let row_is : e.1 ≡ row = let g : Some e.1 ≡ Some row = f in cc in
          ap (λ (r : MailboxRow). same_counts (counts_of r) (F q)) (sym row_is) ∙ ap (λ (k : ℕ). same_counts (counts_of e.1) (F k)) (found_is q e.0 here)
          ∙ own_counts e es (same_counts (counts_of e.1) (F e.0)) none (sym (turned_test e.0 q) ∙ here)
      at false other f later = later f

both : (a b : Bool) → (a && b) ≡ true → (a ≡ true) × (b ≡ true)
both true b e = (refl, e)
both false b e = absurd (let f : false ≡ true = e in cc)

-- a Mailbox that has the counts stays as it is with them
same_row : (c : FolderCounts) (row : MailboxRow) → same_counts (counts_of row) c ≡ true → with_counts c row ≡ row
same_row c row same =
    let a = both (nat_eq row.total_emails c.total_emails) _ same in
    let b = both (nat_eq row.unread_emails c.unread_emails) _ a.1 in
    let d = both (nat_eq row.total_threads c.total_threads) (nat_eq row.unread_threads c.unread_threads) b.1 in
    sym (ap (λ (n : ℕ). record row { total_emails = n }) (eqb-true row.total_emails c.total_emails a.0)
    ∙ ap (λ (n : ℕ). record row { total_emails = c.total_emails; unread_emails = n }) (eqb-true row.unread_emails c.unread_emails b.0)
    ∙ ap (λ (n : ℕ). record row { total_emails = c.total_emails; unread_emails = c.unread_emails; total_threads = n }) (eqb-true row.total_threads c.total_threads d.0)
    ∙ ap (λ (n : ℕ). record row {
      total_emails = c.total_emails;
      unread_emails = c.unread_emails;
      total_threads = c.total_threads;
      unread_threads = n;
    }) (eqb-true row.unread_threads c.unread_threads d.1))

-- where the touches set the counts, each Mailbox has its own
set_at : (F : ℕ → FolderCounts) (boxes : List (ℕ × MailboxRow)) (q : ℕ) → rows_recounted F (recounts F boxes) q (row_at boxes q) ≡ row_at (all_recounted F boxes) q
set_at F boxes q = set_where F q (recounts F boxes) (row_at boxes q) ∙ by (row_at boxes q) refl ∙ sym (found_in F q boxes)
  where
    kept : (row : MailboxRow) → row_at boxes q ≡ Some row → (b : Bool) → list_any (λ e. nat_eq e.id q) (recounts F boxes) ≡ b
        → cond b (Some (with_counts (F q) row)) (Some row) ≡ Some (with_counts (F q) row)
    kept row there true is = refl
    kept row there false is = ap (λ (r : MailboxRow). Some r) (sym (same_row (F q) row (untouched F q boxes row there is)))

    by : (o : Option MailboxRow) → row_at boxes q ≡ o
        → cond (list_any (λ e. nat_eq e.id q) (recounts F boxes)) (option_map (with_counts (F q)) o) o ≡ option_map (with_counts (F q)) o
    by None is = either (list_any (λ e. nat_eq e.id q) (recounts F boxes)) None
    by (Some row) is = kept row is (list_any (λ e. nat_eq e.id q) (recounts F boxes)) refl

keys_recounted : (F : ℕ → FolderCounts) (boxes : List (ℕ × MailboxRow)) → keys_of (all_recounted F boxes) ≡ keys_of boxes
keys_recounted F [] = refl
keys_recounted F (e ∷ es) = ap (λ (ks : List ℕ). e.0 ∷ ks) (keys_recounted F es)

-- Mailboxes that are found with their counts set are all of them, counted
pub boxes_set : (F : ℕ → FolderCounts) (old new : List (ℕ × MailboxRow)) → IsStrictlySortedBy nat_cmp (keys_of old) → IsStrictlySortedBy nat_cmp (keys_of new)
    → ((q : ℕ) → row_at new q ≡ rows_recounted F (recounts F old) q (row_at old q)) → new ≡ all_recounted F old
boxes_set F old new before after set =
    let S : List ℕ → Type 0 = λ ks. IsStrictlySortedBy nat_cmp ks in
    sorted_same new (all_recounted F old) after (subst S (sym (keys_recounted F old)) before) (λ q. set q ∙ set_at F old q)

-- Mailboxes that are counted alike are the same
pub counted_alike : (F G : ℕ → FolderCounts) → ((f : ℕ) → F f ≡ G f) → (boxes : List (ℕ × MailboxRow)) → all_recounted F boxes ≡ all_recounted G boxes
counted_alike F G same [] = refl
counted_alike F G same (e ∷ es) =
    ap (λ (c : FolderCounts). (e.0, with_counts c e.1) ∷ all_recounted F es) (same e.0)
    ∙ ap (λ (rest : List (ℕ × MailboxRow)). recounted G e ∷ rest) (counted_alike F G same es)

-- ---- touches

alike : (v : ServedMailbox) → same_but_counts v v ≡ true
alike v = (both (same_but_counts v v) (same_counts v.counts v.counts) ((exact_mailbox v v).1 refl)).0

abbrev changed_as : ℕ → Bool → Entry
changed_as number counts = record { id = number; kind = Changed; counts_only = counts }

abbrev but_counts : MailboxRow → MailboxRow → Bool
but_counts x y = same_but_counts (mailbox_of x) (mailbox_of y)

abbrev served_same : MailboxRow → MailboxRow → Bool
served_same x y = same_mailbox (mailbox_of x) (mailbox_of y)

module _ (F : ℕ → FolderCounts) (old : List (ℕ × MailboxRow)) where
  none_gone : (es : List (ℕ × MailboxRow)) → AllIn old es → filter (is_gone (all_recounted F old)) es ≡ []
  none_gone [] a = refl
  none_gone (e ∷ es) a =
      let rest : List (ℕ × MailboxRow) = filter (is_gone (all_recounted F old)) es in
      ap (λ (o : Option MailboxRow). cond (not (is_some o)) (e ∷ rest) rest) (found_in F e.0 old ∙ ap (option_map (with_counts (F e.0))) a.0) ∙ none_gone es a.1

  none_new : (es : List (ℕ × MailboxRow)) → AllIn old es → filter (is_gone old) (all_recounted F es) ≡ []
  none_new [] a = refl
  none_new (e ∷ es) a =
      let rest : List (ℕ × MailboxRow) = filter (is_gone old) (all_recounted F es) in
      ap (λ (o : Option MailboxRow). cond (not (is_some o)) (recounted F e ∷ rest) rest) a.0 ∙ none_new es a.1

  abbrev change_to : ℕ × MailboxRow → Entry
  change_to e = changed_as e.0 (counts_if but_counts (row_at old e.0) e.1)

  touch_is : (e : ℕ × MailboxRow) → row_at old e.0 ≡ Some e.1 → change_to (recounted F e) ≡ touch_of_counts e
  touch_is e there =
      ap (λ (o : Option MailboxRow). changed_as e.0 (counts_if but_counts o (with_counts (F e.0) e.1))) there ∙ ap (changed_as e.0) (alike (mailbox_of e.1))

  changes_are : (es : List (ℕ × MailboxRow)) → AllIn old es → map change_to (filter (is_changed served_same old) (all_recounted F es)) ≡ recounts F es
  changes_are [] a = refl
  changes_are (e ∷ es) a =
      let rest : List (ℕ × MailboxRow) = filter (is_changed served_same old) (all_recounted F es) in
      let own : Bool = same_counts (counts_of e.1) (F e.0) in
      ap (λ (o : Option MailboxRow). map change_to (cond (differs served_same o (with_counts (F e.0) e.1)) (recounted F e ∷ rest) rest)) a.0
      ∙ ap (λ (b : Bool). map change_to (cond (not (b && own)) (recounted F e ∷ rest) rest)) (alike (mailbox_of e.1))
      ∙ elim own as (λ (b : Bool). map change_to (cond (not b) (recounted F e ∷ rest) rest)
      ≡ map touch_of_counts (cond (not b) (e ∷ filter (is_recounted F) es) (filter (is_recounted F) es))) [
        | true ↦ changes_are es a.1
        | false ↦ ap (λ (t : Entry). t ∷ map change_to rest) (touch_is e a.0) ∙ ap (λ (ts : List Entry). touch_of_counts e ∷ ts) (changes_are es a.1)
      ]

  -- the touches to the Mailboxes that are counted are those of the ones that have other counts
  pub touches_are : AllIn old old → recounts F old ≡ advance_entries (tests_of mailbox_of mailbox_tests) old (all_recounted F old)
  touches_are a =
      let removal : ℕ × MailboxRow → Entry = λ e. record { id = e.0; kind = Removed; counts_only = false } in
      let addition : ℕ × MailboxRow → Entry = λ e. record { id = e.0; kind = Added; counts_only = false } in
      let changes : List Entry = map change_to (filter (is_changed served_same old) (all_recounted F old)) in
      sym (ap (λ (xs : List (ℕ × MailboxRow)). map removal xs ++ (changes ++ map addition (filter (is_gone old) (all_recounted F old)))) (none_gone old a)
      ∙ ap (λ (xs : List (ℕ × MailboxRow)). changes ++ map addition xs) (none_new old a)
      ∙ append-nil changes ∙ changes_are old a)

-- the same, where the Mailboxes are found with their counts set
pub touches_to : (F : ℕ → FolderCounts) (old new : List (ℕ × MailboxRow)) (touches : List Entry) → IsStrictlySortedBy nat_cmp (keys_of old) → touches ≡ recounts F old
    → new ≡ all_recounted F old → touches ≡ advance_entries (tests_of mailbox_of mailbox_tests) old new
touches_to F old new touches sorted told are =
    told ∙ touches_are F old (all_in old sorted) ∙ ap (advance_entries (tests_of mailbox_of mailbox_tests) old) (sym are)
