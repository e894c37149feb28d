-- The touches of a step are those of what goes, what is changed and what is added.
use Rattle.std.proofs.Common.{◌≡◌, ℕ, ◌<◌, List, [], ◌∷◌, ◌++◌, Bool, true, false, not, ◌&&◌, ◌||◌, cond, nat_eq, map, filter, refl, sym, ap, ◌∙◌, nat_cmp, is_some, Option, Some}
use Rattle.std.proofs.Common.{None}
use Rattle.std.specs.declared.cmp.Ordering.TheVariants.{Less}
use Rattle.std.specs.Option.{option_map, option_or}
use Rattle.std.specs.List.Sorted.{IsStrictlySortedBy}
use Rattle.std.specs.Map.{keys_of}
use Rattle.std.specs.BTreeMap.{is_at}
use Rattle.std.proofs.lemmas.Map.Keys.{sorted_head, sorted_tail}
use Rattle.change_list.specs.Advance.{Tests, row_at, is_gone, is_changed, differs, counts_if}
use Rattle.change_list.specs.declared.entries.Entry.{Entry}
use Rattle.change_list.specs.declared.entries.Kind.TheVariants.{Added, Changed, Removed}
use Rattle.served_maps.specs.Past.{tests_of}
use Rattle.told_folder.specs.declared.message.NumberedFolder.{NumberedFolder}
use Rattle.mail_maps.specs.declared.row.EmailRow.{EmailRow}
use Rattle.mail_maps.specs.Rows.{Rows}
use Rattle.mail_maps.specs.Keywords.{keywords_of}
use Rattle.mail_maps.specs.Serve.{email_of, immutable_of, same_email, same_names, email_tests}
use Rattle.mail_maps.specs.Visible.{Placed, shown}
use Rattle.mail_rows.specs.Remaining.{updated, remaining_row, put_remaining, remaining}
use Rattle.mail_rows.specs.RowTouches.{email_touches}
use Rattle.mail_rows.specs.reading.RowPass.{is_moved, touch_of_change, touch_of_addition, touch_of_removal, gone_of, change_where, changes_where, is_hidden, gone_in, changes_in}
use Rattle.mail_rows.proofs.Exact.{immutable}
use Rattle.mail_rows.proofs.PassLemmas.{all_remaining}
use Rattle.mail_rows.proofs.RowLemmas.{found_is, Under, From, AllIn, all_in, none_above, none_over, none_before, row_at-append}

abbrev tests : Tests EmailRow
tests = tests_of email_of email_tests

-- ---- a change

not_both : (a b : Bool) → not (a && b) ≡ (not a || not b)
not_both true b = refl
not_both false b = refl

-- a row that remains differs in folder or keywords alone
moved_is : (r : EmailRow) (p : Placed) → not (same_email (email_of r) (email_of (updated r p))) ≡ is_moved r p
moved_is r p =
    ap (λ (b : Bool). not (b && (nat_eq r.folder p.folder && same_names r.keywords (keywords_of p.message.flags)))) ((immutable (immutable_of r) (immutable_of r)).1 refl)
    ∙ not_both (nat_eq r.folder p.folder) (same_names r.keywords (keywords_of p.message.flags))

-- counts are none of an Email's
no_counts : (o : Option EmailRow) (v : EmailRow) → counts_if tests.counts o v ≡ false
no_counts None v = refl
no_counts (Some u) v = refl

abbrev change_to : Rows → ℕ × EmailRow → Entry
change_to old e = record { id = e.0; kind = Changed; counts_only = counts_if tests.counts (row_at old e.0) e.1 }

change_is : (old : Rows) (e : ℕ × EmailRow) → change_to old e ≡ touch_of_change e.0
change_is old e = ap (λ (b : Bool). record { id = e.0; kind = Changed; counts_only = b }) (no_counts (row_at old e.0) e.1)

-- these rows are new
abbrev pub NewIn : Rows → Rows → Type 0
NewIn old [] = Unit {0}
NewIn old (e ∷ es) = (row_at old e.0 ≡ None) × NewIn old es

-- rows from a number on are new where all are under it
pub new_in : (old : Rows) (k : ℕ) (es : Rows) → Under k old → From k es → NewIn old es
new_in old k [] u f = tt
new_in old k (e ∷ es) u f = (none_over k e.0 old u f.0, new_in old k es u f.1)

none_changed : (old es : Rows) → NewIn old es → map (change_to old) (filter (is_changed tests.same old) es) ≡ []
none_changed old [] n = refl
none_changed old (e ∷ es) n =
    ap (λ (o : Option EmailRow). map (change_to old) (cond (differs tests.same o e.1) (e ∷ filter (is_changed tests.same old) es) (filter (is_changed tests.same old) es))) n.0
    ∙ none_changed old es n.1

module _ (hs : List NumberedFolder) (old more : Rows) where
  changes_are : NewIn old more → (es : Rows) → AllIn old es → map (change_to old) (filter (is_changed tests.same old) (remaining hs es ++ more)) ≡ changes_in hs es
  changes_are new [] found = none_changed old more new
  changes_are new (e ∷ es) found = by (shown hs e.1.mark) (changes_are new es found.1)
    where
      by : (w : Option Placed) → map (change_to old) (filter (is_changed tests.same old) (remaining hs es ++ more)) ≡ changes_in hs es
          → map (change_to old) (filter (is_changed tests.same old) (put_remaining e.0 (option_map (updated e.1) w) (remaining hs es) ++ more)) ≡ changes_where w e
          ++ changes_in hs es
      by None rest = rest
      by (Some p) rest =
          let row : ℕ × EmailRow = (e.0, updated e.1 p) in
          let later : Rows = filter (is_changed tests.same old) (remaining hs es ++ more) in
          let test : differs tests.same (row_at old e.0) (updated e.1 p) ≡ is_moved e.1 p = ap (λ (o : Option EmailRow). differs tests.same o (updated e.1 p)) found.0
          ∙ moved_is e.1 p in
          ap (λ (b : Bool). map (change_to old) (cond b (row ∷ later) later)) test
          ∙ elim (is_moved e.1 p) as (λ (b : Bool). map (change_to old) (cond b (row ∷ later) later) ≡ change_where b e.0 ++ changes_in hs es) [
            | true ↦ ap (λ (x : Entry). x ∷ map (change_to old) later) (change_is old row) ∙ ap (λ (xs : List Entry). touch_of_change e.0 ∷ xs) rest
            | false ↦ rest
          ]

-- ---- an addition

abbrev addition_of : ℕ × EmailRow → Entry
addition_of e = record { id = e.0; kind = Added; counts_only = false }

all_added : (old es : Rows) → NewIn old es → map addition_of (filter (is_gone old) es) ≡ map touch_of_addition (keys_of es)
all_added old [] n = refl
all_added old (e ∷ es) n =
    ap (λ (o : Option EmailRow). map addition_of (cond (not (is_some o)) (e ∷ filter (is_gone old) es) (filter (is_gone old) es))) n.0
    ∙ ap (λ (xs : List Entry). touch_of_addition e.0 ∷ xs) (all_added old es n.1)

module _ (hs : List NumberedFolder) (old more : Rows) where
  additions_are : NewIn old more → (es : Rows) → AllIn old es → map addition_of (filter (is_gone old) (remaining hs es ++ more)) ≡ map touch_of_addition (keys_of more)
  additions_are new [] found = all_added old more new
  additions_are new (e ∷ es) found = by (shown hs e.1.mark) (additions_are new es found.1)
    where
      by : (w : Option Placed) → map addition_of (filter (is_gone old) (remaining hs es ++ more)) ≡ map touch_of_addition (keys_of more)
          → map addition_of (filter (is_gone old) (put_remaining e.0 (option_map (updated e.1) w) (remaining hs es) ++ more)) ≡ map touch_of_addition (keys_of more)
      by None rest = rest
      by (Some p) rest =
          let row : ℕ × EmailRow = (e.0, updated e.1 p) in
          let later : Rows = filter (is_gone old) (remaining hs es ++ more) in
          ap (λ (o : Option EmailRow). map addition_of (cond (not (is_some o)) (row ∷ later) later)) found.0 ∙ rest

-- ---- a removal

abbrev pub remaining_if : List NumberedFolder → Option EmailRow → Option EmailRow
remaining_if hs None = None
remaining_if hs (Some row) = remaining_row hs row

-- what remains of the row of a number
pub remaining_at : (hs : List NumberedFolder) (es : Rows) → IsStrictlySortedBy nat_cmp (keys_of es) → (q : ℕ) → row_at (remaining hs es) q ≡ remaining_if hs (row_at es q)
remaining_at hs [] sorted q = refl
remaining_at hs (e ∷ es) sorted q = by (is_at (nat_cmp q) e.0) refl (shown hs e.1.mark) refl (remaining_at hs es (sorted_tail nat_cmp e.0 (keys_of es) sorted) q)
  where
    none : q ≡ e.0 → row_at (remaining hs es) q ≡ None
    none same = ap (row_at (remaining hs es)) same ∙ none_above e.0 (remaining hs es)
        (all_remaining hs (λ y. nat_cmp e.0 y ≡ Less) es (sorted_head nat_cmp e.0 (keys_of es) sorted))

    by : (b : Bool) → is_at (nat_cmp q) e.0 ≡ b → (w : Option Placed) → shown hs e.1.mark ≡ w → row_at (remaining hs es) q ≡ remaining_if hs (row_at es q)
        → row_at (put_remaining e.0 (option_map (updated e.1) (shown hs e.1.mark)) (remaining hs es)) q ≡ remaining_if hs (cond (is_at (nat_cmp q) e.0) (Some e.1) (row_at es q))
    by true here None is rest =
        ap (λ (o : Option Placed). row_at (put_remaining e.0 (option_map (updated e.1) o) (remaining hs es)) q) is ∙ none (found_is q e.0 here)
        ∙ sym (ap (λ (b : Bool). remaining_if hs (cond b (Some e.1) (row_at es q))) here ∙ ap (option_map (updated e.1)) is)
    by true here (Some p) is rest =
        ap (λ (o : Option Placed). row_at (put_remaining e.0 (option_map (updated e.1) o) (remaining hs es)) q) is
        ∙ ap (λ (b : Bool). cond b (Some (updated e.1 p)) (row_at (remaining hs es) q)) here
        ∙ sym (ap (λ (b : Bool). remaining_if hs (cond b (Some e.1) (row_at es q))) here ∙ ap (option_map (updated e.1)) is)
    by false other None is rest =
        ap (λ (o : Option Placed). row_at (put_remaining e.0 (option_map (updated e.1) o) (remaining hs es)) q) is ∙ rest
        ∙ sym (ap (λ (b : Bool). remaining_if hs (cond b (Some e.1) (row_at es q))) other)
    by false other (Some p) is rest =
        ap (λ (o : Option Placed). row_at (put_remaining e.0 (option_map (updated e.1) o) (remaining hs es)) q) is
        ∙ ap (λ (b : Bool). cond b (Some (updated e.1 p)) (row_at (remaining hs es) q)) other ∙ rest
        ∙ sym (ap (λ (b : Bool). remaining_if hs (cond b (Some e.1) (row_at es q))) other)

-- an option or none is the option
pub or_none : {A : Type 0} (o : Option A) → option_or o None ≡ o
or_none None = refl
or_none (Some x) = refl

some_mapped : (f : Placed → EmailRow) (o : Option Placed) → is_some (option_map f o) ≡ is_some o
some_mapped f None = refl
some_mapped f (Some p) = refl

abbrev removal_of : ℕ × EmailRow → Entry
removal_of e = record { id = e.0; kind = Removed; counts_only = false }

module _ (hs : List NumberedFolder) (old more : Rows) (k : ℕ) where
  still_there : IsStrictlySortedBy nat_cmp (keys_of old) → From k more → (e : ℕ × EmailRow) → row_at old e.0 ≡ Some e.1 → e.0 < k
      → is_some (row_at (remaining hs old ++ more) e.0) ≡ is_some (shown hs e.1.mark)
  still_there sorted from e found under =
      ap is_some (row_at-append (remaining hs old) more e.0
      ∙ ap (option_or (row_at (remaining hs old) e.0)) (none_before k e.0 more from under) ∙ or_none (row_at (remaining hs old) e.0)
      ∙ remaining_at hs old sorted e.0 ∙ ap (remaining_if hs) found)
      ∙ some_mapped (updated e.1) (shown hs e.1.mark)

  removals_are : IsStrictlySortedBy nat_cmp (keys_of old) → From k more → (es : Rows) → AllIn old es → Under k es
      → map removal_of (filter (is_gone (remaining hs old ++ more)) es) ≡ map touch_of_removal (gone_in hs es)
  removals_are sorted from [] found under = refl
  removals_are sorted from (e ∷ es) found under =
      let later : Rows = filter (is_gone (remaining hs old ++ more)) es in
      let rest : map removal_of later ≡ map touch_of_removal (gone_in hs es) = removals_are sorted from es found.1 under.1 in
      ap (λ (b : Bool). map removal_of (cond (not b) (e ∷ later) later)) (still_there sorted from e found.0 under.0)
      ∙ elim (is_some (shown hs e.1.mark)) as (λ (b : Bool). map removal_of (cond (not b) (e ∷ later) later)
      ≡ map touch_of_removal (map gone_of (cond (not b) (e ∷ filter (is_hidden hs) es) (filter (is_hidden hs) es)))) [
        | true ↦ rest
        | false ↦ ap (λ (xs : List Entry). removal_of e ∷ xs) rest
      ]

-- ---- all of them

-- the touches of what goes, what is changed and what is added are those of the step
pub touches_are : (hs : List NumberedFolder) (old more : Rows) (k : ℕ) → IsStrictlySortedBy nat_cmp (keys_of old) → Under k old → From k more
    → email_touches old (remaining hs old ++ more) ≡ map touch_of_removal (gone_in hs old) ++ (changes_in hs old ++ map touch_of_addition (keys_of more))
touches_are hs old more k sorted under from =
    let found : AllIn old old = all_in old sorted in
    let new : NewIn old more = new_in old k more under from in
    let joined : (a a' b b' d d' : List Entry) → a ≡ a' → b ≡ b' → d ≡ d' → a ++ (b ++ d) ≡ a' ++ (b' ++ d') =
    λ a a' b b' d d' p q r. ap (λ (xs : List Entry). xs ++ (b ++ d)) p ∙ ap (λ (xs : List Entry). a' ++ (xs ++ d)) q ∙ ap (λ (xs : List Entry). a' ++ (b' ++ xs)) r in
    joined _ _ _ _ _ _ (removals_are hs old more k sorted from old found under) (changes_are hs old more new old found) (additions_are hs old more new old found)
