-- Emails as mail changes: their numbers ascend, what is new has a new number, and what remains is the same Email.
use Rattle.std.proofs.Common.{◌≡◌, ◌≢◌, ◌⊎◌, inl, inr, ℕ, ◌+◌, ◌<◌, ◌≤◌, List, [], ◌∷◌, ◌++◌, refl, sym, ap, ◌∙◌, subst, arith, nat_cmp, length, Option, Some, None, map}
use Rattle.std.specs.Option.{option_map, option_or}
use Rattle.std.specs.List.Sorted.{IsStrictlySortedBy}
use Rattle.std.specs.Map.{keys_of}
use Rattle.std.proofs.lemmas.Map.Made.{keys_of-map_values}
use Rattle.std.proofs.Common.{length-append}
use Rattle.std.proofs.lemmas.List.{length-map}
use Rattle.change_list.specs.Advance.{row_at, AreRows, advance_entries}
use Rattle.change_list.specs.declared.entries.Entry.{Entry}
use Rattle.served_maps.specs.Past.{Past, served, tests_of, had_at, has_now, place_now, gone_on, AreFresh, IsEverBelow}
use Rattle.served_maps.proofs.StandsOn.{row_at-served, entries_served, rises}
use Rattle.served_maps.proofs.Between.{same_part}
use Rattle.told_folder.specs.declared.message.NumberedFolder.{NumberedFolder}
use Rattle.told_folder.proofs.KeyedLemmas.{lt_same_gt}
use Rattle.told_mail.specs.Mail.{Mail}
use Rattle.mail_maps.specs.declared.row.EmailRow.{EmailRow}
use Rattle.mail_maps.specs.declared.envelope.Envelope.{Envelope}
use Rattle.mail_maps.specs.Rows.{Rows}
use Rattle.mail_maps.specs.Serve.{Immutable, Email, email_of, immutable_of, email_tests}
use Rattle.mail_maps.specs.Visible.{Placed, shown}
use Rattle.mail_rows.specs.NumberedRows.{NumberedRows}
use Rattle.mail_rows.specs.Remaining.{updated, remaining}
use Rattle.mail_rows.specs.Taking.{TakesMail, taken, left, arrivals, with_row, with_rows, new_row}
use Rattle.mail_rows.specs.RowTouches.{email_touches}
use Rattle.mail_rows.specs.reading.RowPass.{touch_of_addition, touch_of_removal, gone_in, changes_in}
use Rattle.mail_rows.proofs.RowLemmas.{Under, From, none_before, row_at-append, rows_sorted, all_in, sorted_last, under_more, under_from, found_under}
use Rattle.mail_rows.proofs.PassLemmas.{sorted_remaining}
use Rattle.mail_rows.proofs.IndexLemmas.{under_remaining}
use Rattle.mail_rows.proofs.TakingLemmas.{added, rows_added, next_added, from_added}
use Rattle.mail_rows.proofs.TouchLemmas.{remaining_if, remaining_at, or_none, touches_are}
use Rattle.mail_state.specs.History.{MailHistory, advanced, served_emails}
use Rattle.mail_state.specs.Sound.{IsSound, KeepsImmutable}

-- ---- rows in order

pub record InOrder (n : NumberedRows) : Type 0 where
  pub sorted : IsStrictlySortedBy nat_cmp (keys_of n.rows)
  pub under : Under n.next n.rows

-- the rows of a sound history are in order
pub in_order : (h : MailHistory) → IsSound h → InOrder h.numbered
in_order h sound =
    let rows = h.numbered.rows in
    record {
      sorted = sound.ascending;
      under = under_from h.numbered.next rows rows (all_in rows sound.ascending)
          (λ q some. sound.emails_below (place_now h.emails) q (λ e. some (was_none (row_at rows q)
          (sym (row_at-served email_of rows q) ∙ ap (λ (x : List (ℕ × Email)). row_at x q) (sym sound.emails_now) ∙ sound.emails.last q ∙ e))));
    }
  where
    was_none : (o : Option EmailRow) → option_map email_of o ≡ None → o ≡ None
    was_none None e = refl
    was_none (Some r) e = absurd (let f : Some (email_of r) ≡ None = e in cc)

all_in_order : (n : NumberedRows) (ps : List Placed) (es : List Envelope) → InOrder n → InOrder (with_rows n ps es)
all_in_order n [] es o = o
all_in_order n (p ∷ ps) [] o = o
all_in_order n (p ∷ ps) (e ∷ es) o =
    all_in_order (with_row n p e) ps es (record { sorted = sorted_last n.rows n.next (new_row n p e) o.sorted o.under; under = under_more n.rows n.next (new_row n p e) o.under })

left_in_order : (n : NumberedRows) (hs : List NumberedFolder) → InOrder n → InOrder (left n hs)
left_in_order n hs o = record { sorted = sorted_remaining hs n.rows o.sorted; under = under_remaining hs n.next n.rows o.under }

-- so are the rows that come of some mail
pub taken_in_order : (n : NumberedRows) (hs : List NumberedFolder) (after : NumberedRows) → InOrder n → TakesMail n hs after → InOrder after
taken_in_order n hs after o takes =
    let P : NumberedRows → Type 0 = λ x. InOrder x in
    subst P (sym takes.after_is) (all_in_order (left n hs) (arrivals n hs) takes.envelopes (left_in_order n hs o))

-- rows by ascending number have one row a number, as they are served too
pub served_rows : {R V : Type 0} (serve : R → V) (es : List (ℕ × R)) → IsStrictlySortedBy nat_cmp (keys_of es) → AreRows (served serve es)
served_rows serve es h = let S : List ℕ → Type 0 = λ ks. IsStrictlySortedBy nat_cmp ks in rows_sorted (served serve es) (subst S (sym (keys_of-map_values serve es)) h)

-- ---- what is found below the next number

-- below the next number nothing new comes: what is found there is what remains of what was
pub taken_at : (n : NumberedRows) (hs : List NumberedFolder) (after : NumberedRows) → InOrder n → TakesMail n hs after → (q : ℕ) → q < n.next
    → row_at after.rows q ≡ remaining_if hs (row_at n.rows q)
taken_at n hs after o takes q under =
    let more : Rows = added (left n hs) (arrivals n hs) takes.envelopes in
    ap (λ (x : NumberedRows). row_at x.rows q) takes.after_is
    ∙ ap (λ (rows : Rows). row_at rows q) (rows_added (left n hs) (arrivals n hs) takes.envelopes)
    ∙ row_at-append (remaining hs n.rows) more q
    ∙ ap (option_or (row_at (remaining hs n.rows) q)) (none_before n.next q more (from_added (left n hs) (arrivals n hs) takes.envelopes) under)
    ∙ or_none (row_at (remaining hs n.rows) q)
    ∙ remaining_at hs n.rows o.sorted q

-- the next number does not fall
pub next_rises : (n : NumberedRows) (hs : List NumberedFolder) (after : NumberedRows) → TakesMail n hs after → n.next ≤ after.next
next_rises n hs after takes =
    let k : after.next ≡ n.next + length (added (left n hs) (arrivals n hs) takes.envelopes) =
    ap (λ (x : NumberedRows). x.next) takes.after_is ∙ next_added (left n hs) (arrivals n hs) takes.envelopes in
    omega (arith, k)

-- ---- new numbers

-- a number that is not below the next one was never there
pub never_there : {V : Type 0} (p : Past V) (next q place : ℕ) → IsEverBelow p next → next ≤ q → had_at p place q ≡ None
never_there {V} p next q place below over =
    elim (had_at p place q) as (λ (o : Option V). had_at p place q ≡ o → o ≡ None) [
      | None ↦ λ is. refl
      | Some v ↦ λ is. absurd (let k : q < next = below place q (λ is_none. let f : Some v ≡ None = sym is ∙ is_none in cc) in omega (arith, k, over))
    ] refl

-- a number is below another one, or is not
pub under_or_over : (q k : ℕ) → (q < k) ⊎ (k ≤ q)
under_or_over q k = elim (lt_same_gt q k) [ inl l ↦ inl l | inr r ↦ elim r [ inl g ↦ inr (omega (arith, g)) | inr e ↦ inr (omega (arith, e)) ] ]

was_row : (rows : Rows) (q : ℕ) → row_at (served_emails rows) q ≡ None → row_at rows q ≡ None
was_row rows q e = by (row_at rows q) (sym (row_at-served email_of rows q) ∙ e)
  where
    by : (o : Option EmailRow) → option_map email_of o ≡ None → o ≡ None
    by None f = refl
    by (Some r) f = absurd (let g : Some (email_of r) ≡ None = f in cc)

-- an advance brings back no Email that is gone
pub emails_are_fresh : (h : MailHistory) (hs : List NumberedFolder) (n : NumberedRows) → IsSound h → TakesMail h.numbered hs n → AreFresh h.emails (served_emails n.rows)
emails_are_fresh h hs n sound takes q place gone comes = by (under_or_over q h.numbered.next)
  where
    by : (q < h.numbered.next) ⊎ (h.numbered.next ≤ q) → had_at h.emails place q ≡ None
    by (inr over) = never_there h.emails h.numbered.next q place sound.emails_below over
    by (inl under) =
        let old : row_at h.numbered.rows q ≡ None = was_row h.numbered.rows q (ap (λ (x : List (ℕ × Email)). row_at x q) (sym sound.emails_now) ∙ gone) in
        let now : row_at n.rows q ≡ None = taken_at h.numbered hs n (in_order h sound) takes q under ∙ ap (remaining_if hs) old in
        absurd (comes (row_at-served email_of n.rows q ∙ ap (option_map email_of) now))

-- ---- the same Email for good

same_immutable_part : (hs : List NumberedFolder) (o : Option EmailRow) (w : Option EmailRow) (u v : Email) → w ≡ remaining_if hs o → option_map email_of o ≡ Some u
    → option_map email_of w ≡ Some v → u.immutable ≡ v.immutable
same_immutable_part hs None w u v is f g = absurd (let k : None ≡ Some u = f in cc)
same_immutable_part hs (Some r) w u v is f g = by (shown hs r.mark) (sym (ap (option_map email_of) is) ∙ g)
  where
    first : email_of r ≡ u
    first = let k : Some (email_of r) ≡ Some u = f in cc

    by : (s : Option Placed) → option_map email_of (option_map (updated r) s) ≡ Some v → u.immutable ≡ v.immutable
    by None k = absurd (let z : None ≡ Some v = k in cc)
    by (Some p) k =
        let second : email_of (updated r p) ≡ v = let z : Some (email_of (updated r p)) ≡ Some v = k in cc in
        ap (λ (x : Email). x.immutable) (sym first) ∙ ap (λ (x : Email). x.immutable) second

-- a number goes on to name the Email that it named
pub keeps_immutable : (h : MailHistory) (hs : List NumberedFolder) (n : NumberedRows) → IsSound h → TakesMail h.numbered hs n → AreRows (served_emails n.rows)
    → KeepsImmutable (gone_on email_tests h.emails (served_emails n.rows))
keeps_immutable h hs n sound takes rows =
    same_part (λ (x : Email). x.immutable) email_tests h.emails (served_emails n.rows) rows sound.emails (emails_are_fresh h hs n sound takes) keeps sound.immutable
  where
    order : InOrder h.numbered
    order = in_order h sound

    keeps : (q : ℕ) (u v : Email) → row_at h.emails.now q ≡ Some u → row_at (served_emails n.rows) q ≡ Some v → u.immutable ≡ v.immutable
    keeps q u v is_u is_v =
        let was : option_map email_of (row_at h.numbered.rows q) ≡ Some u = sym (row_at-served email_of h.numbered.rows q)
        ∙ ap (λ (x : List (ℕ × Email)). row_at x q) (sym sound.emails_now) ∙ is_u in
        let now : option_map email_of (row_at n.rows q) ≡ Some v = sym (row_at-served email_of n.rows q) ∙ is_v in
        let under : q < h.numbered.next = found_under h.numbered.next h.numbered.rows order.under q (λ e. let f : None ≡ Some u = sym (ap (option_map email_of) e) ∙ was in cc) in
        same_immutable_part hs (row_at h.numbered.rows q) (row_at n.rows q) u v (taken_at h.numbered hs n order takes q under) was now

-- ---- the next number

-- the next number rises by no more than the touches of Emails
pub email_count : (n : NumberedRows) (hs : List NumberedFolder) (after : NumberedRows) → InOrder n → TakesMail n hs after → after.next ≤ n.next + length (email_touches n.rows after.rows)
email_count n hs after o takes =
    let more : Rows = added (left n hs) (arrivals n hs) takes.envelopes in
    let next : after.next ≡ n.next + length more = ap (λ (x : NumberedRows). x.next) takes.after_is ∙ next_added (left n hs) (arrivals n hs) takes.envelopes in
    let rows : after.rows ≡ remaining hs n.rows ++ more = ap (λ (x : NumberedRows). x.rows) takes.after_is ∙ rows_added (left n hs) (arrivals n hs) takes.envelopes in
    let all : email_touches n.rows after.rows ≡ map touch_of_removal (gone_in hs n.rows) ++ (changes_in hs n.rows ++ map touch_of_addition (keys_of more)) =
    ap (email_touches n.rows) rows ∙ touches_are hs n.rows more n.next o.sorted o.under (from_added (left n hs) (arrivals n hs) takes.envelopes) in
    let one = length-append (map touch_of_removal (gone_in hs n.rows)) (changes_in hs n.rows ++ map touch_of_addition (keys_of more)) in
    let two = length-append (changes_in hs n.rows) (map touch_of_addition (keys_of more)) in
    let three : length (map touch_of_addition (keys_of more)) ≡ length more = length-map (keys_of more) touch_of_addition ∙ length-map more (λ (e : ℕ × EmailRow). e.0) in
    let count : length (email_touches n.rows after.rows) ≡ length (map touch_of_removal (gone_in hs n.rows) ++ (changes_in hs n.rows ++ map touch_of_addition (keys_of more))) =
    ap length all in
    omega (arith, next, count, one, two, three)

-- the place of Emails rises by their touches
pub emails_rise : (h : MailHistory) (rows : Rows) → IsSound h
    → place_now (gone_on email_tests h.emails (served_emails rows)) ≡ place_now h.emails + length (email_touches h.numbered.rows rows)
emails_rise h rows sound =
    rises email_tests h.emails (served_emails rows)
    ∙ ap (λ (es : List Entry). place_now h.emails + length es)
    (ap (λ (x : List (ℕ × Email)). advance_entries email_tests x (served_emails rows)) sound.emails_now ∙ entries_served email_of email_tests h.numbered.rows rows)

-- the next number stays within one of the place of Emails
pub next_bound : (h : MailHistory) (m : Mail) (n : NumberedRows) → IsSound h → TakesMail h.numbered m.folders n → n.next ≤ place_now (advanced h m n).emails + 1
next_bound h m n sound takes =
    let count = email_count h.numbered m.folders n (in_order h sound) takes in
    let place = emails_rise h n.rows sound in
    let was = sound.next in
    omega (arith, count, place, was)
