-- The rows after a step, and its touches.
use Rattle.std.proofs.Common.{◌≡◌, ℕ, zero, suc, ◌+◌, ◌-◌, ◌≤◌, List, ◌++◌, map, length, refl, sym, ap, ◌∙◌, subst, arith, nat_cmp}
use Rattle.std.proofs.lemmas.List.{length-append, length-map}
use Rattle.std.specs.List.Sorted.{IsStrictlySortedBy}
use Rattle.std.specs.Map.{keys_of}
use Rattle.change_list.specs.declared.entries.Entry.{Entry}
use Rattle.told_folder.specs.declared.message.NumberedFolder.{NumberedFolder}
use Rattle.mail_maps.specs.Rows.{Rows}
use Rattle.mail_maps.specs.Visible.{Placed}
use Rattle.mail_rows.specs.NumberedRows.{NumberedRows, AreBelow}
use Rattle.mail_rows.specs.Remaining.{remaining}
use Rattle.mail_rows.specs.Taking.{newcomers, left, arrivals, TakesMail}
use Rattle.mail_rows.specs.RowTouches.{email_touches}
use Rattle.mail_rows.specs.declared.remaining.RemovedEmail.{RemovedEmail}
use Rattle.mail_rows.specs.reading.RowPass.{touch_of_addition, touch_of_removal, gone_in, changes_in}
use Rattle.mail_rows.specs.reading.Indexes.{AddsRows, numbers_from}
use Rattle.mail_rows.proofs.IndexLemmas.{as_under}
use Rattle.mail_rows.proofs.TakingLemmas.{takes_from_adds, added, rows_added, next_added, keys_added, from_added}
use Rattle.mail_rows.proofs.TouchLemmas.{touches_are}

-- the mail is taken in where what comes is added to what remains
pub takes : (n m : NumberedRows) (hs : List NumberedFolder) (ps : List Placed) (after : NumberedRows) → m ≡ left n hs → ps ≡ newcomers hs m.rows → AddsRows m ps after → TakesMail n hs after
takes n m hs ps after is are adds =
    let A : NumberedRows → Type 0 = λ x. AddsRows x ps after in
    takes_from_adds n hs ps after (are ∙ ap (λ (x : NumberedRows). newcomers hs x.rows) is) (subst A is adds)

-- the number after new Emails
pub next_after : (m : NumberedRows) (ps : List Placed) (after : NumberedRows) → AddsRows m ps after → m.next ≤ after.next
next_after m ps after adds = omega (arith, ap (λ (x : NumberedRows). x.next) adds.after_is, next_added m ps adds.envelopes)

length-numbers : (k n : ℕ) → length (numbers_from k n) ≡ n
length-numbers k zero = refl
length-numbers k (suc n) = ap suc (length-numbers (k + 1) n)

-- ---- from the rows before to those after

module _ (n : NumberedRows) (hs : List NumberedFolder) (after : NumberedRows) (t : TakesMail n hs after) where
  -- the rows of new Emails
  abbrev more : Rows
  more = added (left n hs) (arrivals n hs) t.envelopes

  next_is : after.next ≡ n.next + length more
  next_is = ap (λ (x : NumberedRows). x.next) t.after_is ∙ next_added (left n hs) (arrivals n hs) t.envelopes

  rows_are : after.rows ≡ remaining hs n.rows ++ more
  rows_are = ap (λ (x : NumberedRows). x.rows) t.after_is ∙ rows_added (left n hs) (arrivals n hs) t.envelopes

  module _ (gone : List RemovedEmail) (changed entries : List Entry) (first next : ℕ) where
    -- the touches of what goes, what is changed and what is added
    abbrev pub gathered : List Entry
    gathered = map touch_of_removal gone ++ (changed ++ map touch_of_addition (numbers_from first (next - first)))

    -- they are the touches from the rows before to those after
    pub touches_between : IsStrictlySortedBy nat_cmp (keys_of n.rows) → AreBelow n.next n.rows → first ≡ n.next → next ≡ after.next → gone ≡ gone_in hs n.rows
        → changed ≡ changes_in hs n.rows → entries ≡ gathered → entries ≡ email_touches n.rows after.rows
    touches_between sorted below f g gone_is changed_is all =
        let count : next - first ≡ length more = omega (arith, next_is) in
        let numbers : numbers_from first (next - first) ≡ keys_of more =
        ap (λ (k : ℕ). numbers_from k (next - first)) f ∙ ap (numbers_from n.next) count ∙ sym (keys_added (left n hs) (arrivals n hs) t.envelopes) in
        let now : email_touches n.rows after.rows ≡ map touch_of_removal (gone_in hs n.rows) ++ (changes_in hs n.rows ++ map touch_of_addition (keys_of more)) =
        ap (email_touches n.rows) rows_are ∙ touches_are hs n.rows more n.next sorted (as_under n.next n.rows below) (from_added (left n hs) (arrivals n hs) t.envelopes) in
        all ∙ ap (λ (gs : List RemovedEmail). map touch_of_removal gs ++ (changed ++ map touch_of_addition (numbers_from first (next - first)))) gone_is
        ∙ ap (λ (cs : List Entry). map touch_of_removal (gone_in hs n.rows) ++ (cs ++ map touch_of_addition (numbers_from first (next - first)))) changed_is
        ∙ ap (λ (ks : List ℕ). map touch_of_removal (gone_in hs n.rows) ++ (changes_in hs n.rows ++ map touch_of_addition ks)) numbers
        ∙ sym now

    -- each new Email is a touch
    pub no_fewer : first ≡ n.next → next ≡ after.next → entries ≡ gathered → after.next ≤ n.next + length entries
    no_fewer f g all =
        let added : List Entry = map touch_of_addition (numbers_from first (next - first)) in
        omega (
          arith,
          ap length all,
          length-append (map touch_of_removal gone) (changed ++ added),
          length-append changed added,
          length-map (numbers_from first (next - first)) touch_of_addition,
          length-numbers first (next - first),
        )
