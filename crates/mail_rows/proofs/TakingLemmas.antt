-- New Emails: which messages they are, and the rows that come of them.
use Rattle.std.proofs.Common.{◌≡◌, ℕ, ◌+◌, ◌≤◌, List, [], ◌∷◌, ◌++◌, Bool, true, false, not, ◌&&◌, ◌||◌, cond, nat_eq, filter, refl, sym, ap, ◌∙◌, subst, arith, nat_cmp}
use Rattle.std.proofs.Common.{append_assoc, is_some, length, Option, Some, None, BTreeMap}
use Rattle.std.specs.Map.{keys_of}
use Rattle.std.specs.BTreeMap.{get}
use Rattle.std.proofs.lemmas.List.Elements.{filter-append}
use Rattle.told_folder.specs.declared.message.NumberedFolder.{NumberedFolder}
use Rattle.mail_maps.specs.declared.envelope.Envelope.{Envelope}
use Rattle.mail_maps.specs.Rows.{Rows}
use Rattle.mail_maps.specs.Visible.{Placed, placed_in, visible, is_visible_place}
use Rattle.mail_rows.specs.NumberedRows.{NumberedRows, knows}
use Rattle.mail_rows.specs.Taking.{is_newcomer, newcomers, new_row, with_row, with_rows, TakesMail, left, arrivals}
use Rattle.mail_rows.specs.reading.RowPass.{is_unmarked, unmarked}
use Rattle.mail_rows.specs.reading.Indexes.{number_after, number_of, AddsRow, AddsRows, numbers_from}
use Rattle.mail_rows.proofs.RowLemmas.{From}

-- ---- messages without a row

or_true : (a : Bool) → (a || true) ≡ true
or_true true = refl
or_true false = refl

number_known : (was : Option ℕ) (es : Rows) (q : ℕ) → is_some (number_after was es q) ≡ (is_some was || knows es q)
number_known None [] q = refl
number_known (Some n) [] q = refl
number_known was (e ∷ es) q =
    number_known (cond (nat_eq e.1.mark q) (Some e.0) was) es q
    ∙ elim (nat_eq e.1.mark q) as (λ (b : Bool). (is_some (cond b (Some e.0) was) || knows es q) ≡ (is_some was || (b || knows es q))) [
      | true ↦ sym (or_true (is_some was))
      | false ↦ refl
    ]

-- the index has a number for the marks of rows alone
pub has_number : (es : Rows) (q : ℕ) → is_some (number_of es q) ≡ knows es q
has_number es q = number_known None es q

filter_twice : (v p r : Placed → Bool) → ((x : Placed) → r x ≡ (v x && p x)) → (xs : List Placed) → filter r xs ≡ filter p (filter v xs)
filter_twice v p r same [] = refl
filter_twice v p r same (x ∷ xs) =
    ap (λ (b : Bool). cond b (x ∷ filter r xs) (filter r xs)) (same x)
    ∙ elim (v x) as (λ (b : Bool). cond (b && p x) (x ∷ filter r xs) (filter r xs) ≡ filter p (cond b (x ∷ filter v xs) (filter v xs))) [
      | true ↦ elim (p x) as (λ (b : Bool). cond b (x ∷ filter r xs) (filter r xs) ≡ cond b (x ∷ filter p (filter v xs)) (filter p (filter v xs))) [
        | true ↦ ap (λ (ys : List Placed). x ∷ ys) (filter_twice v p r same xs)
        | false ↦ filter_twice v p r same xs
      ]
      | false ↦ filter_twice v p r same xs
    ]

-- the visible messages whose marks the index lacks are those without a row
pub unmarked_are : (marks : BTreeMap ℕ ℕ) (rows : Rows) → ((q : ℕ) → get nat_cmp marks q ≡ number_of rows q) → (hs : List NumberedFolder) → unmarked marks hs ≡ newcomers hs rows
unmarked_are marks rows are [] = refl
unmarked_are marks rows are (h ∷ hs) =
    ap (λ (ps : List Placed). ps ++ unmarked marks hs)
    (filter_twice is_visible_place (is_newcomer rows) (is_unmarked marks)
    (λ x. ap (λ (b : Bool). is_visible_place x && not b) (ap is_some (are x.message.mark) ∙ has_number rows x.message.mark)) (placed_in h))
    ∙ ap (λ (ps : List Placed). filter (is_newcomer rows) (filter is_visible_place (placed_in h)) ++ ps) (unmarked_are marks rows are hs)
    ∙ sym (filter-append (is_newcomer rows) (filter is_visible_place (placed_in h)) (visible hs))

-- ---- one after another

-- with no message the rows stay
pub adds_none : (n : NumberedRows) (ps : List Placed) → length ps ≡ 0 → AddsRows n ps n
adds_none n [] e = record { envelopes = []; are_read = tt; after_is = refl }
adds_none n (p ∷ ps) e = absurd (omega (arith, e))

-- one message more
pub adds_more : (n m : NumberedRows) (p : Placed) (ps : List Placed) (after : NumberedRows) → AddsRow n p m → AddsRows m ps after → AddsRows n (p ∷ ps) after
adds_more n m p ps after one rest = record {
  envelopes = one.envelope ∷ rest.envelopes;
  are_read = (one.is_read, rest.are_read);
  after_is = rest.after_is ∙ ap (λ (x : NumberedRows). with_rows x ps rest.envelopes) one.after_is;
}

-- rows that take in the arrivals after those that remain are those of the mail
pub takes_from_adds : (n : NumberedRows) (hs : List NumberedFolder) (ps : List Placed) (after : NumberedRows) → ps ≡ arrivals n hs → AddsRows (left n hs) ps after → TakesMail n hs after
takes_from_adds n hs ps after are adds =
    let P : List Placed → Type 0 = λ xs. AddsRows (left n hs) xs after in
    let a : AddsRows (left n hs) (arrivals n hs) after = subst P are adds in
    record { envelopes = a.envelopes; are_read = a.are_read; after_is = a.after_is }

-- ---- the rows that are added

abbrev pub added : NumberedRows → List Placed → List Envelope → Rows
added n [] es = []
added n (p ∷ ps) [] = []
added n (p ∷ ps) (e ∷ es) = (n.next, new_row n p e) ∷ added (with_row n p e) ps es

append_none : {A : Type 0} (xs : List A) → xs ++ [] ≡ xs
append_none [] = refl
append_none {A} (x ∷ xs) = ap (λ (r : List A). x ∷ r) (append_none xs)

-- rows are added after the others
pub rows_added : (n : NumberedRows) (ps : List Placed) (es : List Envelope) → (with_rows n ps es).rows ≡ n.rows ++ added n ps es
rows_added n [] es = sym (append_none n.rows)
rows_added n (p ∷ ps) [] = sym (append_none n.rows)
rows_added n (p ∷ ps) (e ∷ es) = rows_added (with_row n p e) ps es ∙ append_assoc n.rows ((n.next, new_row n p e) ∷ []) (added (with_row n p e) ps es)

-- the next number grows by one for each row
pub next_added : (n : NumberedRows) (ps : List Placed) (es : List Envelope) → (with_rows n ps es).next ≡ n.next + length (added n ps es)
next_added n [] es = omega arith
next_added n (p ∷ ps) [] = omega arith
next_added n (p ∷ ps) (e ∷ es) =
    let k : (with_rows (with_row n p e) ps es).next ≡ n.next + 1 + length (added (with_row n p e) ps es) = next_added (with_row n p e) ps es in omega (arith, k)

-- the rows that are added have the next numbers
pub keys_added : (n : NumberedRows) (ps : List Placed) (es : List Envelope) → keys_of (added n ps es) ≡ numbers_from n.next (length (added n ps es))
keys_added n [] es = refl
keys_added n (p ∷ ps) [] = refl
keys_added n (p ∷ ps) (e ∷ es) = ap (λ (ks : List ℕ). n.next ∷ ks) (keys_added (with_row n p e) ps es)

from_lower : (j k : ℕ) (es : Rows) → j ≤ k → From k es → From j es
from_lower j k [] l f = tt
from_lower j k (e ∷ es) l f = (omega (arith, l, f.0), from_lower j k es l f.1)

-- their numbers are the next one or above it
pub from_added : (n : NumberedRows) (ps : List Placed) (es : List Envelope) → From n.next (added n ps es)
from_added n [] es = tt
from_added n (p ∷ ps) [] = tt
from_added n (p ∷ ps) (e ∷ es) = (omega arith, from_lower n.next (n.next + 1) (added (with_row n p e) ps es) (omega arith) (from_added (with_row n p e) ps es))
