-- A new Email: it isn't in the book, its Thread is that of the rule, and its row is the next one.
use Rattle.std.proofs.Common.{◌≡◌, ◌↔◌, ℕ, ◌+◌, List, [], ◌∷◌, ◌++◌, cond, refl, sym, ap, ◌∙◌, subst, arith, nat_cmp, Some, None, BTreeMap}
use Rattle.std.specs.BTreeMap.{get, is_at, insert_entry}
use Rattle.std.specs.List.Sorted.{IsStrictlySortedBy}
use Rattle.std.specs.Map.{keys_of}
use Rattle.thread_rule.specs.declared.member.Named.{Named}
use Rattle.thread_rule.specs.Threads.{Members, member_of, member_at, IsThreadOf}
use Rattle.mail_maps.specs.declared.row.EmailRow.{EmailRow}
use Rattle.mail_maps.specs.declared.envelope.Envelope.{Envelope}
use Rattle.mail_maps.specs.Envelope.{IsEnvelopeOf}
use Rattle.mail_maps.specs.Rows.{Rows}
use Rattle.mail_maps.specs.Visible.{Placed}
use Rattle.mail_rows.specs.NumberedRows.{NumberedRows, AreBelow}
use Rattle.mail_rows.specs.Joining.{row_member, members_of, thread_in}
use Rattle.mail_rows.specs.Taking.{new_row, row_for}
use Rattle.mail_rows.specs.reading.Indexes.{AreIndexes, AddsRow, with_last}
use Rattle.mail_rows.proofs.RowLemmas.{none_over, insert_last}
use Rattle.mail_rows.proofs.IndexLemmas.{members_under, as_under, indexes_more}
use Rattle.mail_rows.proofs.ThreadLaw.{thread_is}

-- the book hasn't the next number
pub not_member : (rows : Rows) (next email : ℕ) (marks : BTreeMap ℕ ℕ) (book : Members) → AreIndexes rows next marks book → email ≡ next → member_at book email ≡ None
not_member rows next email marks book is same =
    ap (λ (ms : Members). member_at ms email) is.book_is ∙ none_over next email (members_of rows) (members_under next rows is.below) (omega (arith, same))

-- ---- its row is put

row_put : (rows all : Rows) (next : ℕ) (row : EmailRow) → AreBelow next rows → all ≡ insert_entry nat_cmp rows next row → all ≡ rows ++ (next, row) ∷ []
row_put rows all next row below put = put ∙ insert_last rows next row (as_under next rows below)

-- the rows with the new one after them
pub rows_put : (rows all : Rows) (next : ℕ) (row : EmailRow) → AreBelow next rows → all ≡ insert_entry nat_cmp rows next row
    → ◌≡◌ {A = NumberedRows} (record { rows = all; next = next + 1 }) (with_last (record { rows = rows; next = next }) row)
rows_put rows all next row below put = ap (λ (rs : Rows). record { rows = rs; next = next + 1 }) (row_put rows all next row below put)

-- the indexes of these rows
pub indexes_put : (rows all : Rows) (next : ℕ) (row : EmailRow) (named : Named) (thread : ℕ) (marks marks' : BTreeMap ℕ ℕ) (book book' : Members) → AreIndexes rows next marks book
    → all ≡ insert_entry nat_cmp rows next row → named.email ≡ next → named.ids ≡ row.envelope.ids → named.base ≡ row.envelope.base → thread ≡ row.thread
    → ((q : ℕ) → get nat_cmp marks' q ≡ cond (is_at (nat_cmp row.mark) q) (Some next) (get nat_cmp marks q))
    → book' ≡ insert_entry nat_cmp book named.email (member_of named thread) → AreIndexes all (next + 1) marks' book'
indexes_put rows all next row named thread marks marks' book book' was put email ids base joined marked kept =
    let member : member_of named thread ≡ row_member row =
    ap (λ (x : List (List ℕ)). record { ids = x; base = named.base; thread = thread }) ids
    ∙ ap (λ (x : List ℕ). record { ids = row.envelope.ids; base = x; thread = thread }) base
    ∙ ap (λ (x : ℕ). record { ids = row.envelope.ids; base = row.envelope.base; thread = x }) joined in
    let in_book : book' ≡ insert_entry nat_cmp book next (row_member row) =
    kept ∙ ap (λ (k : ℕ). insert_entry nat_cmp book k (member_of named thread)) email ∙ ap (insert_entry nat_cmp book next) member in
    let I : Rows → Type 0 = λ rs. AreIndexes rs (next + 1) marks' book' in
    subst I (sym (row_put rows all next row was.below put)) (indexes_more rows next row marks marks' book book' was marked in_book)

-- ---- its Thread

keys_of-members : (rows : Rows) → keys_of (members_of rows) ≡ keys_of rows
keys_of-members [] = refl
keys_of-members (e ∷ es) = ap (λ (ks : List ℕ). e.0 ∷ ks) (keys_of-members es)

-- what the book finds is the Thread of the rule
thread_found : (rows : Rows) (book : Members) (base : List ℕ) (number thread : ℕ) (ids : List (List ℕ)) → IsStrictlySortedBy nat_cmp (keys_of rows) → book ≡ members_of rows
    → ((t : ℕ) → IsThreadOf book base number ids t ↔ (t ≡ thread)) → thread_in (members_of rows) base number ids ≡ thread
thread_found rows book base number thread ids sorted is found =
    let S : List ℕ → Type 0 = λ ks. IsStrictlySortedBy nat_cmp ks in
    let T : Members → Type 0 = λ ms. IsThreadOf ms base number ids (thread_in (members_of rows) base number ids) in
    (found (thread_in (members_of rows) base number ids)).0 (subst T (sym is) (thread_is (members_of rows) base number ids (subst S (sym (keys_of-members rows)) sorted)))

-- the row in the Thread that the book finds is that of the new Email
pub row_joins : (n : NumberedRows) (p : Placed) (e : Envelope) (named : Named) (book : Members) (number thread : ℕ) (row : EmailRow) (after : NumberedRows)
    → IsStrictlySortedBy nat_cmp (keys_of n.rows) → book ≡ members_of n.rows → number ≡ n.next → named ≡ record { email = number; ids = e.ids; base = e.base }
    → ((t : ℕ) → IsThreadOf book named.base named.email named.ids t ↔ (t ≡ thread)) → row ≡ row_for number thread p e → IsEnvelopeOf p.message.header e
    → after ≡ with_last n row → AddsRow n p after
row_joins n p e named book number thread row after sorted book_is number_is named_is found row_is read after_is =
    let F : Named → Type 0 = λ x. (t : ℕ) → IsThreadOf book x.base x.email x.ids t ↔ (t ≡ thread) in
    let joins : thread_in (members_of n.rows) e.base number e.ids ≡ thread = thread_found n.rows book e.base number thread e.ids sorted book_is (subst F named_is found) in
    let same : row ≡ new_row n p e =
    row_is ∙ ap (λ (t : ℕ). row_for number t p e) (sym joins) ∙ ap (λ (k : ℕ). row_for k (thread_in (members_of n.rows) e.base k e.ids) p e) number_is in
    record { envelope = e; is_read = read; after_is = after_is ∙ ap (with_last n) same }
