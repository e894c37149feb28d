-- The rows of some mail: which marks they have, and which of those before stay.
use Rattle.std.proofs.Common.{◌≡◌, ℕ, ◌∷◌, [], ◌++◌, List, Bool, true, false, not, ◌&&◌, ◌||◌, cond, nat_eq, filter, find, refl, sym, ap, ◌∙◌, nat_cmp, is_some, Option, Some, None}
use Rattle.std.proofs.Common.{eqb-true}
use Rattle.std.specs.List.{list_any}
use Rattle.std.specs.List.Sorted.{IsStrictlySortedBy}
use Rattle.std.specs.Map.{keys_of}
use Rattle.std.specs.Option.{option_map, option_or}
use Rattle.std.proofs.lemmas.List.Folds.{list_any-append}
use Rattle.told_folder.specs.declared.message.NumberedFolder.{NumberedFolder}
use Rattle.change_list.specs.Advance.{row_at}
use Rattle.mail_maps.specs.declared.row.EmailRow.{EmailRow}
use Rattle.mail_maps.specs.declared.envelope.Envelope.{Envelope}
use Rattle.mail_maps.specs.Rows.{Rows}
use Rattle.mail_maps.specs.Visible.{Placed, visible, shown}
use Rattle.mail_rows.specs.NumberedRows.{NumberedRows, has_row_mark, knows}
use Rattle.mail_rows.specs.Remaining.{updated, remaining, put_remaining}
use Rattle.mail_rows.specs.Taking.{is_newcomer, with_row, AreEnvelopes, TakesMail, left, arrivals}
use Rattle.mail_rows.proofs.RowLemmas.{row_at-append}
use Rattle.mail_rows.proofs.TakingLemmas.{added, rows_added}
use Rattle.mail_rows.proofs.TouchLemmas.{remaining_if, remaining_at}

rows_after : (n : NumberedRows) (hs : List NumberedFolder) (after : NumberedRows) (t : TakesMail n hs after)
    → after.rows ≡ remaining hs n.rows ++ added (left n hs) (arrivals n hs) t.envelopes
rows_after n hs after t = ap (λ (m : NumberedRows). m.rows) t.after_is ∙ rows_added (left n hs) (arrivals n hs) t.envelopes

-- ---- marks

abbrev is_marked : ℕ → Placed → Bool
is_marked mark p = nat_eq p.message.mark mark

some_found : (mark : ℕ) (ps : List Placed) → is_some (find (is_marked mark) ps) ≡ list_any (is_marked mark) ps
some_found mark [] = refl
some_found mark (p ∷ ps) = by (is_marked mark p) (some_found mark ps)
  where
    by : (b : Bool) → is_some (find (is_marked mark) ps) ≡ list_any (is_marked mark) ps
        → is_some (cond b (Some p) (find (is_marked mark) ps)) ≡ (b || list_any (is_marked mark) ps)
    by true later = refl
    by false later = later

and_false : (b : Bool) → (b && false) ≡ false
and_false true = refl
and_false false = refl

-- among the messages without a row one has the mark where one has it at all, and no row
any_new : (rows : Rows) (mark : ℕ) (ps : List Placed) → list_any (is_marked mark) (filter (is_newcomer rows) ps) ≡ (list_any (is_marked mark) ps && not (knows rows mark))
any_new rows mark [] = refl
any_new rows mark (p ∷ ps) = by (nat_eq p.message.mark mark) refl (any_new rows mark ps)
  where
    here : (k : Bool) → nat_eq p.message.mark mark ≡ true → list_any (is_marked mark) (filter (is_newcomer rows) ps) ≡ (list_any (is_marked mark) ps && not k)
        → list_any (is_marked mark) (cond (not k) (p ∷ filter (is_newcomer rows) ps) (filter (is_newcomer rows) ps)) ≡ not k
    here true same later = later ∙ and_false (list_any (is_marked mark) ps)
    here false same later = ap (λ (b : Bool). b || list_any (is_marked mark) (filter (is_newcomer rows) ps)) same

    other : (b : Bool) → nat_eq p.message.mark mark ≡ false
        → list_any (is_marked mark) (cond b (p ∷ filter (is_newcomer rows) ps) (filter (is_newcomer rows) ps)) ≡ list_any (is_marked mark) (filter (is_newcomer rows) ps)
    other true differs = ap (λ (b : Bool). b || list_any (is_marked mark) (filter (is_newcomer rows) ps)) differs
    other false differs = refl

    by : (b : Bool) → nat_eq p.message.mark mark ≡ b → list_any (is_marked mark) (filter (is_newcomer rows) ps) ≡ (list_any (is_marked mark) ps && not (knows rows mark))
        → list_any (is_marked mark) (cond (not (knows rows p.message.mark)) (p ∷ filter (is_newcomer rows) ps) (filter (is_newcomer rows) ps))
        ≡ ((nat_eq p.message.mark mark || list_any (is_marked mark) ps) && not (knows rows mark))
    by true same later =
        ap (λ (k : ℕ). list_any (is_marked mark) (cond (not (knows rows k)) (p ∷ filter (is_newcomer rows) ps) (filter (is_newcomer rows) ps))) (eqb-true p.message.mark mark same)
        ∙ here (knows rows mark) same later
        ∙ sym (ap (λ (b : Bool). (b || list_any (is_marked mark) ps) && not (knows rows mark)) same)
    by false differs later =
        other (is_newcomer rows p) differs ∙ later ∙ sym (ap (λ (b : Bool). (b || list_any (is_marked mark) ps) && not (knows rows mark)) differs)

any_added : (n : NumberedRows) (ps : List Placed) (es : List Envelope) (mark : ℕ) → AreEnvelopes ps es → knows (added n ps es) mark ≡ list_any (is_marked mark) ps
any_added n [] es mark are = refl
any_added n (p ∷ ps) [] mark are = absurd are
any_added n (p ∷ ps) (e ∷ es) mark are = ap (λ (k : Bool). nat_eq p.message.mark mark || k) (any_added (with_row n p e) ps es mark are.1)

-- a row that remains has a mark that is shown
shown_left : (hs : List NumberedFolder) (rows : Rows) (mark : ℕ) → knows (remaining hs rows) mark ≡ true → is_some (shown hs mark) ≡ true
shown_left hs [] mark k = absurd (let f : false ≡ true = k in cc)
shown_left hs (e ∷ es) mark k = by (shown hs e.1.mark) refl k (shown_left hs es mark)
  where
    by : (o : Option Placed) → shown hs e.1.mark ≡ o → knows (put_remaining e.0 (option_map (updated e.1) o) (remaining hs es)) mark ≡ true
        → (knows (remaining hs es) mark ≡ true → is_some (shown hs mark) ≡ true) → is_some (shown hs mark) ≡ true
    by None is there later = later there
    by (Some p) is there later =
        elim (nat_eq e.1.mark mark) as (λ (b : Bool). nat_eq e.1.mark mark ≡ b → (b || knows (remaining hs es) mark) ≡ true → is_some (shown hs mark) ≡ true) [
          | true ↦ λ same f. ap is_some (sym (ap (shown hs) (eqb-true e.1.mark mark same)) ∙ is)
          | false ↦ λ differs f. later f
        ] refl there

joined : (k v : Bool) → (k ≡ true → v ≡ true) → (k || (v && not k)) ≡ v
joined true v f = sym (f refl)
joined false true f = refl
joined false false f = refl

-- an Email has a mark exactly where the mail shows it
pub emails_are_shown : (n : NumberedRows) (hs : List NumberedFolder) (after : NumberedRows) (mark : ℕ) → TakesMail n hs after → knows after.rows mark ≡ is_some (shown hs mark)
emails_are_shown n hs after mark t =
    let rows : Rows = remaining hs n.rows in
    ap (λ (rs : Rows). knows rs mark) (rows_after n hs after t)
    ∙ list_any-append (has_row_mark mark) rows (added (left n hs) (arrivals n hs) t.envelopes)
    ∙ ap (λ (k : Bool). knows rows mark || k)
    (any_added (left n hs) (arrivals n hs) t.envelopes mark t.are_read ∙ any_new rows mark (visible hs)
    ∙ ap (λ (v : Bool). v && not (knows rows mark)) (sym (some_found mark (visible hs))))
    ∙ joined (knows rows mark) (is_some (shown hs mark)) (shown_left hs n.rows mark)

-- ---- rows

-- an Email whose mark is shown stays under its number, as its message is
pub an_email_stays : (n : NumberedRows) (hs : List NumberedFolder) (after : NumberedRows) (number : ℕ) (row : EmailRow) (p : Placed) → IsStrictlySortedBy nat_cmp (keys_of n.rows)
    → TakesMail n hs after → row_at n.rows number ≡ Some row → shown hs row.mark ≡ Some p → row_at after.rows number ≡ Some (updated row p)
an_email_stays n hs after number row p sorted t there is =
    let new : Rows = added (left n hs) (arrivals n hs) t.envelopes in
    ap (λ (rs : Rows). row_at rs number) (rows_after n hs after t) ∙ row_at-append (remaining hs n.rows) new number
    ∙ ap (λ (o : Option EmailRow). option_or o (row_at new number)) (remaining_at hs n.rows sorted number ∙ ap (remaining_if hs) there ∙ ap (option_map (updated row)) is)
