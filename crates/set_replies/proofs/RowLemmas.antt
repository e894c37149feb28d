-- The row of a mark, as it is found by its number and as it is found among all rows.
use Rattle.std.proofs.Common.{◌≡◌, ◌≢◌, ◌==◌, ℕ, Bool, true, false, cond, [], ◌∷◌, nat_cmp, Option, Some, None, refl, sym, ap, ◌∙◌, eqb-true, eq-eqb}
use Rattle.std.specs.BTreeMap.{is_at}
use Rattle.std.specs.Cmp.{eq_by_cmp_equiv}
use Rattle.std.specs.List.{All, Contains, find}
use Rattle.std.specs.Map.{keys_of}
use Rattle.std.proofs.lemmas.Bool.{or_left, or_right}
use Rattle.std.proofs.lemmas.Cmp.{nat_cmp_total}
use Rattle.std.proofs.lemmas.List.Elements.{All-head, All-tail, All-weaker, All-contains_itself}
use Rattle.std.proofs.lemmas.Map.Keys.{IsDistinct-from_sorted}
use Rattle.std.proofs.lemmas.Map.Views.{lookup-from_Contains}
use Rattle.change_list.specs.Advance.{row_at}
use Rattle.mail_maps.specs.Rows.{Rows}
use Rattle.mail_maps.specs.declared.row.EmailRow.{EmailRow}
use Rattle.mail_rows.specs.LookUps.{IsOfMark, NoneHasMark}
use Rattle.mail_rows.specs.NumberedRows.{MarksApart, knows}
use Rattle.set_replies.specs.Emails.{row_of_mark}
use Rattle.set_replies.specs.reading.Types.{AreApart}

abbrev Row : Type 0
Row = ℕ × EmailRow

abbrev KnowsItself : Row → Type 0
KnowsItself e = e.1.number ≡ e.0

-- a row that is there by its number has a mark that is known
is_known : (es : Rows) (number : ℕ) (row : EmailRow) → row_at es number ≡ Some row → knows es row.mark ≡ true
is_known [] number row is = absurd (let none : None ≡ Some row = is in cc)
is_known (e ∷ es) number row is =
    elim (is_at (nat_cmp number) e.0) as (λ b. cond b (Some e.1) (row_at es number) ≡ Some row → knows (e ∷ es) row.mark ≡ true) [
      | true ↦ λ same. let at : Some e.1 ≡ Some row = same in let one : e.1 ≡ row = cc in or_left _ _ (eq-eqb e.1.mark row.mark (ap (λ (r : EmailRow). r.mark) one))
      | false ↦ λ later. or_right _ _ (is_known es number row later)
    ] is

found_by : (rows : Rows) (mark number : ℕ) (row : EmailRow) → MarksApart rows → All KnowsItself rows → row_at rows number ≡ Some row → row.mark ≡ mark
    → row_of_mark rows mark ≡ Some (row.number, row)
found_by [] mark number row apart known is marked = absurd (let none : None ≡ Some row = is in cc)
found_by (e ∷ es) mark number row apart known is marked =
    elim (is_at (nat_cmp number) e.0) as (λ b. cond b (Some e.1) (row_at es number) ≡ Some row
    → cond (e.1.mark == mark) (Some e) (row_of_mark es mark) ≡ Some (row.number, row)) [
      | true ↦ λ same.
          let at : Some e.1 ≡ Some row = same in
          let one : e.1 ≡ row = cc in
          let numbered : e.0 ≡ row.number = sym (All-head KnowsItself e es known) ∙ ap (λ (r : EmailRow). r.number) one in
          ap (λ (b : Bool). cond b (Some e) (row_of_mark es mark)) (eq-eqb e.1.mark mark (ap (λ (r : EmailRow). r.mark) one ∙ marked))
          ∙ ap (λ (n : ℕ). let pair : Option Row = Some (n, e.1) in pair) numbered ∙ ap (λ (r : EmailRow). let pair : Option Row = Some (row.number, r) in pair) one
      | false ↦ λ later.
          elim (e.1.mark == mark) as (λ b. (e.1.mark == mark) ≡ b → cond b (Some e) (row_of_mark es mark) ≡ Some (row.number, row)) [
            | true ↦ λ same.
                let twice : knows es e.1.mark ≡ true = ap (knows es) (eqb-true e.1.mark mark same ∙ sym marked) ∙ is_known es number row later in
                absurd (let both : true ≡ false = sym twice ∙ apart.0 in cc)
            | false ↦ λ other. found_by es mark number row apart.1 (All-tail KnowsItself e es known) later marked
          ] refl
    ] is

-- the row of a mark
pub mark_found : (rows : Rows) (mark : ℕ) (row : EmailRow) → AreApart rows → IsOfMark rows mark row → row_of_mark rows mark ≡ Some (row.number, row)
mark_found rows mark row apart of = found_by rows mark of.number row apart.marks apart.numbers of.there of.marked

none_passes : (test : Row → Bool) (es : Rows) → All (λ e. test e ≡ false) es → find test es ≡ None
none_passes test [] all = refl
none_passes test (e ∷ es) all =
    ap (λ (b : Bool). cond b (Some e) (find test es)) (All-head (λ (x : Row). test x ≡ false) e es all) ∙ none_passes test es (All-tail (λ (x : Row). test x ≡ false) e es all)

not_marked : (mark : ℕ) (row : EmailRow) → row.mark ≢ mark → (row.mark == mark) ≡ false
not_marked mark row other = elim (row.mark == mark) as (λ b. (row.mark == mark) ≡ b → b ≡ false) [
  | true ↦ λ is. absurd (other (eqb-true row.mark mark is))
  | false ↦ λ is. refl
] refl

-- no row has the mark
pub mark_missed : (rows : Rows) (mark : ℕ) → AreApart rows → NoneHasMark rows mark → row_of_mark rows mark ≡ None
mark_missed rows mark apart none =
    none_passes (λ (e : Row). e.1.mark == mark) rows
    (All-weaker (Contains rows) (λ (e : Row). (e.1.mark == mark) ≡ false)
    (λ e there. not_marked mark e.1
    (none e.0 e.1 (lookup-from_Contains (eq_by_cmp_equiv nat_cmp_total) e.0 e.1 rows (IsDistinct-from_sorted nat_cmp (keys_of rows) apart.ascending) there)))
    rows (All-contains_itself rows))
