-- The index of marks finds the row of a mark.
use Rattle.std.proofs.Common.{◌≡◌, ◌≢◌, ◌⊎◌, inl, inr, ℕ, [], ◌∷◌, Bool, true, false, ◌||◌, cond, nat_eq, refl, sym, ap, ◌∙◌, nat_cmp, is_some, Option, Some, None, eqb-true}
use Rattle.std.proofs.Common.{eq-eqb}
use Rattle.std.specs.List.Sorted.{IsStrictlySortedBy}
use Rattle.std.specs.Map.{keys_of}
use Rattle.std.specs.Borrow.{Bor}
use Rattle.std.specs.Option.{option_copied}
use Rattle.std.specs.Prelude.{MatchOption}
use Rattle.std.specs.BTreeMap.{is_at}
use Rattle.change_list.specs.Advance.{row_at}
use Rattle.mail_maps.specs.declared.row.EmailRow.{EmailRow}
use Rattle.mail_maps.specs.Rows.{Rows}
use Rattle.mail_rows.specs.NumberedRows.{knows}
use Rattle.mail_rows.specs.LookUps.{IsOfMark, NoneHasMark}
use Rattle.mail_rows.specs.reading.Indexes.{number_after, number_of}
use Rattle.mail_rows.proofs.RowLemmas.{AllIn, all_in}
use Rattle.mail_rows.proofs.TakingLemmas.{has_number}

record IsNumbered (all : Rows) (mark n : ℕ) : Type 0 where
  pub row : EmailRow
  pub there : row_at all n ≡ Some row
  pub marked : row.mark ≡ mark

some_number : (a b : ℕ) → Some a ≡ Some b → a ≡ b
some_number a b e = cc

number_found : (all es : Rows) (was : Option ℕ) (mark n : ℕ) → AllIn all es → number_after was es mark ≡ Some n → (was ≡ Some n) ⊎ IsNumbered all mark n
number_found all [] was mark n found e = inl e
number_found all (r ∷ es) was mark n found e = by (number_found all es (cond (nat_eq r.1.mark mark) (Some r.0) was) mark n found.1 e)
  where
    by : (cond (nat_eq r.1.mark mark) (Some r.0) was ≡ Some n) ⊎ IsNumbered all mark n → (was ≡ Some n) ⊎ IsNumbered all mark n
    by (inr f) = inr f
    by (inl f) =
        elim (nat_eq r.1.mark mark) as (λ (b : Bool). nat_eq r.1.mark mark ≡ b → cond b (Some r.0) was ≡ Some n → (was ≡ Some n) ⊎ IsNumbered all mark n) [
          | true ↦ λ same g. inr (record { row = r.1; there = ap (row_at all) (sym (some_number r.0 n g)) ∙ found.0; marked = eqb-true r.1.mark mark same })
          | false ↦ λ other g. inl g
        ] refl f

-- the row of the number that the index has for a mark is one of the mark
pub is_of_mark : (es : Rows) (mark n : ℕ) (row : EmailRow) → IsStrictlySortedBy nat_cmp (keys_of es) → number_of es mark ≡ Some n → row_at es n ≡ Some row → IsOfMark es mark row
is_of_mark es mark n row sorted e there = by (number_found es es None mark n (all_in es sorted) e)
  where
    by : (None ≡ Some n) ⊎ IsNumbered es mark n → IsOfMark es mark row
    by (inl f) = absurd (let g : None ≡ Some n = f in cc)
    by (inr f) =
        let g : Some row ≡ Some f.row = sym there ∙ f.there in
        let same : row ≡ f.row = cc in
        record { number = n; there = there; marked = ap (λ (r : EmailRow). r.mark) same ∙ f.marked }

-- a number that the index has is that of a row
pub is_numbered : (es : Rows) (mark n : ℕ) → IsStrictlySortedBy nat_cmp (keys_of es) → number_of es mark ≡ Some n → row_at es n ≢ None
is_numbered es mark n sorted e none = by (number_found es es None mark n (all_in es sorted) e)
  where
    by : (None ≡ Some n) ⊎ IsNumbered es mark n → ⊥
    by (inl f) = let g : None ≡ Some n = f in cc
    by (inr f) = let g : None ≡ Some f.row = sym none ∙ f.there in cc

or_right : (a b : Bool) → b ≡ true → (a || b) ≡ true
or_right true b e = refl
or_right false b e = e

known : (es : Rows) (n mark : ℕ) (row : EmailRow) → row_at es n ≡ Some row → row.mark ≡ mark → knows es mark ≡ true
known [] n mark row e same = absurd (let f : None ≡ Some row = e in cc)
known (r ∷ es) n mark row e same =
    elim (is_at (nat_cmp n) r.0) as (λ (b : Bool). cond b (Some r.1) (row_at es n) ≡ Some row → (nat_eq r.1.mark mark || knows es mark) ≡ true) [
      | true ↦ λ f.
          let here : r.1 ≡ row = let g : Some r.1 ≡ Some row = f in cc in
          ap (λ (b : Bool). b || knows es mark) (eq-eqb r.1.mark mark (ap (λ (x : EmailRow). x.mark) here ∙ same))
      | false ↦ λ f. or_right (nat_eq r.1.mark mark) (knows es mark) (known es n mark row f same)
    ] e

-- a mark that the index lacks is no row's
pub none_has_mark : (es : Rows) (mark : ℕ) → number_of es mark ≡ None → NoneHasMark es mark
none_has_mark es mark e n row there same =
    let f : false ≡ true = sym (ap is_some e) ∙ has_number es mark ∙ known es n mark row there same in cc

-- what the index of marks leads to
pub led_to : (es : Rows) (mark n : ℕ) (found : Option (Bor EmailRow)) → IsStrictlySortedBy nat_cmp (keys_of es) → number_of es mark ≡ Some n → option_copied found ≡ row_at es n
    → MatchOption found (NoneHasMark es mark) (λ row. IsOfMark es mark row.now)
led_to es mark n None sorted e is = absurd (is_numbered es mark n sorted e (sym is))
led_to es mark n (Some row) sorted e is = is_of_mark es mark n row.now sorted e (sym is)
