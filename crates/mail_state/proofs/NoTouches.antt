-- Rows that stay as they are have no touches.
use Rattle.std.proofs.Common.{◌≡◌, ℕ, List, [], ◌∷◌, ◌++◌, Bool, true, false, not, cond, map, filter, refl, ap, ◌∙◌, Option, is_some}
use Rattle.change_list.specs.Advance.{Tests, advance_entries, is_gone, is_changed, differs, counts_if, row_at}
use Rattle.change_list.specs.declared.entries.Entry.{Entry}
use Rattle.change_list.specs.declared.entries.Kind.TheVariants.{Added, Changed, Removed}
use Rattle.mail_rows.proofs.RowLemmas.{AllIn}

module _ {V : Type 0} (tests : Tests V) (same : (v : V) → tests.same v v ≡ true) where
  none_gone : (rows es : List (ℕ × V)) → AllIn rows es → filter (is_gone rows) es ≡ []
  none_gone rows [] a = refl
  none_gone rows (e ∷ es) a = ap (λ (o : Option V). cond (not (is_some o)) (e ∷ filter (is_gone rows) es) (filter (is_gone rows) es)) a.0 ∙ none_gone rows es a.1

  none_changed : (rows es : List (ℕ × V)) → AllIn rows es → filter (is_changed tests.same rows) es ≡ []
  none_changed rows [] a = refl
  none_changed rows (e ∷ es) a =
      let rest : List (ℕ × V) = filter (is_changed tests.same rows) es in
      ap (λ (o : Option V). cond (differs tests.same o e.1) (e ∷ rest) rest) a.0 ∙ ap (λ (b : Bool). cond (not b) (e ∷ rest) rest) (same e.1) ∙ none_changed rows es a.1

  -- rows that are found by their numbers have no touches between them and themselves
  pub no_touches : (rows : List (ℕ × V)) → AllIn rows rows → advance_entries tests rows rows ≡ []
  no_touches rows a =
      let removal : ℕ × V → Entry = λ e. record { id = e.0; kind = Removed; counts_only = false } in
      let change : ℕ × V → Entry = λ e. record { id = e.0; kind = Changed; counts_only = counts_if tests.counts (row_at rows e.0) e.1 } in
      let addition : ℕ × V → Entry = λ e. record { id = e.0; kind = Added; counts_only = false } in
      ap (λ (xs : List (ℕ × V)). map removal xs ++ (map change (filter (is_changed tests.same rows) rows) ++ map addition (filter (is_gone rows) rows))) (none_gone rows rows a)
      ∙ ap (λ (xs : List (ℕ × V)). map change xs ++ map addition (filter (is_gone rows) rows)) (none_changed rows rows a)
      ∙ ap (λ (xs : List (ℕ × V)). map addition xs) (none_gone rows rows a)
