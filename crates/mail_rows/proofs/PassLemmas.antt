-- What one pass over the rows has gathered in the end.
use Rattle.std.proofs.Common.{◌≡◌, ℕ, List, [], ◌∷◌, ◌++◌, not, cond, map, filter, refl, sym, ap, ◌∙◌, nat_cmp, append_assoc, is_some, Option, Some, None}
use Rattle.std.specs.declared.cmp.Ordering.TheVariants.{Less}
use Rattle.std.specs.List.{AllByRecursion}
use Rattle.std.specs.List.Sorted.{IsStrictlySortedBy}
use Rattle.std.specs.Map.{keys_of}
use Rattle.told_folder.specs.declared.message.NumberedFolder.{NumberedFolder}
use Rattle.mail_maps.specs.declared.row.EmailRow.{EmailRow}
use Rattle.mail_maps.specs.Rows.{Rows}
use Rattle.mail_maps.specs.Visible.{Placed, shown}
use Rattle.mail_rows.specs.Remaining.{remaining_row, put_remaining, remaining}
use Rattle.mail_rows.specs.reading.RowPass.{PassSoFar, none_passed, gone_of, change_where, is_moved, is_another, update_where, gather_where, gather_one, gather_all}
use Rattle.mail_rows.specs.reading.RowPass.{is_hidden, gone_in, changes_where, changes_in, updates_where, updates_in}

append_none : {A : Type 0} (xs : List A) → xs ++ [] ≡ xs
append_none [] = refl
append_none {A} (x ∷ xs) = ap (λ (r : List A). x ∷ r) (append_none xs)

module _ (hs : List NumberedFolder) where
  gone_are : (g : PassSoFar) (es : Rows) → (gather_all hs g es).gone ≡ g.gone ++ gone_in hs es
  gone_are g [] = sym (append_none g.gone)
  gone_are g (e ∷ es) =
      elim (shown hs e.1.mark) as (λ (o : Option Placed). (gather_all hs (gather_where o g e) es).gone
      ≡ g.gone ++ map gone_of (cond (not (is_some o)) (e ∷ filter (is_hidden hs) es) (filter (is_hidden hs) es))) [
        | None ↦ gone_are (gather_where None g e) es ∙ append_assoc g.gone (gone_of e ∷ []) (gone_in hs es)
        | Some p ↦ gone_are (gather_where (Some p) g e) es
      ]

  changed_are : (g : PassSoFar) (es : Rows) → (gather_all hs g es).changed ≡ g.changed ++ changes_in hs es
  changed_are g [] = sym (append_none g.changed)
  changed_are g (e ∷ es) =
      elim (shown hs e.1.mark) as (λ (o : Option Placed). (gather_all hs (gather_where o g e) es).changed ≡ g.changed ++ (changes_where o e ++ changes_in hs es)) [
        | None ↦ changed_are (gather_where None g e) es
        | Some p ↦ changed_are (gather_where (Some p) g e) es ∙ append_assoc g.changed (change_where (is_moved e.1 p) e.0) (changes_in hs es)
      ]

  updates_are : (g : PassSoFar) (es : Rows) → (gather_all hs g es).updates ≡ g.updates ++ updates_in hs es
  updates_are g [] = sym (append_none g.updates)
  updates_are g (e ∷ es) =
      elim (shown hs e.1.mark) as (λ (o : Option Placed). (gather_all hs (gather_where o g e) es).updates ≡ g.updates ++ (updates_where o e ++ updates_in hs es)) [
        | None ↦ updates_are (gather_where None g e) es
        | Some p ↦ updates_are (gather_where (Some p) g e) es ∙ append_assoc g.updates (update_where (is_another e.1 p) e.0 p) (updates_in hs es)
      ]

  -- ---- the rows, in order

  all_put : (P : ℕ → Type 0) (k : ℕ) (o : Option EmailRow) (rest : Rows) → P k → AllByRecursion P (keys_of rest) → AllByRecursion P (keys_of (put_remaining k o rest))
  all_put P k None rest here later = later
  all_put P k (Some w) rest here later = (here, later)

  -- what holds of each number holds of those that remain
  pub all_remaining : (P : ℕ → Type 0) (es : Rows) → AllByRecursion P (keys_of es) → AllByRecursion P (keys_of (remaining hs es))
  all_remaining P [] h = tt
  all_remaining P (e ∷ es) h = all_put P e.0 (remaining_row hs e.1) (remaining hs es) h.0 (all_remaining P es h.1)

  sorted_put : (k : ℕ) (o : Option EmailRow) (rest : Rows) → AllByRecursion (λ y. nat_cmp k y ≡ Less) (keys_of rest) → IsStrictlySortedBy nat_cmp (keys_of rest)
      → IsStrictlySortedBy nat_cmp (keys_of (put_remaining k o rest))
  unfolding IsStrictlySortedBy
  sorted_put k None rest below later = later
  sorted_put k (Some w) rest below later = (below, later)

  -- the rows that remain are in order
  pub sorted_remaining : (es : Rows) → IsStrictlySortedBy nat_cmp (keys_of es) → IsStrictlySortedBy nat_cmp (keys_of (remaining hs es))
  unfolding IsStrictlySortedBy
  sorted_remaining [] h = h
  sorted_remaining (e ∷ es) h =
      sorted_put e.0 (remaining_row hs e.1) (remaining hs es) (all_remaining (λ y. nat_cmp e.0 y ≡ Less) es h.0) (sorted_remaining es h.1)

  -- ---- the loop

  -- a turn of the loop: one row is gathered
  pub pass_more : (g k : PassSoFar) (e : ℕ × EmailRow) (rest rows : Rows) (all : PassSoFar) → rows ≡ e ∷ rest → k ≡ gather_one hs g e
      → gather_all hs g rows ≡ all → gather_all hs k rest ≡ all
  pass_more g k e rest rows all is made so_far = ap (λ (x : PassSoFar). gather_all hs x rest) made ∙ sym (ap (gather_all hs g) is) ∙ so_far

  -- the end of the loop: no row is left
  pub pass_ended : (g : PassSoFar) (rows : Rows) (all : PassSoFar) → rows ≡ [] → gather_all hs g rows ≡ all → g ≡ all
  pass_ended g rows all is so_far = sym (ap (gather_all hs g) is) ∙ so_far

  -- the pass gathers what goes
  pub all_gone : (es : Rows) → (gather_all hs none_passed es).gone ≡ gone_in hs es
  all_gone es = gone_are none_passed es

  -- the pass gathers the changes
  pub all_changed : (es : Rows) → (gather_all hs none_passed es).changed ≡ changes_in hs es
  all_changed es = changed_are none_passed es

  -- the pass gathers the updates
  pub all_updates : (es : Rows) → (gather_all hs none_passed es).updates ≡ updates_in hs es
  all_updates es = updates_are none_passed es
