use Rattle.std.proofs.Common.{◌≡◌, ◌<◌, ◌^◌, ℕ, List, Option, Some, None, refl, sym, ap, ◌∙◌, subst, option_map, option_and_then, arith}
use Rattle.change_list.specs.Advance.{row_at}
use Rattle.std.specs.List.{All}
use Rattle.std.specs.Map.{keys_of}
use Rattle.mail_state.specs.State.{ServedRows}
use Rattle.mail_maps.specs.declared.row.EmailRow.{EmailRow}
use Rattle.jmap_arguments.specs.Ids.{email_letter}
use Rattle.set_given.specs.Given as spec
use Rattle.set_given.specs.reading.Givens.{email_at}
use Rattle.set_given.proofs.NumberLemmas.{row_found, row_missed}
use Rattle.set_given.proofs.given.email_by_id.Goals as goal

pub returns-in-None : goal.returns-in-None
returns-in-None c g is =
    let small : All (λ k. k < 2 ^ 64) (keys_of g.history.numbered.rows) =
    subst (λ (r : ServedRows). All (λ k. k < 2 ^ 64) (keys_of r.numbered.rows)) is.state.rows c.count-count.ensures.small in
    sym (ap (option_and_then (spec.shown_row g)) (row_missed email_letter c.args.id.now g.history.numbered.rows (λ n fits. c.in-None.ensures.none refl n fits) small))

-- the row of a number, with the number
row_shown : (g : spec.Given) (n : ℕ) (o : Option EmailRow) → email_at g n o ≡ option_and_then (spec.shown_row g) (option_map (λ (row : EmailRow). (n, row)) o)
row_shown g n None = refl
row_shown g n (Some row) = refl

pub returns-in-Some : goal.returns-in-Some
returns-in-Some c g is =
    let n = c.in-Some.number in
    let rows = g.history.numbered.rows in
    let small : All (λ k. k < 2 ^ 64) (keys_of rows) =
    subst (λ (r : ServedRows). All (λ k. k < 2 ^ 64) (keys_of r.numbered.rows)) is.state.rows c.count-count.ensures.small in
    c.email_numbered.ensures g is ∙ row_shown g n (row_at rows n)
    ∙ sym (ap (option_and_then (spec.shown_row g)) (row_found email_letter n rows (omega arith) small))
    ∙ sym (ap (λ (id : List ℕ). spec.email_by_id g id) c.in-Some.ensures.some)
