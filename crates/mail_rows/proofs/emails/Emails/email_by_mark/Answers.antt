use Rattle.std.proofs.Common.{◌≡◌, ℕ, ◌∙◌, sym, ap, subst, nat_cmp}
use Rattle.std.specs.BTreeMap.{get}
use Rattle.change_list.specs.Advance.{row_at}
use Rattle.mail_rows.specs.NumberedRows.{NumberedRows}
use Rattle.mail_rows.specs.reading.Indexes.{number_of}
use Rattle.mail_rows.proofs.LookLemmas.{led_to, none_has_mark}
use Rattle.mail_rows.proofs.emails.Emails.email_by_mark.Goals as goal

pub returns-in-Some : goal.returns-in-Some
returns-in-Some c =
    let P : NumberedRows → Type 0 = λ n. (q : ℕ) → get nat_cmp c.self.inside.marks q ≡ number_of n.rows q in
    let are = subst P c.self.view_is c.self.invariant.marks_are in
    led_to c.args.self.now.rows c.args.mark c.in-Some.number.now _ c.are_in_order.ensures.sorted
    (sym (are c.args.mark) ∙ sym c.in-Some.ensures.value)
    (c.get-in-Some.ensures.value ∙ ap (λ (n : NumberedRows). row_at n.rows c.in-Some.number.now) c.self.view_is)

pub returns-in-None : goal.returns-in-None
returns-in-None c =
    let P : NumberedRows → Type 0 = λ n. (q : ℕ) → get nat_cmp c.self.inside.marks q ≡ number_of n.rows q in
    let are = subst P c.self.view_is c.self.invariant.marks_are in
    none_has_mark c.args.self.now.rows c.args.mark (sym (are c.args.mark) ∙ sym c.in-None.ensures.value)
