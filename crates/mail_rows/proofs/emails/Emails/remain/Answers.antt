use Rattle.std.proofs.Common.{◌∙◌, ap, sym, subst, List, nat_cmp}
use Rattle.std.specs.BTreeMap.{get}
use Rattle.std.specs.List.Sorted.{IsStrictlySortedBy}
use Rattle.std.specs.Map.{keys_of}
use Rattle.mail_rows.specs.NumberedRows.{NumberedRows}
use Rattle.mail_rows.specs.declared.remaining.RemovedEmail.{RemovedEmail}
use Rattle.mail_rows.specs.reading.Indexes.{number_left, members_left}
use Rattle.mail_rows.proofs.IndexLemmas.{indexes_left}
use Rattle.mail_rows.proofs.emails.Emails.remain.Goals as goal

pub invariant_of-emails : goal.invariant_of-emails
invariant_of-emails c =
    let S : NumberedRows → Type 0 = λ n. IsStrictlySortedBy nat_cmp (keys_of n.rows) in
    indexes_left c.args.mirror.now.mail.folders c.self.inside.rows.entries c.in_ok-rows.field-0.rows.entries c.self.inside.next c.in_ok-rows.field-0.gone.items
    c.self.inside.marks c.forget_marks.new.marks c.self.inside.book c.forget_members.new.book
    (subst S (sym c.self.view_is) c.are_in_order.ensures.sorted) c.self.invariant c.in_ok-rows.ensures.rows c.in_ok-rows.ensures.gone
    (λ q. c.forget_marks.ensures q ∙ ap (λ (gs : List RemovedEmail). number_left gs q (get nat_cmp c.self.inside.marks q)) c.as_slice.ensures.value)
    (c.forget_members.ensures ∙ ap (λ (gs : List RemovedEmail). members_left gs c.self.inside.book) c.as_slice-2.ensures.value)
