use Rattle.std.proofs.Common.{◌∙◌, ◌+◌, ℕ, List, ap, sym, subst}
use Rattle.thread_rule.specs.declared.member.Named.{Named}
use Rattle.mail_maps.specs.declared.row.EmailRow.{EmailRow}
use Rattle.mail_maps.specs.Envelope.{IsEnvelopeOf}
use Rattle.mail_maps.specs.Visible.{Placed}
use Rattle.mail_rows.specs.NumberedRows.{NumberedRows}
use Rattle.mail_rows.specs.Joining.{members_of}
use Rattle.mail_rows.specs.reading.Indexes.{with_last}
use Rattle.mail_rows.proofs.ArrivalLemmas.{not_member, rows_put, indexes_put, row_joins}
use Rattle.mail_rows.proofs.emails.Emails.with_arrival.Goals as goal

pub join-requires : goal.join-requires
join-requires c =
    not_member c.self.inside.rows.entries c.self.inside.next c.in_ok-named.named.email c.self.inside.marks c.self.inside.book c.self.invariant
    (ap (λ (n : Named). n.email) c.in_ok-named.ensures)

pub invariant_of-result : goal.invariant_of-result
invariant_of-result c =
    indexes_put c.self.inside.rows.entries c.insert-2.new.self.entries c.self.inside.next c.in_ok-row.row c.in_ok-named.named c.in_ok-thread.thread c.self.inside.marks
    c.insert.new.self c.self.inside.book c.join.new.self c.self.invariant c.in_ok-insert-2.ensures.entries
    (ap (λ (n : Named). n.email) c.in_ok-named.ensures)
    (ap (λ (n : Named). n.ids) c.in_ok-named.ensures ∙ sym (ap (λ (r : EmailRow). r.envelope.ids) c.in_ok-row.ensures))
    (ap (λ (n : Named). n.base) c.in_ok-named.ensures ∙ sym (ap (λ (r : EmailRow). r.envelope.base) c.in_ok-row.ensures))
    (sym (ap (λ (r : EmailRow). r.thread) c.in_ok-row.ensures))
    c.in_ok-insert.ensures.updates.0 c.in_ok-thread.ensures.puts

pub returns : goal.returns
returns c =
    let R : List ℕ → Type 0 = λ h. IsEnvelopeOf h c.in_ok-envelope.envelope in
    let read : IsEnvelopeOf c.args.arrival.message.header c.in_ok-envelope.envelope =
    subst R (c.as_slice.ensures ∙ ap (λ (p : Placed). p.message.header) c.arrival.view_is) c.in_ok-envelope.ensures in
    row_joins c.args.self c.args.arrival c.in_ok-envelope.envelope c.in_ok-named.named c.self.inside.book c.self.inside.next c.in_ok-thread.thread c.in_ok-row.row
    (record { rows = c.insert-2.new.self.entries; next = c.self.inside.next + 1 })
    c.are_in_order.ensures.sorted (c.self.invariant.book_is ∙ ap (λ (n : NumberedRows). members_of n.rows) c.self.view_is) (ap (λ (n : NumberedRows). n.next) c.self.view_is)
    c.in_ok-named.ensures c.in_ok-thread.ensures.thread c.in_ok-row.ensures read
    (rows_put c.self.inside.rows.entries c.insert-2.new.self.entries c.self.inside.next c.in_ok-row.row c.self.invariant.below c.in_ok-insert-2.ensures.entries
    ∙ ap (λ (n : NumberedRows). with_last n c.in_ok-row.row) c.self.view_is)
