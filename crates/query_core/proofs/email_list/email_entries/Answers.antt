use Rattle.std.proofs.Common.{ap, ◌∙◌, ◌++◌, List, ℕ}
use Rattle.std.proofs.lemmas.List.{map-append}
use Rattle.served_maps.specs.Past.{served}
use Rattle.mail_maps.specs.Serve.{Email, email_of}
use Rattle.mail_maps.specs.declared.row.EmailRow.{EmailRow}
use Rattle.query_conditions.specs.Entries.{email_at, emails_at}
use Rattle.query_conditions.specs.declared.entry.EmailEntry.{EmailEntry}
use Rattle.query_core.proofs.EntryLemmas.{entries_all, entries_in_order, entries_more}
use Rattle.query_core.proofs.email_list.email_entries.Goals as goal

pub loop-number-preserved : goal.loop-number-preserved
loop-number-preserved c =
    let l = c.loop-number in
    let e : ℕ × EmailRow = (c.in-Some.number.now, c.in-Some.row.now) in
    let left = c.next.new.self in
    let more = ap emails_at c.in_ok-push.ensures.items ∙ map-append (λ (x : EmailEntry). (x.number, email_at x)) l.entries.items _ in
    ap (λ (es : List (ℕ × Email)). es ++ served email_of left) more
    ∙ entries_more email_of e left l.number-iterator c.args.state.now.rows.numbered.rows (emails_at l.entries.items) c.in-Some.ensures.steps l.invariant

pub returns-clause-rows : goal.returns-clause-rows
returns-clause-rows c =
    let l = c.loop-number in
    entries_all email_of l.number-iterator c.args.state.now.rows.numbered.rows (emails_at l.entries.items) c.in-None.ensures.steps.0 l.invariant

pub returns-clause-ascending : goal.returns-clause-ascending
returns-clause-ascending c =
    entries_in_order email_of c.args.state.now.rows.numbered.rows (emails_at c.loop-number.entries.items) c.count-count.ensures.ascending (returns-clause-rows c)
